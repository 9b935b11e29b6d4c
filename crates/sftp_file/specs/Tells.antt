-- Calls of one request that its ATTRS end.
use Rattle.std.specs.Prelude.{◌≡◌, false, None, refl}
use Rattle.sftp_model.specs.declared.answers.Expected.TheVariants as expected
use Rattle.sftp_model.specs.declared.file_attrs.FileAttrs.{FileAttrs}
use Rattle.sftp_model.specs.declared.slot.Move.TheVariants.{Done, Wait}
use Rattle.sftp_model.specs.declared.slot.Site.{Site}
use Rattle.plan_model.specs.Moves.{Answers, Own, once_answered, told_by}
use Rattle.plan_state.specs.Runners.{Meaning}
use Rattle.sftp_file.specs.declared.short_calls.Telling.{Telling}
use Rattle.sftp_file.specs.Outcomes.{attrs_outcome}

-- The meaning of such a call, in any lane: it changes nothing.
abbrev pub attrs_meaning : Meaning Site Telling FileAttrs
attrs_meaning =
    record {
      left = λ site m later answers. once_answered 1 (answers 1) (told_by site);
      place = λ m. 1;
      expected = λ m. expected.Attrs;
      cut = λ m asking. Unit {0};
      ended = λ site m value. Done (attrs_outcome value) site;
      known = λ m answers. Unit {0};
      stays = λ m next. Unit {0};
      ready = λ m. ⊥;
      first = λ site m. Wait 1;
      again = false;
      grant = λ value. None;
    }

pub tells_wait : (site : Site) (m : Telling) (later : Own) (answers : Answers) → answers 1 ≡ None
    → once_answered 1 (answers 1) (told_by site) ≡ Wait 1
tells_wait site m later answers none = rw none refl
