-- Calls of one request that its STATUS ends.
use Rattle.std.specs.Prelude.{◌≡◌, false, None, refl}
use Rattle.sftp_model.specs.declared.answers.Expected.TheVariants as expected
use Rattle.sftp_model.specs.declared.outcome.Outcome.TheVariants as outcome
use Rattle.sftp_model.specs.declared.slot.Move.TheVariants.{Done, Wait}
use Rattle.sftp_model.specs.declared.slot.Site.{Site}
use Rattle.plan_model.specs.Moves.{Answers, Own, done_by, once_answered}
use Rattle.plan_state.specs.Runners.{Meaning}
use Rattle.sftp_file.specs.declared.short_calls.Settling.{Settling}
use Rattle.sftp_file.specs.Outcomes.{done_outcome}

-- The meaning of such a call, in any lane: it changes nothing.
abbrev pub settle_meaning : Meaning Site Settling (Unit {0})
settle_meaning =
    record {
      left = λ site m later answers. once_answered 1 (answers 1) (done_by site);
      place = λ m. 1;
      expected = λ m. expected.Status;
      cut = λ m asking. Unit {0};
      ended = λ site m value. Done (done_outcome value) site;
      known = λ m answers. Unit {0};
      stays = λ m next. Unit {0};
      ready = λ m. Unit {0};
      first = λ site m. Done outcome.Done site;
      again = false;
      grant = λ value. None;
    }

pub status_waits : (site : Site) (m : Settling) (later : Own) (answers : Answers) → answers 1 ≡ None
    → once_answered 1 (answers 1) (done_by site) ≡ Wait 1
status_waits site m later answers none = rw none refl
