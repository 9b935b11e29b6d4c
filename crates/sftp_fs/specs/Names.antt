-- Calls of one request that its NAME ends.
use Rattle.std.specs.Prelude.{◌≡◌, ℕ, false, List, Result, Ok, Err, None, refl}
use Rattle.sftp_model.specs.declared.answers.Expected.TheVariants as expected
use Rattle.sftp_model.specs.declared.error.Error.{Error}
use Rattle.sftp_model.specs.declared.outcome.Outcome.{Outcome}
use Rattle.sftp_model.specs.declared.outcome.Outcome.TheVariants as outcome
use Rattle.sftp_model.specs.declared.slot.Move.TheVariants.{Done, Wait}
use Rattle.sftp_model.specs.declared.slot.Site.{Site}
use Rattle.plan_model.specs.Moves.{Answers, Own, once_answered}
use Rattle.plan_model.specs.PathPlans.{named_by}
use Rattle.plan_state.specs.Runners.{Meaning}
use Rattle.sftp_fs.specs.declared.path_call.Naming.{Naming}

-- The outcome of a call that returns a path.
abbrev pub path_outcome : Result (List ℕ) Error → Outcome
path_outcome (Ok path) = outcome.Path path
path_outcome (Err e) = outcome.Refused e

-- The meaning of such a call, in any lane: it changes nothing.
abbrev pub name_meaning : Meaning Site Naming (List ℕ)
name_meaning =
    record {
      left = λ site m later answers. once_answered 1 (answers 1) (named_by site);
      place = λ m. 1;
      expected = λ m. expected.FirstName;
      cut = λ m asking. Unit {0};
      ended = λ site m value. Done (path_outcome value) site;
      known = λ m answers. Unit {0};
      stays = λ m next. Unit {0};
      ready = λ m. ⊥;
      first = λ site m. Wait 1;
      again = false;
      grant = λ value. None;
    }

pub names_wait : (site : Site) (m : Naming) (later : Own) (answers : Answers) → answers 1 ≡ None
    → once_answered 1 (answers 1) (named_by site) ≡ Wait 1
names_wait site m later answers none = rw none refl
