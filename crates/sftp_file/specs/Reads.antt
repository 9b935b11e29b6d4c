-- Reads of a file.
use Rattle.std.specs.Prelude.{◌≡◌, ℕ, false, List, Option, None, refl}
use Rattle.sftp_model.specs.declared.answers.Expected.TheVariants as expected
use Rattle.sftp_model.specs.declared.outcome.Outcome.TheVariants as outcome
use Rattle.sftp_model.specs.declared.slot.FileAt.{FileAt}
use Rattle.sftp_model.specs.declared.slot.Move.TheVariants.{Done, Wait}
use Rattle.plan_model.specs.Moves.{Answers, Own, Plan, once_answered}
use Rattle.plan_model.specs.TransferPlans.{was_read}
use Rattle.plan_state.specs.Runners.{Meaning}
use Rattle.sftp_file.specs.Files.{one_slot}
use Rattle.sftp_file.specs.Outcomes.{read_outcome}

-- A READ of a file: the file at its offset, and the most bytes that were asked for.
pub record ReadValue : Type 0 where
  pub file : FileAt
  pub len : ℕ

-- The plan that is left of a read, which its reply decides.
abbrev pub read_left : ReadValue → Plan
read_left m later answers = once_answered 1 (answers 1) (was_read 0 m.file (one_slot m.file))

abbrev pub read_meaning : Meaning (Unit {0}) ReadValue (Option (List ℕ))
read_meaning =
    record {
      left = λ w. read_left;
      place = λ m. 1;
      expected = λ m. expected.Content m.len;
      cut = λ m asking. Unit {0};
      ended = λ w m value. Done (read_outcome value) (one_slot m.file);
      known = λ m answers. Unit {0};
      stays = λ m next. next.file ≡ record m.file { offset = next.file.offset };
      ready = λ m. Unit {0};
      first = λ w m. Done outcome.End (one_slot m.file);
      again = false;
      grant = λ value. None;
    }

pub read_waits : (w : Unit {0}) (m : ReadValue) (later : Own) (answers : Answers) → answers 1 ≡ None
    → read_left m later answers ≡ Wait 1
read_waits w m later answers none = rw none refl
