-- Copies between two files.
use Rattle.std.specs.Prelude.{◌≡◌, ℕ, false, [], ◌∷◌, None, Result, refl, IfOk}
use Rattle.sftp_model.specs.declared.answers.Expected.TheVariants as expected
use Rattle.sftp_model.specs.declared.error.Error.{Error}
use Rattle.sftp_model.specs.declared.outcome.Outcome.TheVariants as outcome
use Rattle.sftp_model.specs.declared.slot.FileAt.{FileAt}
use Rattle.sftp_model.specs.declared.slot.Move.TheVariants.{Done, Wait}
use Rattle.sftp_model.specs.declared.slot.Site.{Site}
use Rattle.sftp_model.specs.declared.slot.Slot.TheVariants as slots
use Rattle.plan_model.specs.FilePlans.{site_after_copy, copy_next}
use Rattle.plan_model.specs.Moves.{Answers, Own, Plan, handle_of, on_status, once_answered}
use Rattle.sftp_core.specs.Core.{Core}
use Rattle.plan_state.specs.Calls.{CallValue, IsUnderWay, MayPoll, StartsByPlan, StepsByPlan}
use Rattle.plan_state.specs.Keeping.{KeepsHeld}
use Rattle.plan_state.specs.Runners.{Meaning}
use Rattle.plan_state.specs.declared.poll.Poll.{Poll}
use Rattle.sftp_file.specs.Files.{FileValue, facts_of, file_in}
use Rattle.sftp_file.specs.Outcomes.{done_outcome}

-- A lane whose two slots hold these files.
abbrev pub two_slots : FileAt → FileAt → Site
two_slots source target = record { slots = slots.File source ∷ slots.File target ∷ []; directory = [] }

-- A copy of `len` bytes, with the offsets of both files.
pub record CopyValue : Type 0 where
  pub source : FileAt
  pub target : FileAt
  pub len : ℕ

-- The plan that is left of a copy: its status moves both files.
abbrev pub copy_left : CopyValue → Plan
copy_left m later answers =
    once_answered 2 (answers 2) (λ r. on_status r (two_slots m.source m.target)
    (Done outcome.Done (site_after_copy 0 1 m.source m.target m.len (two_slots m.source m.target))))

-- The meaning of a copy. The places 0 and 1 are those of the OPENs of both files.
abbrev pub copy_meaning : Meaning (Unit {0}) CopyValue (Unit {0})
copy_meaning =
    record {
      left = λ w. copy_left;
      place = λ m. 2;
      expected = λ m. expected.Status;
      cut = λ m asking. Unit {0};
      ended = λ w m value. Done (done_outcome value) (two_slots m.source m.target);
      known = λ m answers. Unit {0};
      stays = λ m next. (next.source ≡ record m.source { offset = next.source.offset })
          × (next.target ≡ record m.target { offset = next.target.offset });
      ready = λ m. ⊥;
      first = λ w m. Wait 2;
      again = false;
      grant = λ value. None;
    }

pub copies_wait : (w : Unit {0}) (m : CopyValue) (later : Own) (answers : Answers) → answers 2 ≡ None
    → copy_left m later answers ≡ Wait 2
copies_wait w m later answers none = rw none refl

-- ---- Start and poll

-- Both files, alone in a lane.
abbrev pub both : FileValue → FileValue → Site
both f g = two_slots (file_in 0 f) (file_in 1 g)

-- A start made the first move of the plan of a copy, for any replies to come.
pub record CopyStarts (f g : FileValue) (n : ℕ) (old new : Core) (result : Result (CallValue CopyValue) Error) : Type 0
  where
    pub starts : (answers : Answers) → handle_of (answers 0) ≡ f.grant.handle → handle_of (answers 1) ≡ g.grant.handle
        → StartsByPlan copy_meaning tt (λ e. Done (outcome.Refused e) (both f g))
        (copy_next 0 1 n (both f g) (facts_of old))
        answers
        old new result
    pub under_way : IfOk result (IsUnderWay copy_meaning new)
    pub files : IfOk result (λ call. (call.runner.source ≡ file_in 0 f) × (call.runner.target ≡ file_in 1 g))
    pub keeps : KeepsHeld old new

-- A copy may be polled on the files that it works on.
pub record MayCopy (core : Core) (call : CallValue CopyValue) (f g : FileValue) : Type 0 where
  pub poll : MayPoll copy_meaning core call
  pub source : call.runner.source ≡ file_in 0 f
  pub target : call.runner.target ≡ file_in 1 g

-- The offset of a file after a poll is the one in the call; nothing else of the file changed.
pub record StandsAt (place : ℕ) (old new : FileValue) (file : FileAt) : Type 0 where
  pub stands : file ≡ file_in place new
  pub rest : new ≡ record old { offset = new.offset }

-- The relation of a poll of a copy: both files are at the offsets that the call has reached.
pub record CopiesBetween (old new : Core) (p q : CallValue CopyValue) (f f' g g' : FileValue)
    (result : Poll (Result (Unit {0}) Error)) :
    Type 0 where
  pub stepped : StepsByPlan copy_meaning old new p q result
  pub source : StandsAt 0 f f' q.runner.source
  pub target : StandsAt 1 g g' q.runner.target
