-- Effects of a poll on a buffered file, according to the plan of its call.
use Rattle.std.specs.Prelude.{◌≡◌, ◌⊎◌, ℕ, [], ◌∷◌, None, Some, Result, Ok, Err}
use Rattle.sftp_model.specs.declared.error.Error.{Error}
use Rattle.sftp_model.specs.declared.error.Error.TheVariants as error
use Rattle.sftp_model.specs.declared.outcome.Outcome.{Outcome}
use Rattle.sftp_model.specs.declared.outcome.Outcome.TheVariants as outcome
use Rattle.sftp_model.specs.declared.slot.Move.TheVariants.{Ask, Wait, Done}
use Rattle.plan_model.specs.Moves.{Answers, Plan}
use Rattle.sftp_core.specs.Core.{Core}
use Rattle.plan_state.specs.Asked.{SubmitsAsking, request_of}
use Rattle.plan_state.specs.Calls.{IsUnfinished}
use Rattle.plan_state.specs.declared.submission.Asking.{Asking}
use Rattle.plan_state.specs.declared.poll.Poll.{Poll}
use Rattle.plan_state.specs.declared.poll.Poll.TheVariants as poll
use Rattle.sftp_buffered.specs.Buffered.{CompatValue, lane_of}
use Rattle.sftp_buffered.specs.Steps.{AreTakenAlone, IsRestOf, after_written, with_deferred_write, read_dropped}

-- The plan waits for a reply, the core has recorded no fault, and this is what is left.
pub record PlanWaits (plan : Plan) (answers : Answers) (old : Core) (Left : Type 0) : Type 0 where
  pub place : ℕ
  pub waits : plan [] answers ≡ Wait place
  pub unfailed : old.fault ≡ None
  pub left : Left

-- The plan ends with this outcome, and nothing was submitted.
pub record EndsPoll (plan : Plan) (o : Outcome) (answers : Answers) (old new : Core) (p q : CompatValue) : Type 0 where
  pub ends : plan [] answers ≡ Done o (lane_of q)
  pub rest : IsRestOf old new p q

-- Any request may be cut into parts as it is.
abbrev pub AnyCut : Asking → Type 0
AnyCut asking = Unit {0}

-- The plan asks this request; it was submitted in such parts, and with it the plan has ended. The oldest writes may
-- then be gone. The request is the file's next one and the last deferred write. The file is after its bytes, and the
-- READ was given up.
pub record AsksAndEnds (plan : Plan) (o : Outcome) (Cut : Asking → Type 0) (answers : Answers) (old new : Core)
    (p q : CompatValue) : Type 0 where
  pub asking : Asking
  pub cut : Cut asking
  pub ticket : ℕ
  pub middle : Core
  pub asks : plan [] answers ≡ Ask (request_of asking)
  pub submitted : SubmitsAsking old asking ticket middle
  pub ends : plan ((p.place, request_of asking) ∷ []) answers ≡ Done o (lane_of q)
  pub rest : CompatValue
  pub between : Core
  pub stays : AreTakenAlone middle between p rest
  pub len : ℕ
  pub left : q ≡ after_written (with_deferred_write rest len ticket) len
  pub core : new ≡ read_dropped between rest.reading

-- The relation of a poll to its plan. `Pending`, running out of memory and a recorded fault leave what the parameters
-- say of them. A fault is reported if the plan is not at its end.
abbrev pub PollsPlan : {V : Type 0} → Type 0 → Type 0 → (Asking → Type 0) → Plan → (V → Outcome) → Answers → Core → Core
    → CompatValue → CompatValue → Poll (Result V Error) → Type 0
PollsPlan Due Left Cut plan o answers old new p q poll.Pending = Due
PollsPlan Due Left Cut plan o answers old new p q (poll.Ready (Err error.OutOfMemory)) = Left
PollsPlan Due Left Cut plan o answers old new p q (poll.Ready (Err (error.BackgroundTaskFailure fault))) =
    (old.fault ≡ Some fault) × IsUnfinished (plan [] answers) × Left
PollsPlan Due Left Cut plan o answers old new p q (poll.Ready (Ok value)) = EndsPoll plan (o value) answers old new p q
    ⊎ AsksAndEnds plan (o value) Cut answers old new p q
PollsPlan Due Left Cut plan o answers old new p q (poll.Ready (Err e)) =
    EndsPoll plan (outcome.Refused e) answers old new p q
