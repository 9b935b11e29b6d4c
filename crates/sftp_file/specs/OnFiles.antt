-- Calls that move a file.
use Rattle.std.specs.Prelude.{◌≡◌, Result}
use Rattle.sftp_model.specs.declared.error.Error.{Error}
use Rattle.sftp_model.specs.declared.slot.FileAt.{FileAt}
use Rattle.sftp_core.specs.Core.{Core}
use Rattle.plan_state.specs.Calls.{CallValue, MayPoll, StepsByPlan}
use Rattle.plan_state.specs.Runners.{Meaning}
use Rattle.plan_state.specs.declared.poll.Poll.{Poll}
use Rattle.sftp_file.specs.Files.{FileValue, IsMoved, file_at}

-- A call may be polled on the file that it works on.
pub record MayPollOn {W M V : Type 0} (s : Meaning W M V) (at : M → FileAt) (core : Core) (call : CallValue M)
    (file : FileValue) : Type 0 where
  pub poll : MayPoll s core call
  pub stands : at call.runner ≡ file_at file

-- The relation of a poll of such a call: the file is at the offset that the call has reached.
pub record PolledOn {W M V : Type 0} (s : Meaning W M V) (at : M → FileAt) (old new : Core) (p q : CallValue M)
    (before after : FileValue) (result : Poll (Result V Error)) : Type 0 where
  pub stepped : StepsByPlan s old new p q result
  pub moved : IsMoved before after (at q.runner)
