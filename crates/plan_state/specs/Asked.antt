-- believed, except IsReady, IsUnsubmitted, refusal_of
-- A request of a call as it is to be submitted, and its effect on a core.
use Rattle.std.specs.Prelude.{◌≡◌, ◌<◌, ℕ, true, Some, None, IsTrue, IsSome}
use Rattle.std.specs.FinMap as fin
use Rattle.sftp_model.specs.declared.answers.Expected.{Expected}
use Rattle.sftp_model.specs.declared.error.Error.{Error}
use Rattle.sftp_model.specs.declared.error.Error.TheVariants as error
use Rattle.sftp_model.specs.declared.request.Request.{Request}
use Rattle.sftp_core.specs.Core.{Core, record_at, is_ticket, queued_last, queued_parts, write_of}
use Rattle.sftp_core.specs.Info.{MAX_IDS, info_of}
use Rattle.sftp_core.specs.Table.{expected_at}
use Rattle.plan_state.specs.declared.submission.Asking.{Asking}
use Rattle.plan_state.specs.declared.submission.Asking.TheVariants.{Whole, Parts}
use Rattle.plan_state.specs.declared.submission.Unsubmitted.{Unsubmitted}
use Rattle.plan_state.specs.declared.submission.Unsubmitted.TheVariants as unsubmitted

-- The request, whose parts are joined.
abbrev pub request_of : Asking → Request
request_of (Whole asked) = asked
request_of (Parts handle offset parts) = write_of handle offset parts

-- A request may be submitted.
pub record IsReady (core : Core) : Type 0 where
  pub opened : IsSome (info_of core.phase)
  pub few : fin.len core.table < MAX_IDS

-- The core counts this ticket, and its request expects such a reply.
pub record HoldsTicket (core : Core) (ticket : ℕ) (kind : Expected) : Type 0 where
  pub counted : IsTrue (is_ticket (record_at core ticket))
  pub expects : expected_at (record_at core ticket) ≡ Some kind

-- The request is last in the queue; parts are in the queue as they were passed in.
abbrev pub queued_by : Core → ℕ → Asking → Core
queued_by core ticket (Whole asked) = queued_last core ticket asked true
queued_by core ticket (Parts handle offset parts) = queued_parts core ticket handle offset parts

-- The request was submitted, and its ticket is out.
pub record SubmitsAsking (old : Core) (asking : Asking) (ticket : ℕ) (new : Core) : Type 0 where
  pub unfailed : old.fault ≡ None
  pub free : record_at old ticket ≡ None
  pub queued : new ≡ queued_by old ticket asking

-- The request was not submitted, and the core is unchanged.
abbrev pub IsUnsubmitted : Core → Core → Asking → Unsubmitted → Type 0
IsUnsubmitted old new asking (unsubmitted.Short same) = (same ≡ asking) × (new ≡ old)
IsUnsubmitted old new asking (unsubmitted.Failed fault) = (old.fault ≡ Some fault) × (new ≡ old)

-- The error that a start then returns.
abbrev pub refusal_of : Unsubmitted → Error
refusal_of (unsubmitted.Short asking) = error.OutOfMemory
refusal_of (unsubmitted.Failed fault) = error.BackgroundTaskFailure fault
