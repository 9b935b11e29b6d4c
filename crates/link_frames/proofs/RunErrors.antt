-- The error of a refused frame is one that a run may return.
use Rattle.sftp_core.specs.Errors.{error_of}
use Rattle.sftp_core.specs.declared.errors.TakeError.{TakeError}
use Rattle.sftp_core.specs.declared.errors.TakeError.TheVariants as take
use Rattle.link_frames.specs.Causes.{IsRunError}

pub refusal_ends_runs : (e : TakeError) → IsRunError (error_of e)
refusal_ends_runs take.OutOfMemory = tt
refusal_ends_runs (take.Format kind) = tt
refusal_ends_runs (take.HandleTooLong len) = tt
refusal_ends_runs (take.InvalidResponseId id) = tt
refusal_ends_runs (take.InvalidResponse id) = tt
refusal_ends_runs (take.LimitsRefused code message language) = tt
refusal_ends_runs (take.Protocol version) = tt
