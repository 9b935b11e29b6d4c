-- believed
-- The meaning of a status, and the failure of a copy by a reply, by a fault or without a request.
use Rattle.std.specs.Prelude.{◌≡◌, ◌⊎◌, ◌==◌, Bool, true, false, Some}
use Rattle.sftp_model.specs.Frames.{is_too_long}
use Rattle.sftp_model.specs.Numbers.{SSH_FX_FAILURE, SSH_FX_OK}
use Rattle.sftp_model.specs.declared.error.Error.TheVariants as error
use Rattle.sftp_model.specs.declared.error.Fault.{Fault}
use Rattle.sftp_model.specs.declared.error.IoKind.TheVariants as io
use Rattle.sftp_model.specs.declared.reply.Reply.{Reply}
use Rattle.sftp_model.specs.declared.reply.Reply.TheVariants as reply
use Rattle.sftp_model.specs.declared.request.Request.{Request}
use Rattle.sftp_core.specs.Core.{Core}
use Rattle.sftp_core.specs.declared.errors.SubmitError.{SubmitError}
use Rattle.sftp_core.specs.declared.errors.SubmitError.TheVariants as submit
use Rattle.transfer_copy.specs.declared.copy_error.CopyError.{CopyError}
use Rattle.transfer_copy.specs.declared.copy_error.CopyError.TheVariants as copy_error

-- The status is OK.
abbrev pub IsOkStatus : Reply → Type 0
IsOkStatus (reply.Status code message language) = code ≡ SSH_FX_OK
IsOkStatus other = ⊥

-- The failure by a reply that a request had in place of the expected one.
abbrev pub refusal_of : Reply → CopyError
refusal_of (reply.Status code message language) = copy_error.Remote (error.SftpError code message language)
refusal_of other = copy_error.TooLong

-- The failure by a fault that the core keeps.
abbrev pub faulted_by : Fault → CopyError
faulted_by fault = copy_error.Remote (error.BackgroundTaskFailure fault)

-- True if the server answered with the status FAILURE, which names no cause.
abbrev pub is_failure : CopyError → Bool
is_failure (copy_error.Remote (error.SftpError code message language)) = code == SSH_FX_FAILURE
is_failure other = false

-- The failure of a request that the core refused to submit.
abbrev pub unsubmitted_by : SubmitError → CopyError
unsubmitted_by (submit.Failed fault) = faulted_by fault
unsubmitted_by submit.TooLong = copy_error.Remote (error.IOError io.PathTooLong)
unsubmitted_by submit.OutOfMemory = copy_error.OutOfMemory

-- The failure of a request that could not be submitted: an allocation failed, the core keeps a fault, or the request is
-- too long for a frame.
abbrev pub IsUnasked : Core → Request → CopyError → Type 0
IsUnasked core asked e = (e ≡ copy_error.OutOfMemory)
    ⊎ ((fault : Fault) × (core.fault ≡ Some fault) × (e ≡ faulted_by fault))
    ⊎ ((is_too_long asked ≡ true) × (e ≡ unsubmitted_by submit.TooLong))
