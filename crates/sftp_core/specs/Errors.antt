-- believed
-- The error that a caller gets for a refused frame.
use Rattle.sftp_model.specs.declared.error.Error.{Error}
use Rattle.sftp_model.specs.declared.error.Error.TheVariants as error
use Rattle.sftp_core.specs.declared.errors.TakeError.{TakeError}
use Rattle.sftp_core.specs.declared.errors.TakeError.TheVariants as take

-- Each refusal has one error, with the same numbers and texts.
abbrev pub error_of : TakeError → Error
error_of take.OutOfMemory = error.OutOfMemory
error_of (take.Format kind) = error.FormatError kind
error_of (take.HandleTooLong len) = error.HandleTooLong len
error_of (take.InvalidResponseId id) = error.InvalidResponseId id
error_of (take.InvalidResponse id) = error.InvalidResponse id
error_of (take.LimitsRefused code message language) = error.SftpError code message language
error_of (take.Protocol version) = error.UnsupportedSftpProtocol version
