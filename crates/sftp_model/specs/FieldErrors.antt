-- believed
-- The error of a field as an error of its frame.
use Rattle.ssh_encoding.specs.declared.error.Error.{Error}
use Rattle.ssh_encoding.specs.declared.error.Error.TheVariants as encoding
use Rattle.sftp_model.specs.declared.frame_error.FrameError.{FrameError}
use Rattle.sftp_model.specs.declared.frame_error.FrameError.TheVariants as errors
use Rattle.sftp_model.specs.declared.frame_error.FormatKind.TheVariants as kinds

abbrev pub frame_error : Error → FrameError
frame_error encoding.OutOfMemory = errors.OutOfMemory
frame_error encoding.Overflow = errors.Format kinds.Overflow
frame_error e = errors.Format kinds.Length
