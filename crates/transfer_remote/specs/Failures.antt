-- Why a call failed.
use Rattle.std.specs.Prelude.{Result, Ok, Err}
use Rattle.sftp_model.specs.declared.error.Error.{Error}
use Rattle.sftp_model.specs.declared.error.Error.TheVariants as error
use Rattle.transfer_remote.specs.declared.remote_error.RemoteError.{RemoteError}
use Rattle.transfer_remote.specs.declared.remote_error.RemoteError.TheVariants as remote

-- The failure by an error of the session.
abbrev pub remote_of : Error → RemoteError
remote_of error.OutOfMemory = remote.OutOfMemory
remote_of e = remote.Remote e

-- A result of the session, with its error as a failure.
abbrev pub remote_result : {V : Type 0} → Result V Error → Result V RemoteError
remote_result (Ok value) = Ok value
remote_result (Err e) = Err (remote_of e)
