-- Files that are opened by a session.
use Rattle.std.specs.Prelude.{◌≡◌, ℕ, true, List, Option, None, Some, Result, Err}
use Rattle.sftp_model.specs.declared.error.Error.{Error}
use Rattle.sftp_model.specs.declared.error.Error.TheVariants as error
use Rattle.sftp_model.specs.declared.error.Fault.{Fault}
use Rattle.sftp_model.specs.declared.open_options.OpenOptions.{OpenOptions}
use Rattle.sftp_model.specs.OpenOptions.{flags_of, nothing_chosen}
use Rattle.plan_state.specs.Calls.{CallValue}
use Rattle.sftp_file.specs.Opens.{OpenStarts}
use Rattle.sftp_file.specs.declared.opens.Opening.{Opening}
use Rattle.sftp_client.specs.Sessions.{SftpValue, with_core}

-- The options to open a file for reading.
abbrev pub to_read : OpenOptions
to_read = record nothing_chosen { read = true }

-- The options to open a file for writing: it is created if it is missing, and truncated if it exists.
abbrev pub to_create : OpenOptions
to_create = record nothing_chosen { write = true; truncate = true; create = true }

-- A recorded fault is reported first. Without one the OPEN was submitted or refused, and nothing of the session but its
-- core changed.
abbrev pub OpensUnless : {L : Type 0} → Option Fault → OpenOptions → List ℕ → SftpValue L → SftpValue L
    → Result (CallValue Opening) Error → Type 0
OpensUnless (Some fault) options path old new result = (result ≡ Err (error.BackgroundTaskFailure fault)) × (new ≡ old)
OpensUnless None options path old new result = OpenStarts (flags_of options) path old.core new.core result
    × (new ≡ with_core old new.core)

-- A file is opened with these options.
abbrev pub OpensFile : {L : Type 0} → OpenOptions → List ℕ → SftpValue L → SftpValue L
    → Result (CallValue Opening) Error → Type 0
OpensFile options path old new result = OpensUnless old.core.fault options path old new result
