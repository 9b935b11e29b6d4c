-- believed
-- The requests of a copy to the server that name a file, and the extensions that it uses if the server offers them.
use Rattle.std.specs.Prelude.{ℕ, ◌==◌, Bool, true, false, List, Option, Some, None}
use Rattle.sftp_model.specs.Frames.{no_attributes}
use Rattle.sftp_model.specs.Numbers.{FSYNC, POSIX_RENAME}
use Rattle.sftp_model.specs.OpenOptions.{flags_of, nothing_chosen}
use Rattle.sftp_model.specs.Readings.{has_bit}
use Rattle.sftp_model.specs.declared.flags.OpenFlags.{OpenFlags}
use Rattle.sftp_model.specs.declared.request.Request.{Request}
use Rattle.sftp_model.specs.declared.request.Request.TheVariants as request
use Rattle.sftp_core.specs.Core.{Core}
use Rattle.sftp_core.specs.Info.{info_of}
use Rattle.sftp_core.specs.declared.info.Info.{Info}
use Rattle.transfer_copy.specs.Asides.{aside_of}
use Rattle.transfer_copy.specs.declared.put.PutStage.{PutStage}
use Rattle.transfer_copy.specs.declared.put.PutStage.TheVariants as stage

-- The flags of an open for writing from an offset on. From 0 the open must create the file, so the server refuses it if
-- an entry has the name, also a symbolic link; otherwise the file must exist.
abbrev pub write_flags : ℕ → OpenFlags
write_flags from = flags_of (record nothing_chosen { write = true; create_new = from == 0 })

-- The OPEN of the part file for writing from an offset on. If it creates the file, that has these permissions, as far
-- as the server permits them.
abbrev pub open_part : ℕ → Option ℕ → List ℕ → Request
open_part from mode part = request.OpenFile part (write_flags from) (record no_attributes { permissions = mode })

-- The request that is in flight at a stage of the end. The part gets the name at once, which replaces a file that has
-- it, or by a plain RENAME. If that is refused, the entry that has the name is looked for. It is renamed to the name
-- aside, the part gets the name, and the old file is removed. If the part did not get it, the old file is renamed back.
abbrev pub naming_request : List ℕ → List ℕ → PutStage → Request
naming_request part remote stage.Replacing = request.PosixRename part remote
naming_request part remote stage.Renaming = request.Rename part remote
naming_request part remote stage.SettingAside = request.Rename remote (aside_of part)
naming_request part remote stage.RenamingAgain = request.Rename part remote
naming_request part remote stage.RemovingOld = request.Remove (aside_of part)
naming_request part remote stage.RestoringOld = request.Rename (aside_of part) remote
naming_request part remote other = request.Lstat remote

-- The server offers this extension.
abbrev pub has_extension : ℕ → Option Info → Bool
has_extension bit (Some info) = has_bit info.extensions.0 bit
has_extension bit None = false

-- It offers the extension that replaces a file by a rename.
abbrev pub offers_rename : Core → Bool
offers_rename core = has_extension POSIX_RENAME (info_of core.phase)

-- It offers the extension that writes a file through to its disk.
abbrev pub offers_sync : Core → Bool
offers_sync core = has_extension FSYNC (info_of core.phase)
