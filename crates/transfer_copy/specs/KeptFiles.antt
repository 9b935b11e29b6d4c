-- The files of a server, by their names, while the part of a copy gets its name: no file is lost.
use Rattle.std.specs.Prelude.{◌≡◌, ◌≢◌, ◌⊎◌, ◌==◌, ℕ, Bool, false, List, Option, Some, None, if◌then◌else◌}
use Rattle.sftp_model.specs.Numbers.{SSH_FX_OK}
use Rattle.sftp_model.specs.declared.reply.Reply.{Reply}
use Rattle.sftp_model.specs.declared.reply.Reply.TheVariants as reply
use Rattle.sftp_model.specs.declared.request.Request.{Request}
use Rattle.sftp_model.specs.declared.request.Request.TheVariants as request
use Rattle.sftp_core.specs.Core.{Core}
use Rattle.transfer_copy.specs.declared.put.FilePut.{FilePut}
use Rattle.transfer_copy.specs.declared.put.PutStage.{PutStage}
use Rattle.transfer_copy.specs.declared.put.PutStage.TheVariants as stage
use Rattle.transfer_copy.specs.Asides.{aside_of}
use Rattle.transfer_copy.specs.Disks.{with_file}
use Rattle.transfer_copy.specs.Holdings.{file_reply}
use Rattle.transfer_copy.specs.PutRequests.{naming_request}

-- The bytes of the file that has a name, if one has it.
abbrev pub Files : Type 0
Files = List ℕ → Option (List ℕ)

-- The files after a request was carried out. Requests for attributes change none.
abbrev pub after_request : Request → Files → Files
after_request (request.Rename from to) files = with_file (with_file files from None) to (files from)
after_request (request.PosixRename from to) files = with_file (with_file files from None) to (files from)
after_request (request.Remove name) files = with_file files name None
after_request other files = files

abbrev pub is_ok : Option Reply → Bool
is_ok (Some (reply.Status code message language)) = code == SSH_FX_OK
is_ok other = false

-- The files after a step of the copy, on a server that carries out a request before it answers it with OK, and does not
-- carry out one that it answers otherwise.
abbrev pub files_after : List ℕ → List ℕ → Core → FilePut → Files → Files
files_after part remote core p files =
    if is_ok (file_reply core p.holding.file) then after_request (naming_request part remote p.stage) files else files

-- The name is neither that of the part nor the name aside.
pub record IsApart (part remote : List ℕ) : Type 0 where
  pub from_part : part ≢ remote
  pub from_aside : aside_of part ≢ remote

-- Of the files as the part file was closed: the old one has its name, or the name aside, or the new one has the name.
abbrev pub IsKept : List ℕ → List ℕ → Files → Files → Type 0
IsKept part remote closed files = (files remote ≡ closed remote)
    ⊎ (files (aside_of part) ≡ closed remote)
    ⊎ (files remote ≡ closed part)

-- The files at each stage of the end, before the request that is in flight is carried out.
abbrev pub AreAtStage : List ℕ → List ℕ → Files → Files → PutStage → Type 0
AreAtStage part remote closed files stage.Closing = files ≡ closed
AreAtStage part remote closed files stage.Replacing = files ≡ closed
AreAtStage part remote closed files stage.Renaming = files ≡ closed
AreAtStage part remote closed files stage.Checking = files ≡ closed
AreAtStage part remote closed files stage.SettingAside = files ≡ closed
AreAtStage part remote closed files stage.RenamingAgain =
    files ≡ after_request (request.Rename remote (aside_of part)) closed
AreAtStage part remote closed files stage.RemovingOld = files remote ≡ closed part
AreAtStage part remote closed files stage.RestoringOld =
    files ≡ after_request (request.Rename remote (aside_of part)) closed
AreAtStage part remote closed files stage.Ended = IsKept part remote closed files
AreAtStage part remote closed files other = ⊥
