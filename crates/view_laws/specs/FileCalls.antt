-- believed: bare
-- The results and effects of calls on the first slot, over a server whose choices refuse nothing: by its files alone,
-- without a request.
use Rattle.std.specs.Prelude.{
  ◌≡◌,
  ◌≤◌,
  ◌<◌,
  ◌⊎◌,
  ◌+◌,
  ◌^◌,
  ℕ,
  Bool,
  true,
  false,
  List,
  [],
  ◌∷◌,
  ◌++◌,
  length,
  drop,
  Option,
  Some,
  None,
  Ok,
  Err,
}
use Rattle.std.specs.declared.io.traits.SeekFrom.TheVariants as position
use Rattle.sftp_model.specs.Numbers.{SSH_FXF_APPEND, SSH_FXF_READ, SSH_FXF_WRITE}
use Rattle.sftp_model.specs.OpenOptions.{flags_of}
use Rattle.sftp_model.specs.Readings.{has_bit}
use Rattle.sftp_model.specs.declared.outcome.Outcome.{Outcome}
use Rattle.sftp_model.specs.declared.reply.Reply.{Reply}
use Rattle.sftp_model.specs.declared.reply.Reply.TheVariants as reply
use Rattle.machine_model.specs.Components.{Name, components}
use Rattle.machine_model.specs.FileTree.{FileTree, bytes_of, node_at, size_of}
use Rattle.machine_model.specs.HandleRequests.{after_open}
use Rattle.machine_model.specs.declared.node.Node.{Node}
use Rattle.machine_model.specs.declared.node.Node.TheVariants as node
use Rattle.plan_model.specs.declared.call.Call.{Call}
use Rattle.plan_model.specs.declared.call.Call.TheVariants as call
use Rattle.plan_model.specs.FilePlans.{open_request}
use Rattle.sftp_model.specs.Frames.{is_too_long}
use Rattle.view_model.specs.Plain.{pieces, put_pieces}
use Rattle.view_model.specs.Viewed.{Found, found_in}
use Rattle.view_model.specs.declared.answer.Answer.{Answer}
use Rattle.view_model.specs.declared.answer.Answer.TheVariants as answer

-- ---- The files at a call

-- A file that is open, and the offset of its next read or write.
pub record OpenFilePlace : Type 0 where
  pub file : ℕ
  pub readable : Bool
  pub writable : Bool
  pub offset : ℕ

-- The files and directories, without handles, and the file in the slot.
pub record FilesAt : Type 0 where
  pub tree : FileTree
  pub slot : Option OpenFilePlace

abbrev pub bare : FileTree → FileTree
bare tree = record tree { handles = [] }

-- Nothing is open.
abbrev pub at_rest : FileTree → FilesAt
at_rest tree = record { tree = bare tree; slot = None }

-- A file of these files and directories is open.
abbrev pub files_with_open : FileTree → OpenFilePlace → FilesAt
files_with_open tree s = record { tree = bare tree; slot = Some s }

-- ---- Permitted calls

abbrev pub IsStanding : Option OpenFilePlace → Type 0
IsStanding None = ⊥
IsStanding (Some s) = Unit {0}

-- At least one byte is read, within the greatest offset.
abbrev pub MayRead : Option OpenFilePlace → ℕ → Type 0
MayRead None n = ⊥
MayRead (Some s) n = (s.readable ≡ true) × (1 ≤ n) × (s.offset + n < 2 ^ 64)

-- Bytes are written, within the greatest offset.
abbrev pub MayWrite : Option OpenFilePlace → List ℕ → Type 0
MayWrite None bytes = ⊥
MayWrite (Some s) bytes = (s.writable ≡ true) × (s.offset + length bytes < 2 ^ 64)

-- The call is one on the first slot, and its requirements are met.
abbrev pub MayCall : FilesAt → Call → Type 0
MayCall at (call.OpenFile slot options path) = (slot ≡ 0) × (at.slot ≡ None)
    × (has_bit (flags_of options).0 SSH_FXF_APPEND ≡ false)
    × (is_too_long (open_request (flags_of options) path) ≡ false)
MayCall at (call.Seek slot (position.Start n)) = (slot ≡ 0) × IsStanding at.slot
MayCall at (call.Read slot n) = (slot ≡ 0) × MayRead at.slot n
MayCall at (call.WriteAll slot bytes) = (slot ≡ 0) × MayWrite at.slot bytes
MayCall at (call.Close slot) = (slot ≡ 0) × IsStanding at.slot
MayCall at other = ⊥

-- ---- The result and effect of each call

-- A file that was opened with these flags is at its start.
abbrev pub at_start : ℕ → ℕ → OpenFilePlace
at_start flags file = record {
  file = file;
  readable = has_bit flags SSH_FXF_READ;
  writable = has_bit flags SSH_FXF_WRITE;
  offset = 0;
}

-- The file that has the name then is open.
abbrev pub OpensNode : ℕ → FileTree → Option Node → FilesAt → Type 0
OpensNode flags left (Some (node.File file)) now = now ≡ files_with_open left (at_start flags file)
OpensNode flags left other now = ⊥

-- The result by the machine's answer to the OPEN.
abbrev pub OpensBy : ℕ → Name → FilesAt → Reply × FileTree → Found → FilesAt → Type 0
OpensBy flags name before (reply.Status code message language, left) found now = (found ≡ Err code) × (now ≡ before)
OpensBy flags name before (other, left) found now = (found ≡ Ok []) × OpensNode flags left (node_at left name) now

abbrev pub SeeksFile : ℕ → FilesAt → Option OpenFilePlace → FilesAt → Type 0
SeeksFile n before None now = ⊥
SeeksFile n before (Some s) now = now ≡ files_with_open before.tree (record s { offset = n })

-- The file has no byte at the offset.
pub record TellsEnd (s : OpenFilePlace) (before : FilesAt) (found : Found) (now : FilesAt) : Type 0 where
  pub behind : size_of before.tree s.file ≤ s.offset
  pub found_is : found ≡ Ok []
  pub now_is : now ≡ files_with_open before.tree s

-- The bytes at the offset, at least one.
pub record BringsBytes (n : ℕ) (s : OpenFilePlace) (before : FilesAt) (found : Found) (now : FilesAt) : Type 0 where
  pub bytes : List ℕ
  pub rest : List ℕ
  pub some : 1 ≤ length bytes
  pub most : length bytes ≤ n
  pub are : drop s.offset (bytes_of before.tree s.file) ≡ bytes ++ rest
  pub found_is : found ≡ Ok bytes
  pub now_is : now ≡ files_with_open before.tree (record s { offset = s.offset + length bytes })

abbrev pub ReadsFound : ℕ → FilesAt → Option OpenFilePlace → Found → FilesAt → Type 0
ReadsFound n before None found now = ⊥
ReadsFound n before (Some s) found now = TellsEnd s before found now ⊎ BringsBytes n s before found now

-- The result from which an answer was made.
abbrev pub found_by : Answer → Found
found_by (answer.Refused code) = Err code
found_by other = Ok []

-- The bytes were written in pieces, up to the first that a limit refuses.
pub record WritesAt (write_len : ℕ) (bytes : List ℕ) (s : OpenFilePlace) (before : FilesAt) (found : Found)
    (now : FilesAt)
    : Type 0 where
  pub to : ℕ
  pub found_is : found ≡ found_by
      (put_pieces before.tree s.file s.offset (pieces (length bytes) write_len bytes)).0
  pub now_is : now ≡ files_with_open
      (put_pieces before.tree s.file s.offset (pieces (length bytes) write_len bytes)).1
      (record s { offset = to })

abbrev pub WritesFile : ℕ → List ℕ → FilesAt → Option OpenFilePlace → Found → FilesAt → Type 0
WritesFile write_len bytes before None found now = ⊥
WritesFile write_len bytes before (Some s) found now = WritesAt write_len bytes s before found now

-- One call, if a WRITE carries at most `write_len` bytes.
abbrev pub CallEffect : ℕ → FilesAt → Call → Found → FilesAt → Type 0
CallEffect write_len before (call.OpenFile slot options path) found now =
    OpensBy (flags_of options).0 (components path) before
    (after_open before.tree [] (flags_of options).0 (components path) (node_at before.tree (components path))) found now
CallEffect write_len before (call.Seek slot (position.Start n)) found now = SeeksFile n before before.slot now
CallEffect write_len before (call.Read slot n) found now = ReadsFound n before before.slot found now
CallEffect write_len before (call.WriteAll slot bytes) found now =
    WritesFile write_len bytes before before.slot found now
CallEffect write_len before (call.Close slot) found now = now ≡ at_rest before.tree
CallEffect write_len before other found now = ⊥

-- Calls one after another, and their outcomes. Each permitted call had its result and effect. If nothing is open at the
-- end, these are the files and directories that are left.
abbrev pub AllDid : ℕ → FilesAt → List Call → List Outcome → FileTree → Type 0
AllDid write_len before [] outcomes left = before.slot ≡ None → before.tree ≡ bare left
AllDid write_len before (c ∷ calls) [] left = ⊥
AllDid write_len before (c ∷ calls) (o ∷ outcomes) left = MayCall before c
    → (mid : FilesAt) × (CallEffect write_len before c (found_in o) mid × AllDid write_len mid calls outcomes left)
