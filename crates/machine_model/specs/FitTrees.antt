-- Trees whose replies fit a frame: no file is over its bound, and the last components of names and the entries of open
-- directories are short; and the replies that such a tree may give.
use Rattle.std.specs.Prelude.{◌≡◌, ℕ, ◌<◌, ◌≤◌, ◌^◌, ◌⊎◌, List, [], ◌∷◌, length, None, IfSome}
use Rattle.sftp_model.specs.declared.config.Limits.{Limits}
use Rattle.sftp_model.specs.declared.file_attrs.FileAttrs.{FileAttrs}
use Rattle.sftp_model.specs.declared.reply.NameEntry.{NameEntry}
use Rattle.sftp_model.specs.declared.reply.Reply.{Reply}
use Rattle.sftp_model.specs.declared.reply.Reply.TheVariants as reply
use Rattle.sftp_model.specs.declared.request.Request.{Request}
use Rattle.sftp_model.specs.declared.request.Request.TheVariants as request
use Rattle.sftp_model.specs.Frames.{limits_content, reply_body}
use Rattle.machine_model.specs.declared.opened.Opened.TheVariants as opened
use Rattle.sftp_model.specs.Numbers.{MAX_BODY_LEN, MAX_HANDLE_LEN, MAX_TRANSFER_LEN}
use Rattle.machine_model.specs.Components.{Name, last_of}
use Rattle.machine_model.specs.FileTree.{FileTree, size_of}
use Rattle.machine_model.specs.HandleRequests.{capped_at}
use Rattle.machine_model.specs.Limits.{DIRECTORY_PERMISSIONS, MAX_COMPONENT_LEN, MAX_FILE_LEN, MAX_NAME_ENTRIES}
use Rattle.machine_model.specs.NameRequests.{path_reply}
use Rattle.machine_model.specs.Pairs.{HasEntry}
use Rattle.machine_model.specs.declared.node.Node.{Node}

-- ---- Entries

-- Attributes as STAT reports them.
abbrev pub IsTold : FileAttrs → Type 0
IsTold a = IfSome a.size (λ n. n ≤ MAX_FILE_LEN) × (a.id ≡ None) × IfSome a.permissions (λ n. n ≤ DIRECTORY_PERMISSIONS)
    × (a.time ≡ None)

-- An entry of a listing.
abbrev pub IsShort : NameEntry → Type 0
IsShort e = (length e.filename ≤ MAX_COMPONENT_LEN) × (e.longname ≡ []) × IsTold e.attrs

abbrev pub AreShort : List NameEntry → Type 0
AreShort [] = Unit {0}
AreShort (e ∷ entries) = IsShort e × AreShort entries

-- A tree whose replies fit a frame.
pub record IsFit (tree : FileTree) : Type 0 where
  pub sizes : (file : ℕ) → size_of tree file ≤ MAX_FILE_LEN
  pub short : (name : Name) (n : Node) → HasEntry tree.names (name, n) → length (last_of name) ≤ MAX_COMPONENT_LEN
  pub entries : (h : List ℕ) (entries : List NameEntry) → HasEntry tree.handles (h, opened.Directory entries)
      → AreShort entries

-- ---- Replies

-- The replies that a tree may give; a NAME has either entries or a path that fits.
abbrev pub MayReply : Reply → Type 0
MayReply (reply.Version version extensions) = ⊥
MayReply (reply.Status code message language) = (code < 2 ^ 32) × (message ≡ []) × (language ≡ [])
MayReply (reply.Handle handle) = length handle ≤ MAX_HANDLE_LEN
MayReply (reply.Content content) = length content ≤ MAX_TRANSFER_LEN
MayReply (reply.Names names) = (AreShort names × (length names ≤ MAX_NAME_ENTRIES))
    ⊎ ((name : Name) × (reply.Names names ≡ path_reply name) × (length (reply_body (path_reply name) 0) ≤ MAX_BODY_LEN))
MayReply (reply.Attrs attrs) = IsTold attrs
MayReply (reply.Extended content) = (limits : Limits) × (content ≡ limits_content limits)

-- A READ returns at most the bytes that one DATA can carry: it asks for no more, or the cap allows no more.
abbrev pub GivesWithin : ℕ → Request → Type 0
GivesWithin cap (request.Read handle offset len) = capped_at cap len ≤ MAX_TRANSFER_LEN
GivesWithin cap other = Unit {0}
