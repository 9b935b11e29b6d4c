-- believed, except request_id, reply_id
-- Frames: a length of four bytes and a body. The body is a type byte, an id (except in the hello and VERSION), and the
-- fields (draft-ietf-secsh-filexfer-02, section 3). Numbers are big-endian.
use Rattle.std.specs.Prelude.{
  ℕ,
  nat_lt,
  ◌+◌,
  ◌==◌,
  Bool,
  List,
  [],
  ◌∷◌,
  ◌++◌,
  length,
  codes,
  Option,
  Some,
  None,
  if◌then◌else◌,
}
use Rattle.std.specs.Int.RustNames.{bit_and}
use Rattle.std.specs.List.{flat_map}
use Rattle.ssh_encoding.specs.Writing.{uint32, uint64, string}
use Rattle.sftp_model.specs.declared.config.Limits.{Limits}
use Rattle.sftp_model.specs.declared.file_attrs.FileAttrs.{FileAttrs}
use Rattle.sftp_model.specs.declared.request.Request.{Request}
use Rattle.sftp_model.specs.declared.request.Request.TheVariants as request
use Rattle.sftp_model.specs.declared.reply.Reply.{Reply}
use Rattle.sftp_model.specs.declared.reply.Reply.TheVariants as reply
use Rattle.sftp_model.specs.declared.reply.NameEntry.{NameEntry}
use Rattle.sftp_model.specs.Numbers.{
  MAX_BODY_LEN,
  SSH_FXP_INIT,
  SSH_FXP_VERSION,
  SSH_FXP_OPEN,
  SSH_FXP_CLOSE,
  SSH_FXP_READ,
  SSH_FXP_WRITE,
  SSH_FXP_LSTAT,
  SSH_FXP_FSTAT,
  SSH_FXP_SETSTAT,
  SSH_FXP_FSETSTAT,
  SSH_FXP_OPENDIR,
  SSH_FXP_READDIR,
  SSH_FXP_REMOVE,
  SSH_FXP_MKDIR,
  SSH_FXP_RMDIR,
  SSH_FXP_REALPATH,
  SSH_FXP_STAT,
  SSH_FXP_RENAME,
  SSH_FXP_READLINK,
  SSH_FXP_SYMLINK,
  SSH_FXP_STATUS,
  SSH_FXP_HANDLE,
  SSH_FXP_DATA,
  SSH_FXP_NAME,
  SSH_FXP_ATTRS,
  SSH_FXP_EXTENDED,
  SSH_FXP_EXTENDED_REPLY,
  SSH_FILEXFER_ATTR_SIZE,
  SSH_FILEXFER_ATTR_UIDGID,
  SSH_FILEXFER_ATTR_PERMISSIONS,
  SSH_FILEXFER_ATTR_ACMODTIME,
  POSIX_RENAME,
  HARDLINK,
  FSYNC,
  EXPAND_PATH,
  COPY_DATA,
  LIMITS,
}

-- ---- Attributes (draft, section 5)

abbrev pub no_attributes : FileAttrs
no_attributes = record { size = None; id = None; permissions = None; time = None }

-- The bytes of a field that may be missing.
abbrev pub where_there : {A : Type 0} → (A → List ℕ) → Option A → List ℕ
where_there spelling None = []
where_there spelling (Some x) = spelling x

-- The bit of a field that may be missing.
abbrev pub bit : {A : Type 0} → ℕ → Option A → ℕ
bit n None = 0
bit n (Some x) = n

abbrev pub two_numbers : ℕ × ℕ → List ℕ
two_numbers p = uint32 p.0 ++ uint32 p.1

-- The bits of the fields that are present.
abbrev pub attribute_bits : FileAttrs → ℕ
attribute_bits a = bit SSH_FILEXFER_ATTR_SIZE a.size + bit SSH_FILEXFER_ATTR_UIDGID a.id + bit
    SSH_FILEXFER_ATTR_PERMISSIONS a.permissions + bit SSH_FILEXFER_ATTR_ACMODTIME a.time

-- The bits of the fields, followed by the fields.
unfoldable pub attributes : FileAttrs → List ℕ
attributes a =
    uint32 (attribute_bits a)
    ++ where_there uint64 a.size ++ where_there two_numbers a.id
    ++ where_there uint32 a.permissions ++ where_there two_numbers a.time

-- ---- Extensions (OpenSSH's PROTOCOL, section 4)

abbrev pub posix_rename_name : List ℕ
posix_rename_name = codes "posix-rename@openssh.com"

abbrev pub hardlink_name : List ℕ
hardlink_name = codes "hardlink@openssh.com"

abbrev pub fsync_name : List ℕ
fsync_name = codes "fsync@openssh.com"

abbrev pub expand_path_name : List ℕ
expand_path_name = codes "expand-path@openssh.com"

abbrev pub copy_data_name : List ℕ
copy_data_name = codes "copy-data"

abbrev pub limits_name : List ℕ
limits_name = codes "limits@openssh.com"

-- The six names, each with its bit.
abbrev pub extension_table : List (List ℕ × ℕ)
extension_table =
    (posix_rename_name, POSIX_RENAME) ∷ (hardlink_name, HARDLINK) ∷ (fsync_name, FSYNC)
    ∷ (expand_path_name, EXPAND_PATH) ∷ (copy_data_name, COPY_DATA) ∷ (limits_name, LIMITS) ∷ []

-- The pair of strings of an extension that the set has: its name and the version 1.
abbrev pub extension_pair : ℕ → List ℕ × ℕ → List ℕ
extension_pair set row = if bit_and set row.1 == 0 then [] else string row.0 ++ string (codes "1")

-- A pair for each extension of the set, in the order of the table.
abbrev pub extension_pairs : ℕ → List (List ℕ × ℕ) → List ℕ
extension_pairs set [] = []
extension_pairs set (row ∷ table) = extension_pair set row ++ extension_pairs set table

-- ---- Requests (draft, sections 4 and 6)

-- The body of a request that every server knows.
abbrev pub of_type : ℕ → ℕ → List ℕ → List ℕ
of_type kind id fields = kind ∷ uint32 id ++ fields

-- The body of an EXTENDED (draft, section 8).
abbrev pub extended_body : List ℕ → ℕ → List ℕ → List ℕ
extended_body name id fields = of_type SSH_FXP_EXTENDED id (string name ++ fields)

-- The body of a request; the hello has no id.
unfoldable pub request_body : Request → ℕ → List ℕ
request_body (request.Init version) id = SSH_FXP_INIT ∷ uint32 version
request_body (request.OpenFile path flags attrs) id = of_type SSH_FXP_OPEN id
    (string path ++ uint32 flags.0 ++ attributes attrs)
request_body (request.Close handle) id = of_type SSH_FXP_CLOSE id (string handle)
request_body (request.Read handle offset len) id = of_type SSH_FXP_READ id
    (string handle ++ uint64 offset ++ uint32 len)
request_body (request.Write handle offset content) id = of_type SSH_FXP_WRITE id
    (string handle ++ uint64 offset ++ string content)
request_body (request.Lstat path) id = of_type SSH_FXP_LSTAT id (string path)
request_body (request.Fstat handle) id = of_type SSH_FXP_FSTAT id (string handle)
request_body (request.Setstat path attrs) id = of_type SSH_FXP_SETSTAT id (string path ++ attributes attrs)
request_body (request.Fsetstat handle attrs) id = of_type SSH_FXP_FSETSTAT id (string handle ++ attributes attrs)
request_body (request.Opendir path) id = of_type SSH_FXP_OPENDIR id (string path)
request_body (request.Readdir handle) id = of_type SSH_FXP_READDIR id (string handle)
request_body (request.Remove path) id = of_type SSH_FXP_REMOVE id (string path)
request_body (request.Mkdir path attrs) id = of_type SSH_FXP_MKDIR id (string path ++ attributes attrs)
request_body (request.Rmdir path) id = of_type SSH_FXP_RMDIR id (string path)
request_body (request.Realpath path) id = of_type SSH_FXP_REALPATH id (string path)
request_body (request.Stat path) id = of_type SSH_FXP_STAT id (string path)
request_body (request.Rename old to) id = of_type SSH_FXP_RENAME id (string old ++ string to)
request_body (request.Readlink path) id = of_type SSH_FXP_READLINK id (string path)
request_body (request.Symlink src dst) id = of_type SSH_FXP_SYMLINK id (string src ++ string dst)
request_body (request.PosixRename old to) id = extended_body posix_rename_name id (string old ++ string to)
request_body (request.Hardlink old to) id = extended_body hardlink_name id (string old ++ string to)
request_body (request.Fsync handle) id = extended_body fsync_name id (string handle)
request_body (request.ExpandPath path) id = extended_body expand_path_name id (string path)
request_body (request.CopyData from from_offset len to to_offset) id =
    extended_body copy_data_name id (string from ++ uint64 from_offset ++ uint64 len ++ string to ++ uint64 to_offset)
request_body request.LimitsQuery id = extended_body limits_name id []

-- ---- Replies (draft, sections 4 and 7)

abbrev pub name_entry : NameEntry → List ℕ
name_entry e = string e.filename ++ string e.longname ++ attributes e.attrs

-- The body of a reply; VERSION has no id.
unfoldable pub reply_body : Reply → ℕ → List ℕ
reply_body (reply.Version version extensions) id = SSH_FXP_VERSION ∷ uint32 version
    ++ extension_pairs extensions.0 extension_table
reply_body (reply.Status code message language) id = of_type SSH_FXP_STATUS id
    (uint32 code ++ string message ++ string language)
reply_body (reply.Handle handle) id = of_type SSH_FXP_HANDLE id (string handle)
reply_body (reply.Content content) id = of_type SSH_FXP_DATA id (string content)
reply_body (reply.Names names) id = of_type SSH_FXP_NAME id (uint32 (length names) ++ flat_map name_entry names)
reply_body (reply.Attrs attrs) id = of_type SSH_FXP_ATTRS id (attributes attrs)
reply_body (reply.Extended content) id = of_type SSH_FXP_EXTENDED_REPLY id content

-- The content of the reply to the query for limits (OpenSSH's PROTOCOL, section 4.8).
unfoldable pub limits_content : Limits → List ℕ
limits_content limits = uint64 limits.packet_len ++ uint64 limits.read_len ++ uint64 limits.write_len
    ++ uint64 limits.open_handles

-- ---- Frames

-- The length of a body, followed by the body.
abbrev pub frame : List ℕ → List ℕ
frame body = string body

abbrev pub request_frame : Request → ℕ → List ℕ
request_frame r id = frame (request_body r id)

-- True if the body of a request is longer than the greatest length, whatever its id is.
abbrev pub is_too_long : Request → Bool
is_too_long r = nat_lt MAX_BODY_LEN (length (request_body r 0))

-- The frame of a request with its id.
abbrev pub frame_of : ℕ × Request → List ℕ
frame_of queued = request_frame queued.1 queued.0

-- The frames of these requests, one after another.
abbrev pub frames_of : List (ℕ × Request) → List ℕ
frames_of requests = flat_map frame_of requests

abbrev pub reply_frame : Reply → ℕ → List ℕ
reply_frame r id = frame (reply_body r id)

-- The id that a body carries; the hello and VERSION carry none.
abbrev pub request_id : Request → ℕ → Option ℕ
request_id (request.Init version) id = None
request_id other id = Some id

abbrev pub reply_id : Reply → ℕ → Option ℕ
reply_id (reply.Version version extensions) id = None
reply_id other id = Some id
