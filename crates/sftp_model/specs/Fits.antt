-- The requests and replies that a frame can carry: each number fits its field, each string and each handle its bound,
-- and a set has no unknown bit.
use Rattle.std.specs.Prelude.{ℕ, ◌≡◌, ◌^◌, ◌<◌, ◌≤◌, List, length, All, IfSome, Ok}
use Rattle.sftp_model.specs.declared.config.Limits.{Limits}
use Rattle.sftp_model.specs.declared.file_attrs.FileAttrs.{FileAttrs}
use Rattle.sftp_model.specs.declared.request.Request.{Request}
use Rattle.sftp_model.specs.declared.request.Request.TheVariants as request
use Rattle.sftp_model.specs.declared.reply.NameEntry.{NameEntry}
use Rattle.sftp_model.specs.declared.reply.Reply.{Reply}
use Rattle.sftp_model.specs.declared.reply.Reply.TheVariants as reply
use Rattle.sftp_model.specs.Numbers.{MAX_BODY_LEN, MAX_HANDLE_LEN, MAX_TRANSFER_LEN}
use Rattle.sftp_model.specs.Frames.{limits_content, request_body, reply_body, request_id, reply_id}
use Rattle.sftp_model.specs.ReplyReadings.{reply_at, limits_at}
use Rattle.sftp_model.specs.RequestReadings.{request_at}

abbrev pub FitsNumber : ℕ → Type 0
FitsNumber n = n < 2 ^ 32

abbrev pub FitsLong : ℕ → Type 0
FitsLong n = n < 2 ^ 64

abbrev pub FitsText : List ℕ → Type 0
FitsText text = length text ≤ MAX_BODY_LEN

abbrev pub FitsHandle : List ℕ → Type 0
FitsHandle handle = length handle ≤ MAX_HANDLE_LEN

-- The set has only the six known bits.
abbrev pub FitsSet : ℕ → Type 0
FitsSet bits = bits < 64

abbrev pub FitsTwo : ℕ × ℕ → Type 0
FitsTwo p = FitsNumber p.0 × FitsNumber p.1

pub record FitsAttributes (a : FileAttrs) : Type 0 where
  pub size : IfSome a.size FitsLong
  pub id : IfSome a.id FitsTwo
  pub permissions : IfSome a.permissions FitsNumber
  pub time : IfSome a.time FitsTwo

pub record FitsEntry (e : NameEntry) : Type 0 where
  pub filename : FitsText e.filename
  pub longname : FitsText e.longname
  pub attrs : FitsAttributes e.attrs

abbrev pub FitsRequest : Request → Type 0
FitsRequest (request.Init version) = FitsNumber version
FitsRequest (request.OpenFile path flags attrs) = FitsText path × FitsSet flags.0 × FitsAttributes attrs
FitsRequest (request.Close handle) = FitsHandle handle
FitsRequest (request.Read handle offset len) = FitsHandle handle × FitsLong offset × FitsNumber len
FitsRequest (request.Write handle offset content) = FitsHandle handle × FitsLong offset × FitsText content
FitsRequest (request.Lstat path) = FitsText path
FitsRequest (request.Fstat handle) = FitsHandle handle
FitsRequest (request.Setstat path attrs) = FitsText path × FitsAttributes attrs
FitsRequest (request.Fsetstat handle attrs) = FitsHandle handle × FitsAttributes attrs
FitsRequest (request.Opendir path) = FitsText path
FitsRequest (request.Readdir handle) = FitsHandle handle
FitsRequest (request.Remove path) = FitsText path
FitsRequest (request.Mkdir path attrs) = FitsText path × FitsAttributes attrs
FitsRequest (request.Rmdir path) = FitsText path
FitsRequest (request.Realpath path) = FitsText path
FitsRequest (request.Stat path) = FitsText path
FitsRequest (request.Rename old to) = FitsText old × FitsText to
FitsRequest (request.Readlink path) = FitsText path
FitsRequest (request.Symlink src dst) = FitsText src × FitsText dst
FitsRequest (request.PosixRename old to) = FitsText old × FitsText to
FitsRequest (request.Hardlink old to) = FitsText old × FitsText to
FitsRequest (request.Fsync handle) = FitsHandle handle
FitsRequest (request.ExpandPath path) = FitsText path
FitsRequest (request.CopyData from from_offset len to to_offset) = FitsHandle from × FitsLong from_offset × FitsLong len
    × FitsHandle to × FitsLong to_offset
FitsRequest request.LimitsQuery = Unit {0}

abbrev pub FitsReply : Reply → Type 0
FitsReply (reply.Version version extensions) = FitsNumber version × FitsSet extensions.0
FitsReply (reply.Status code message language) = FitsNumber code × FitsText message × FitsText language
FitsReply (reply.Handle handle) = FitsHandle handle
FitsReply (reply.Content content) = FitsText content
FitsReply (reply.Names names) = FitsNumber (length names) × All FitsEntry names
FitsReply (reply.Attrs attrs) = FitsAttributes attrs
FitsReply (reply.Extended content) = FitsText content

pub record FitsLimits (limits : Limits) : Type 0 where
  pub packet_len : FitsLong limits.packet_len
  pub read_len : FitsLong limits.read_len
  pub write_len : FitsLong limits.write_len
  pub open_handles : FitsLong limits.open_handles

-- ---- Round trips

-- The bytes written for limits are read as the same limits.
abbrev pub LimitsReadBack : Limits → Type 0
LimitsReadBack limits = limits_at (limits_content limits) ≡ Ok limits

-- The bytes written for a request are read as the same request.
abbrev pub RequestReadsBack : Request → ℕ → Type 0
RequestReadsBack r id = request_at (request_body r id) ≡ Ok (request_id r id, r)

-- The bytes written for a reply are read as the same reply.
abbrev pub ReplyReadsBack : Reply → ℕ → Type 0
ReplyReadsBack r id = reply_at (reply_body r id) ≡ Ok (reply_id r id, r)

-- ---- A law of the file machine

-- A READ asks for at most the bytes that one DATA can carry.
abbrev pub AsksWithinReply : Request → Type 0
AsksWithinReply (request.Read handle offset len) = len ≤ MAX_TRANSFER_LEN
AsksWithinReply other = Unit {0}
