-- believed
-- The value that the body of a request is read as (draft-ietf-secsh-filexfer-02, sections 4, 6 and 8).
use Rattle.std.specs.Prelude.{ℕ, ◌==◌, List, [], ◌∷◌, Option, Result, Ok, if◌then◌else◌}
use Rattle.std.specs.Str.{bytes_eq}
use Rattle.ssh_encoding.specs.Reading.{◌>>=◌, byte_at}
use Rattle.sftp_model.specs.declared.file_attrs.FileAttrs.{FileAttrs}
use Rattle.sftp_model.specs.declared.frame_error.FrameError.{FrameError}
use Rattle.sftp_model.specs.declared.request.Request.{Request}
use Rattle.sftp_model.specs.declared.request.Request.TheVariants as request
use Rattle.sftp_model.specs.Numbers.{
  SSH_FXP_INIT,
  SSH_FXP_OPEN,
  SSH_FXP_CLOSE,
  SSH_FXP_READ,
  SSH_FXP_WRITE,
  SSH_FXP_LSTAT,
  SSH_FXP_FSTAT,
  SSH_FXP_SETSTAT,
  SSH_FXP_FSETSTAT,
  SSH_FXP_OPENDIR,
  SSH_FXP_READDIR,
  SSH_FXP_REMOVE,
  SSH_FXP_MKDIR,
  SSH_FXP_RMDIR,
  SSH_FXP_REALPATH,
  SSH_FXP_STAT,
  SSH_FXP_RENAME,
  SSH_FXP_READLINK,
  SSH_FXP_SYMLINK,
  SSH_FXP_EXTENDED,
}
use Rattle.sftp_model.specs.Frames.{
  posix_rename_name,
  hardlink_name,
  fsync_name,
  expand_path_name,
  copy_data_name,
  limits_name,
}
use Rattle.sftp_model.specs.Readings.{
  field,
  whole,
  with_short_handles,
  with_id,
  without_id,
  unknown_type,
  uint32_at,
  uint64_at,
  text_at,
  attributes_at,
}

unfoldable pub init_at : List ℕ → Result (Request × List ℕ) FrameError
init_at bytes = do
  version ← uint32_at bytes
  Ok (request.Init version.0, version.1)

unfoldable pub open_at : List ℕ → Result (Request × List ℕ) FrameError
open_at bytes = do
  path ← text_at bytes
  flags ← uint32_at path.1
  attrs ← attributes_at flags.1
  Ok (request.OpenFile path.0 (record { 0 = flags.0 }) attrs.0, attrs.1)

unfoldable pub read_at : List ℕ → Result (Request × List ℕ) FrameError
read_at bytes = do
  handle ← text_at bytes
  offset ← uint64_at handle.1
  len ← uint32_at offset.1
  Ok (request.Read handle.0 offset.0 len.0, len.1)

unfoldable pub write_at : List ℕ → Result (Request × List ℕ) FrameError
write_at bytes = do
  handle ← text_at bytes
  offset ← uint64_at handle.1
  content ← text_at offset.1
  Ok (request.Write handle.0 offset.0 content.0, content.1)

-- A request of one string.
unfoldable pub one_text_at : (List ℕ → Request) → List ℕ → Result (Request × List ℕ) FrameError
one_text_at made bytes = do
  text ← text_at bytes
  Ok (made text.0, text.1)

-- A request of two strings.
unfoldable pub two_texts_at : (List ℕ → List ℕ → Request) → List ℕ → Result (Request × List ℕ) FrameError
two_texts_at made bytes = do
  first ← text_at bytes
  second ← text_at first.1
  Ok (made first.0 second.0, second.1)

-- A request of a string and attributes.
unfoldable pub text_and_attributes_at : (List ℕ → FileAttrs → Request) → List ℕ → Result (Request × List ℕ) FrameError
text_and_attributes_at made bytes = do
  text ← text_at bytes
  attrs ← attributes_at text.1
  Ok (made text.0 attrs.0, attrs.1)

unfoldable pub copy_data_at : List ℕ → Result (Request × List ℕ) FrameError
copy_data_at bytes = do
  from ← text_at bytes
  from_offset ← uint64_at from.1
  len ← uint64_at from_offset.1
  to ← text_at len.1
  to_offset ← uint64_at to.1
  Ok (request.CopyData from.0 from_offset.0 len.0 to.0 to_offset.0, to_offset.1)

-- The fields after the name of an extension.
unfoldable pub extension_fields_at : List ℕ → List ℕ → Result (Request × List ℕ) FrameError
extension_fields_at name bytes =
    if bytes_eq name posix_rename_name then two_texts_at request.PosixRename bytes
    else if bytes_eq name hardlink_name then two_texts_at request.Hardlink bytes
    else if bytes_eq name fsync_name then one_text_at request.Fsync bytes
    else if bytes_eq name expand_path_name then one_text_at request.ExpandPath bytes
    else if bytes_eq name copy_data_name then copy_data_at bytes
    else if bytes_eq name limits_name then Ok (request.LimitsQuery, bytes)
    else unknown_type SSH_FXP_EXTENDED

unfoldable pub extended_request_at : List ℕ → Result (Request × List ℕ) FrameError
extended_request_at bytes = do
  name ← text_at bytes
  extension_fields_at name.0 name.1

-- The fields after a type byte.
unfoldable pub request_fields_at : ℕ → List ℕ → Result ((Option ℕ × Request) × List ℕ) FrameError
request_fields_at kind bytes =
    if kind == SSH_FXP_INIT then without_id init_at bytes
    else if kind == SSH_FXP_OPEN then with_id open_at bytes
    else if kind == SSH_FXP_CLOSE then with_id (one_text_at request.Close) bytes
    else if kind == SSH_FXP_READ then with_id read_at bytes
    else if kind == SSH_FXP_WRITE then with_id write_at bytes
    else if kind == SSH_FXP_LSTAT then with_id (one_text_at request.Lstat) bytes
    else if kind == SSH_FXP_FSTAT then with_id (one_text_at request.Fstat) bytes
    else if kind == SSH_FXP_SETSTAT then with_id (text_and_attributes_at request.Setstat) bytes
    else if kind == SSH_FXP_FSETSTAT then with_id (text_and_attributes_at request.Fsetstat) bytes
    else if kind == SSH_FXP_OPENDIR then with_id (one_text_at request.Opendir) bytes
    else if kind == SSH_FXP_READDIR then with_id (one_text_at request.Readdir) bytes
    else if kind == SSH_FXP_REMOVE then with_id (one_text_at request.Remove) bytes
    else if kind == SSH_FXP_MKDIR then with_id (text_and_attributes_at request.Mkdir) bytes
    else if kind == SSH_FXP_RMDIR then with_id (one_text_at request.Rmdir) bytes
    else if kind == SSH_FXP_REALPATH then with_id (one_text_at request.Realpath) bytes
    else if kind == SSH_FXP_STAT then with_id (one_text_at request.Stat) bytes
    else if kind == SSH_FXP_RENAME then with_id (two_texts_at request.Rename) bytes
    else if kind == SSH_FXP_READLINK then with_id (one_text_at request.Readlink) bytes
    else if kind == SSH_FXP_SYMLINK then with_id (two_texts_at request.Symlink) bytes
    else if kind == SSH_FXP_EXTENDED then with_id extended_request_at bytes
    else unknown_type kind

-- The handles among the fields, in their order.
abbrev pub handles_of_request : Request → List (List ℕ)
handles_of_request (request.Close handle) = handle ∷ []
handles_of_request (request.Read handle offset len) = handle ∷ []
handles_of_request (request.Write handle offset content) = handle ∷ []
handles_of_request (request.Fstat handle) = handle ∷ []
handles_of_request (request.Fsetstat handle attrs) = handle ∷ []
handles_of_request (request.Readdir handle) = handle ∷ []
handles_of_request (request.Fsync handle) = handle ∷ []
handles_of_request (request.CopyData from from_offset len to to_offset) = from ∷ to ∷ []
handles_of_request other = []

-- The id, which the hello lacks, and the request.
unfoldable pub request_at : List ℕ → Result (Option ℕ × Request) FrameError
request_at body = do
  kind ← field (byte_at body)
  fields ← request_fields_at kind.0 kind.1
  read ← whole fields
  with_short_handles (handles_of_request read.1) read
