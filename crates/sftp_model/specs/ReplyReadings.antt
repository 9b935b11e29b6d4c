-- believed
-- The value that the body of a reply is read as (draft-ietf-secsh-filexfer-02, sections 4 and 7).
use Rattle.std.specs.Prelude.{ℕ, zero, suc, ◌==◌, List, [], ◌∷◌, Option, Some, None, Result, Ok, Err, if◌then◌else◌}
use Rattle.ssh_encoding.specs.Reading.{◌>>=◌, byte_at, with_prefix}
use Rattle.sftp_model.specs.declared.config.Limits.{Limits}
use Rattle.sftp_model.specs.declared.frame_error.FrameError.{FrameError}
use Rattle.sftp_model.specs.declared.reply.NameEntry.{NameEntry}
use Rattle.sftp_model.specs.declared.reply.Reply.{Reply}
use Rattle.sftp_model.specs.declared.reply.Reply.TheVariants as reply
use Rattle.sftp_model.specs.Numbers.{
  SSH_FXP_VERSION,
  SSH_FXP_STATUS,
  SSH_FXP_HANDLE,
  SSH_FXP_DATA,
  SSH_FXP_NAME,
  SSH_FXP_ATTRS,
  SSH_FXP_EXTENDED_REPLY,
}
use Rattle.sftp_model.specs.Readings.{
  field,
  whole,
  with_short_handles,
  with_id,
  without_id,
  unknown_type,
  uint32_at,
  uint64_at,
  text_at,
  attributes_at,
  extensions_at,
}

unfoldable pub version_at : List ℕ → Result (Reply × List ℕ) FrameError
version_at bytes = do
  version ← uint32_at bytes
  extensions ← extensions_at version.1
  Ok (reply.Version version.0 (record { 0 = extensions }), [])

unfoldable pub status_at : List ℕ → Result (Reply × List ℕ) FrameError
status_at bytes = do
  code ← uint32_at bytes
  message ← text_at code.1
  language ← text_at message.1
  Ok (reply.Status code.0 message.0 language.0, language.1)

unfoldable pub handle_at : List ℕ → Result (Reply × List ℕ) FrameError
handle_at bytes = do
  handle ← text_at bytes
  Ok (reply.Handle handle.0, handle.1)

unfoldable pub content_at : List ℕ → Result (Reply × List ℕ) FrameError
content_at bytes = do
  content ← text_at bytes
  Ok (reply.Content content.0, content.1)

unfoldable pub entry_at : List ℕ → Result (NameEntry × List ℕ) FrameError
entry_at bytes = do
  filename ← text_at bytes
  longname ← text_at filename.1
  attrs ← attributes_at longname.1
  Ok (record { filename = filename.0; longname = longname.0; attrs = attrs.0 }, attrs.1)

-- This many entries, one by one.
abbrev pub entries_at : ℕ → List ℕ → Result (List NameEntry × List ℕ) FrameError
entries_at zero bytes = Ok ([], bytes)
entries_at (suc n) bytes = entry_at bytes >>= λ entry. with_prefix (entry.0 ∷ []) (entries_at n entry.1)

unfoldable pub names_at : List ℕ → Result (Reply × List ℕ) FrameError
names_at bytes = do
  count ← uint32_at bytes
  names ← entries_at count.0 count.1
  Ok (reply.Names names.0, names.1)

unfoldable pub attrs_at : List ℕ → Result (Reply × List ℕ) FrameError
attrs_at bytes = do
  attrs ← attributes_at bytes
  Ok (reply.Attrs attrs.0, attrs.1)

-- All bytes up to the end.
unfoldable pub extended_at : List ℕ → Result (Reply × List ℕ) FrameError
extended_at bytes = Ok (reply.Extended bytes, [])

-- The fields after a type byte.
unfoldable pub reply_fields_at : ℕ → List ℕ → Result ((Option ℕ × Reply) × List ℕ) FrameError
reply_fields_at kind bytes =
    if kind == SSH_FXP_VERSION then without_id version_at bytes
    else if kind == SSH_FXP_STATUS then with_id status_at bytes
    else if kind == SSH_FXP_HANDLE then with_id handle_at bytes
    else if kind == SSH_FXP_DATA then with_id content_at bytes
    else if kind == SSH_FXP_NAME then with_id names_at bytes
    else if kind == SSH_FXP_ATTRS then with_id attrs_at bytes
    else if kind == SSH_FXP_EXTENDED_REPLY then with_id extended_at bytes
    else unknown_type kind

abbrev pub handles_of_reply : Reply → List (List ℕ)
handles_of_reply (reply.Handle handle) = handle ∷ []
handles_of_reply other = []

-- The id, which VERSION lacks, and the reply.
unfoldable pub reply_at : List ℕ → Result (Option ℕ × Reply) FrameError
reply_at body = do
  kind ← field (byte_at body)
  fields ← reply_fields_at kind.0 kind.1
  read ← whole fields
  with_short_handles (handles_of_reply read.1) read

-- The four numbers of the reply to the query for limits (OpenSSH's PROTOCOL, section 4.8).
unfoldable pub limits_at : List ℕ → Result Limits FrameError
limits_at bytes = do
  packet ← uint64_at bytes
  read ← uint64_at packet.1
  write ← uint64_at read.1
  handles ← uint64_at write.1
  whole (record { packet_len = packet.0; read_len = read.0; write_len = write.0; open_handles = handles.0 }, handles.1)

abbrev pub limits_read : Result Limits FrameError → Option Limits
limits_read (Ok limits) = Some limits
limits_read (Err e) = None

-- The limits that a reply reports.
abbrev pub limits_in : Reply → Option Limits
limits_in (reply.Extended content) = limits_read (limits_at content)
limits_in other = None
