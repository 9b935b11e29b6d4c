-- believed
-- The definitions that the plans of all calls share. The next move of a call is a function only of the lane's site at
-- the call's start, of the call's own requests so far, and of the replies taken so far. A place is the number of a
-- request among all that were submitted.
use Rattle.std.specs.Prelude.{
  ℕ,
  ◌+◌,
  ◌==◌,
  ◌^◌,
  Bool,
  not,
  List,
  [],
  ◌∷◌,
  length,
  Option,
  Some,
  None,
  nat_lt,
  nat_le,
  if◌then◌else◌,
}
use Rattle.sftp_model.specs.declared.request.Request.{Request}
use Rattle.sftp_model.specs.declared.request.Request.TheVariants as request
use Rattle.sftp_model.specs.declared.reply.Reply.{Reply}
use Rattle.sftp_model.specs.declared.reply.Reply.TheVariants as reply
use Rattle.sftp_model.specs.declared.outcome.Outcome.TheVariants as outcome
use Rattle.sftp_model.specs.declared.error.Error.TheVariants as error
use Rattle.sftp_model.specs.declared.error.IoKind.{IoKind}
use Rattle.sftp_model.specs.declared.error.IoKind.TheVariants as kind
use Rattle.sftp_model.specs.declared.slot.Facts.{Facts}
use Rattle.sftp_model.specs.declared.slot.Move.{Move}
use Rattle.sftp_model.specs.declared.slot.Move.TheVariants.{Ask, Wait, Done}
use Rattle.sftp_model.specs.Numbers.{MAX_BODY_LEN, SSH_FX_OK}
use Rattle.sftp_model.specs.Frames.{request_body, is_too_long}
use Rattle.sftp_model.specs.Readings.{has_bit}
use Rattle.sftp_model.specs.Answers.{is_end_of_file}
use Rattle.sftp_model.specs.declared.slot.FileAt.{FileAt}
use Rattle.sftp_model.specs.declared.slot.Buffer.{Buffer}
use Rattle.sftp_model.specs.declared.slot.Slot.{Slot}
use Rattle.sftp_model.specs.declared.slot.Site.{Site}
use Rattle.sftp_model.specs.declared.slot.Slot.TheVariants.{Empty, File, Buffered}

-- The replies taken so far, by the places of their requests.
abbrev pub Answers : Type 0
Answers = ℕ → Option Reply

-- A call's own requests so far, the oldest first: the place of each, and the request.
abbrev pub Own : Type 0
Own = List (ℕ × Request)

-- The next move of a call, by its own requests and the replies.
abbrev pub Plan : Type 0
Plan = Own → Answers → Move

-- ---- Refusals

-- A STATUS other than 0 refuses the call. No reply that a request does not allow gets here.
abbrev pub refusal_move : Reply → Site → Move
refusal_move (reply.Status code message language) site = Done (outcome.Refused (error.SftpError code message language))
    site
refusal_move other site = Done (outcome.Refused (error.InvalidResponse None)) site

-- Refused without a request.
abbrev pub refuse_locally : IoKind → Site → Move
refuse_locally why site = Done (outcome.Refused (error.IOError why)) site

-- Refused if the server does not offer an extension.
abbrev pub refuses_extension : ℕ → Site → Move
refuses_extension bit site = Done (outcome.Refused (error.UnsupportedExtension (record { 0 = bit }))) site

abbrev pub offers : Facts → ℕ → Bool
offers facts bit = has_bit facts.extensions.0 bit

-- ---- Requests and their replies

-- A request is answered, or its reply is awaited.
abbrev pub once_answered : ℕ → Option Reply → (Reply → Move) → Move
once_answered place None go = Wait place
once_answered place (Some r) go = go r

-- A call of one request: its first move, and then the move that its reply leads to.
abbrev pub by_reply : Move → (Reply → Move) → Plan
by_reply first go [] answers = first
by_reply first go (asked ∷ later) answers = once_answered asked.0 (answers asked.0) go

-- A request of one path or two, if it fits a frame.
abbrev pub ask_path : Request → Site → Move
ask_path r site = if is_too_long r then refuse_locally kind.PathTooLong site else Ask r

-- The handle that a HANDLE brought.
abbrev pub handle_of : Option Reply → List ℕ
handle_of (Some (reply.Handle handle)) = handle
handle_of other = []

-- True if a request of this many bytes would go past the greatest offset.
abbrev pub overflows : ℕ → ℕ → Bool
overflows offset len = nat_le (2 ^ 64) (offset + len)

-- A READ of a file at its offset.
abbrev pub ask_read : FileAt → ℕ → Site → Answers → Move
ask_read file len site answers =
    if not file.readable then refuse_locally kind.NotReadable site
    else if overflows file.offset len then refuse_locally kind.OffsetOverflow site
    else Ask (request.Read (handle_of (answers file.grant)) file.offset len)

-- A WRITE of a file at its offset.
abbrev pub ask_write : FileAt → List ℕ → Site → Answers → Move
ask_write file bytes site answers =
    if not file.writable then refuse_locally kind.NotWritable site
    else if overflows file.offset (length bytes) then refuse_locally kind.OffsetOverflow site
    else Ask (request.Write (handle_of (answers file.grant)) file.offset bytes)

-- ---- Moves after a reply

-- After a STATUS 0 the call continues; any other reply refuses it.
abbrev pub on_status : Reply → Site → Move → Move
on_status (reply.Status code message language) site go = if code == SSH_FX_OK then go else
    refusal_move (reply.Status code message language) site
on_status other site go = refusal_move other site

-- A STATUS 0 ends the call well.
abbrev pub done_by : Site → Reply → Move
done_by site r = on_status r site (Done outcome.Done site)

-- After a DATA the call continues with its bytes; a STATUS 1 ends it in its own way; any other reply refuses it.
abbrev pub on_content : Reply → Site → Move → (List ℕ → Move) → Move
on_content (reply.Content bytes) site ended go = go bytes
on_content other site ended go = if is_end_of_file other then ended else refusal_move other site

-- After a HANDLE the call continues with it; any other reply refuses it.
abbrev pub on_handle : Reply → Site → (List ℕ → Move) → Move
on_handle (reply.Handle handle) site go = go handle
on_handle other site go = refusal_move other site

-- Attributes end the call.
abbrev pub told_by : Site → Reply → Move
told_by site (reply.Attrs attrs) = Done (outcome.Meta attrs) site
told_by site other = refusal_move other site

-- ---- Contents of a slot

-- The slot holds a file.
abbrev pub on_file : Slot → Site → (FileAt → Move) → Move
on_file Empty site go = Done outcome.NoFile site
on_file (File file) site go = go file
on_file (Buffered file buffer) site go = Done outcome.NoFile site

-- The slot holds a buffered file.
abbrev pub on_buffered : Slot → Site → (FileAt → Buffer → Move) → Move
on_buffered Empty site go = Done outcome.NoFile site
on_buffered (File file) site go = Done outcome.NoFile site
on_buffered (Buffered file buffer) site go = go file buffer

-- A file whose offset is n bytes further.
abbrev pub further : FileAt → ℕ → FileAt
further file n = record file { offset = file.offset + n }

-- A changed site if the slot holds a file; otherwise the same site.
abbrev pub left_on_file : Slot → Site → (FileAt → Site) → Site
left_on_file (File file) site go = go file
left_on_file other site go = site

abbrev pub left_on_buffered : Slot → Site → (FileAt → Buffer → Site) → Site
left_on_buffered (Buffered file buffer) site go = go file buffer
left_on_buffered other site go = site
