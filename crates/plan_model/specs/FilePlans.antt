-- believed
-- The calls on a file in a slot that make at most one request, except reads and writes.
use Rattle.std.specs.Prelude.{ℕ, ◌+◌, ◌-◌, ◌==◌, not, List, [], ◌∷◌, Some, None, pos, negsuc, nat_le, if◌then◌else◌}
use Rattle.std.specs.declared.io.traits.SeekFrom.{SeekFrom}
use Rattle.std.specs.declared.io.traits.SeekFrom.TheVariants.{Start, End, Current}
use Rattle.sftp_model.specs.Numbers.{SSH_FXF_READ, SSH_FXF_WRITE, FSYNC, COPY_DATA}
use Rattle.sftp_model.specs.declared.file_attrs.FileAttrs.{FileAttrs}
use Rattle.sftp_model.specs.declared.flags.OpenFlags.{OpenFlags}
use Rattle.sftp_model.specs.declared.request.Request.{Request}
use Rattle.sftp_model.specs.declared.request.Request.TheVariants as request
use Rattle.sftp_model.specs.declared.reply.Reply.{Reply}
use Rattle.sftp_model.specs.declared.outcome.Outcome.TheVariants as outcome
use Rattle.sftp_model.specs.declared.error.IoKind.TheVariants as kind
use Rattle.sftp_model.specs.declared.slot.Facts.{Facts}
use Rattle.sftp_model.specs.declared.slot.Move.{Move}
use Rattle.sftp_model.specs.declared.slot.Move.TheVariants.{Ask, Done}
use Rattle.sftp_model.specs.Frames.{no_attributes}
use Rattle.sftp_model.specs.Readings.{has_bit}
use Rattle.sftp_model.specs.declared.slot.FileAt.{FileAt}
use Rattle.sftp_model.specs.declared.slot.Slot.{Slot}
use Rattle.sftp_model.specs.declared.slot.Site.{Site}
use Rattle.sftp_model.specs.declared.slot.Slot.TheVariants.{Empty, File, Buffered}
use Rattle.sftp_model.specs.Slots.{slot_at, with_slot, has_grant}
use Rattle.plan_model.specs.Moves.{
  Answers,
  Own,
  Plan,
  by_reply,
  ask_path,
  handle_of,
  overflows,
  refuse_locally,
  refuses_extension,
  offers,
  on_handle,
  on_status,
  done_by,
  told_by,
  on_file,
  further,
}
use Rattle.plan_model.specs.PathPlans.{set_attributes}

-- ---- open: the path as it is; the slot's old file is released

abbrev pub open_request : OpenFlags → List ℕ → Request
open_request flags path = request.OpenFile path flags no_attributes

-- A file that was opened: it may be read and written according to its flags, and its offset is its start.
abbrev pub opened_file : OpenFlags → ℕ → FileAt
opened_file flags place = record {
  grant = place;
  readable = has_bit flags.0 SSH_FXF_READ;
  writable =
      has_bit flags.0 SSH_FXF_WRITE;
  offset = 0;
}

abbrev pub opened_move : ℕ → OpenFlags → Site → ℕ → Reply → Move
opened_move slot flags site place r = on_handle r site (λ handle. Done outcome.Opened
    (with_slot site slot (File (opened_file flags place))))

-- The place of the call's first request.
abbrev pub first_place : Own → ℕ
first_place [] = 0
first_place (asked ∷ later) = asked.0

abbrev pub open_next : ℕ → OpenFlags → List ℕ → Site → Facts → Plan
open_next slot flags path site facts own answers = by_reply (ask_path (open_request flags path) site)
    (opened_move slot flags site (first_place own)) own answers

-- ---- close: the slot is cleared, and its last user sends a CLOSE

-- The site is that with the slot cleared.
abbrev pub close_grant_next : ℕ → Site → Plan
close_grant_next grant site own answers =
    by_reply (if has_grant site grant then Done outcome.Done site else Ask (request.Close (handle_of (answers grant))))
    (done_by site) own answers

abbrev pub close_slot_next : ℕ → Site → Own → Answers → Slot → Move
close_slot_next slot site own answers Empty = Done outcome.NoFile site
close_slot_next slot site own answers (File file) = close_grant_next file.grant (with_slot site slot Empty) own answers
close_slot_next slot site own answers (Buffered file buffer) =
    close_grant_next file.grant (with_slot site slot Empty) own answers

abbrev pub close_next : ℕ → Site → Facts → Plan
close_next slot site facts own answers = close_slot_next slot site own answers (slot_at site slot)

-- A cancelled `close` has cleared its slot once it asked.
abbrev pub cancelled_close : ℕ → Site → Facts → Own → Answers → Site
cancelled_close slot site facts [] answers = site
cancelled_close slot site facts (asked ∷ later) answers = with_slot site slot Empty

-- ---- Attributes of an open file

abbrev pub ask_set : FileAttrs → FileAt → Site → Answers → Move
ask_set attrs file site answers = if not file.writable then refuse_locally kind.NotWritable site else
    Ask (request.Fsetstat (handle_of (answers file.grant)) attrs)

abbrev pub set_next : ℕ → FileAttrs → Site → Facts → Plan
set_next slot attrs site facts own answers = on_file (slot_at site slot) site
    (λ file. by_reply (ask_set attrs file site answers) (done_by site) own answers)

abbrev pub set_len_next : ℕ → ℕ → Site → Facts → Plan
set_len_next slot n site facts = set_next slot (set_attributes (Some n) None) site facts

abbrev pub set_perm_next : ℕ → ℕ → Site → Facts → Plan
set_perm_next slot mode site facts = set_next slot (set_attributes None (Some mode)) site facts

abbrev pub ask_meta : FileAt → Site → Answers → Move
ask_meta file site answers = if not file.readable then refuse_locally kind.NotReadable site else
    Ask (request.Fstat (handle_of (answers file.grant)))

abbrev pub meta_next : ℕ → Site → Facts → Plan
meta_next slot site facts own answers = on_file (slot_at site slot) site
    (λ file. by_reply (ask_meta file site answers) (told_by site) own answers)

-- ---- sync: the extension is checked before the rights

abbrev pub ask_sync : FileAt → Site → Facts → Answers → Move
ask_sync file site facts answers =
    if not (offers facts FSYNC) then refuses_extension FSYNC site
    else if not file.writable then refuse_locally kind.NotWritable site
    else Ask (request.Fsync (handle_of (answers file.grant)))

abbrev pub sync_next : ℕ → Site → Facts → Plan
sync_next slot site facts own answers = on_file (slot_at site slot) site
    (λ file. by_reply (ask_sync file site facts answers) (done_by site) own answers)

-- ---- Copy: two files in different slots

abbrev pub ask_copy : FileAt → FileAt → ℕ → Site → Facts → Answers → Move
ask_copy source target n site facts answers =
    if not (offers facts COPY_DATA) then refuses_extension COPY_DATA site
    else if not target.writable then refuse_locally kind.NotWritable site
    else if not source.readable then refuse_locally kind.NotReadable site
    else if overflows source.offset n then refuse_locally kind.OffsetOverflow site
    else if overflows target.offset n then refuse_locally kind.OffsetOverflow site
    else Ask (request.CopyData (handle_of (answers source.grant)) source.offset n (handle_of (answers target.grant))
    target.offset)

-- The offsets of both files are after the bytes that were asked for.
abbrev pub site_after_copy : ℕ → ℕ → FileAt → FileAt → ℕ → Site → Site
site_after_copy from to source target n site = with_slot (with_slot site from (File (further source n))) to
    (File (further target n))

abbrev pub copy_files_next : ℕ → ℕ → ℕ → Site → Facts → Own → Answers → FileAt → FileAt → Move
copy_files_next from to n site facts own answers source target =
    by_reply (ask_copy source target n site facts answers) (λ r. on_status r site
    (Done outcome.Done (site_after_copy from to source target n site))) own answers

abbrev pub copy_next : ℕ → ℕ → ℕ → Site → Facts → Plan
copy_next from to n site facts own answers =
    if from == to then Done outcome.NoFile site
    else on_file (slot_at site from) site (λ source. on_file (slot_at site to) site
    (λ target. copy_files_next from to n site facts own answers source target))

-- ---- Calls without a request

-- Another slot holds the file too.
abbrev pub clone_next : ℕ → ℕ → Site → Facts → Plan
clone_next from to site facts own answers =
    if from == to then Done outcome.NoFile site
    else on_file (slot_at site from) site (λ file. Done outcome.Done (with_slot site to (File file)))

-- A seek continues with the new offset, or refuses.
abbrev pub on_seek : SeekFrom → ℕ → Site → (ℕ → Move) → Move
on_seek (Start n) offset site go = go n
on_seek (End n) offset site go = refuse_locally kind.SeekFromEnd site
on_seek (Current (pos n)) offset site go = if overflows offset n then refuse_locally kind.SeekOverflow site else
    go (offset + n)
on_seek (Current (negsuc n)) offset site go = if nat_le offset n then refuse_locally kind.SeekUnderflow site else
    go (offset - (n + 1))

abbrev pub seek_next : ℕ → SeekFrom → Site → Facts → Plan
seek_next slot position site facts own answers =
    on_file (slot_at site slot) site (λ file. on_seek position file.offset site
    (λ to. Done (outcome.Count to) (with_slot site slot (File (record file { offset = to })))))

-- An empty buffer of a length, with no request in flight.
abbrev pub buffer_next : ℕ → ℕ → Site → Facts → Plan
buffer_next slot len site facts own answers =
    on_file (slot_at site slot) site (λ file. Done outcome.Done
    (with_slot site slot (Buffered file (record { len = len; bytes = []; deferred = []; reading = None }))))
