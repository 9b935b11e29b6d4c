-- believed
-- The calls on a buffered file.
use Rattle.std.specs.Prelude.{
  ℕ,
  ◌+◌,
  ◌-◌,
  ◌==◌,
  Bool,
  false,
  not,
  min,
  max,
  List,
  [],
  ◌∷◌,
  ◌++◌,
  length,
  take,
  drop,
  Option,
  Some,
  None,
  nat_lt,
  if◌then◌else◌,
}
use Rattle.std.specs.declared.io.traits.SeekFrom.{SeekFrom}
use Rattle.sftp_model.specs.Numbers.{SSH_FX_OK}
use Rattle.sftp_model.specs.declared.request.Request.{Request}
use Rattle.sftp_model.specs.declared.request.Request.TheVariants as request
use Rattle.sftp_model.specs.declared.reply.Reply.{Reply}
use Rattle.sftp_model.specs.declared.reply.Reply.TheVariants as reply
use Rattle.sftp_model.specs.declared.outcome.Outcome.TheVariants as outcome
use Rattle.sftp_model.specs.declared.error.IoKind.TheVariants as kind
use Rattle.sftp_model.specs.declared.slot.Facts.{Facts}
use Rattle.sftp_model.specs.declared.slot.Move.{Move}
use Rattle.sftp_model.specs.declared.slot.Move.TheVariants.{Done}
use Rattle.sftp_model.specs.declared.slot.FileAt.{FileAt}
use Rattle.sftp_model.specs.declared.slot.Buffer.{Buffer}
use Rattle.sftp_model.specs.declared.slot.Slot.{Slot}
use Rattle.sftp_model.specs.declared.slot.Site.{Site}
use Rattle.sftp_model.specs.declared.slot.Slot.TheVariants.{File, Buffered}
use Rattle.sftp_model.specs.Slots.{slot_at, with_slot}
use Rattle.plan_model.specs.Moves.{
  Answers,
  Own,
  Plan,
  once_answered,
  by_reply,
  ask_read,
  ask_write,
  refuse_locally,
  on_content,
  on_status,
  on_buffered,
  left_on_buffered,
  further,
}
use Rattle.plan_model.specs.FilePlans.{on_seek}

-- ---- Without a request

-- Only the file stays.
abbrev pub unbuffer_next : ℕ → Site → Facts → Plan
unbuffer_next slot site facts own answers = on_buffered (slot_at site slot) site
    (λ file buffer. Done outcome.Done (with_slot site slot (File file)))

-- A move forward keeps the bytes from there on, any other move keeps none. The read in flight is abandoned.
abbrev pub sought_buffer : ℕ → ℕ → Buffer → Buffer
sought_buffer from to buffer = record buffer {
  bytes = if nat_lt from to then drop (to - from) buffer.bytes else [];
  reading = None;
}

-- A seek to the current offset changes nothing.
abbrev pub sought_slot : FileAt → ℕ → Buffer → Slot
sought_slot file to buffer = if to == file.offset then Buffered file buffer else
    Buffered (record file { offset = to }) (sought_buffer file.offset to buffer)

abbrev pub buf_seek_next : ℕ → SeekFrom → Site → Facts → Plan
buf_seek_next slot position site facts own answers =
    on_buffered (slot_at site slot) site (λ file buffer. on_seek position file.offset site
    (λ to. Done (outcome.Count to) (with_slot site slot (sought_slot file to buffer))))

-- ---- buf_read: from the buffer, which a READ fills if it is empty

-- The first n of these bytes, which are at the file's offset.
abbrev pub buffered_bytes : ℕ → ℕ → List ℕ → FileAt → Buffer → Site → Move
buffered_bytes slot n bytes file buffer site =
    Done (outcome.Bytes (take n bytes)) (with_slot site slot (Buffered (further file (length (take n bytes)))
    (record buffer { bytes = drop n bytes })))

-- The site without the read in flight.
abbrev pub without_reading : ℕ → FileAt → Buffer → Site → Site
without_reading slot file buffer site = with_slot site slot (Buffered file (record buffer { reading = None }))

abbrev pub was_filled : ℕ → ℕ → FileAt → Buffer → Site → Reply → Move
was_filled slot n file buffer site r =
    on_content r (without_reading slot file buffer site) (Done outcome.End (without_reading slot file buffer site))
    (λ bytes. buffered_bytes slot n bytes file (record buffer { reading = None }) site)

-- The read in flight, or otherwise a READ of the call's own.
abbrev pub fill_next : ℕ → ℕ → FileAt → Buffer → Site → Facts → Option ℕ → Plan
fill_next slot n file buffer site facts (Some place) own answers =
    once_answered place (answers place) (was_filled slot n file buffer site)
fill_next slot n file buffer site facts None own answers = by_reply
    (ask_read file (min (max n buffer.len) facts.read_len) site answers) (was_filled slot n file buffer site) own
    answers

abbrev pub from_buffer : ℕ → ℕ → FileAt → Buffer → Site → Facts → List ℕ → Plan
from_buffer slot n file buffer site facts [] own answers = fill_next slot n file buffer site facts buffer.reading own
    answers
from_buffer slot n file buffer site facts (b ∷ bytes) own answers = buffered_bytes slot n (b ∷ bytes) file buffer site

abbrev pub buf_read_file_next : ℕ → ℕ → Site → Facts → Own → Answers → FileAt → Buffer → Move
buf_read_file_next slot n site facts own answers file buffer =
    if not file.readable then refuse_locally kind.NotReadable site
    else if n == 0 then Done (outcome.Bytes []) site
    else from_buffer slot n file buffer site facts buffer.bytes own answers

abbrev pub buf_read_next : ℕ → ℕ → Site → Facts → Plan
buf_read_next slot n site facts own answers = on_buffered (slot_at site slot) site
    (buf_read_file_next slot n site facts own answers)

-- The call's own READ stays in flight.
abbrev pub cancelled_buf_read : ℕ → Site → Facts → Own → Answers → Site
cancelled_buf_read slot site facts [] answers = site
cancelled_buf_read slot site facts (asked ∷ later) answers =
    left_on_buffered (slot_at site slot) site (λ file buffer. with_slot site slot
    (Buffered file (record buffer { reading = Some asked.0 })))

-- ---- Buf_write: a WRITE whose status is left for later

-- The bytes of the writes whose status was not taken.
abbrev pub pending_bytes : List (ℕ × ℕ) → ℕ
pending_bytes [] = 0
pending_bytes (write ∷ writes) = write.1 + pending_bytes writes

-- The site with these deferred writes.
abbrev pub with_deferred : ℕ → FileAt → Buffer → Site → List (ℕ × ℕ) → Site
with_deferred slot file buffer site writes = with_slot site slot (Buffered file (record buffer { deferred = writes }))

-- The oldest deferred status is awaited and taken out; a refusal there ends the call.
abbrev pub taken_out : ℕ → FileAt → Buffer → Site → Answers → List (ℕ × ℕ) → (Buffer → Site → Move) → Move
taken_out slot file buffer site answers [] go = go buffer site
taken_out slot file buffer site answers (write ∷ writes) go =
    once_answered write.0 (answers write.0) (λ r. on_status r (with_deferred slot file buffer site writes)
    (go (record buffer { deferred = writes }) (with_deferred slot file buffer site writes)))

-- The pending bytes equal the limit.
abbrev pub is_full : Facts → Buffer → Bool
is_full facts buffer = pending_bytes buffer.deferred == facts.write_limit

-- If the window is full, the oldest status is taken out.
abbrev pub with_capacity : ℕ → FileAt → Buffer → Site → Facts → Answers → (Buffer → Site → Move) → Move
with_capacity slot file buffer site facts answers go = if is_full facts buffer then
    taken_out slot file buffer site answers buffer.deferred go else go buffer site

-- The number of bytes that one WRITE takes: the limit bounds the pending bytes.
abbrev pub deferrable_len : Facts → List ℕ → Buffer → ℕ
deferrable_len facts bytes buffer = min (length bytes) (min facts.write_len
    (facts.write_limit - pending_bytes buffer.deferred))

abbrev pub ask_deferred : FileAt → List ℕ → Facts → Answers → Buffer → Site → Move
ask_deferred file bytes facts answers buffer site = ask_write file (take (deferrable_len facts bytes buffer) bytes) site
    answers

-- The buffer after a WRITE of n bytes, asked at a place.
abbrev pub after_write : Buffer → ℕ → ℕ → Buffer
after_write buffer place n = record {
  len = buffer.len;
  bytes = drop n buffer.bytes;
  deferred = buffer.deferred
      ++ (place, n) ∷ [];
  reading = None;
}

abbrev pub written_slot : FileAt → Buffer → ℕ → ℕ → Slot
written_slot file buffer place n = Buffered (further file n) (after_write buffer place n)

-- After its own request the call has ended.
abbrev pub send_next : ℕ → FileAt → List ℕ → Facts → Own → Answers → Buffer → Site → Move
send_next slot file bytes facts [] answers buffer site = ask_deferred file bytes facts answers buffer site
send_next slot file bytes facts (asked ∷ later) answers buffer site =
    Done (outcome.Count (deferrable_len facts bytes buffer)) (with_slot site slot
    (written_slot file buffer asked.0 (deferrable_len facts bytes buffer)))

abbrev pub buf_write_file_next : ℕ → List ℕ → Site → Facts → Own → Answers → FileAt → Buffer → Move
buf_write_file_next slot bytes site facts own answers file buffer =
    if not file.writable then refuse_locally kind.NotWritable site
    else if length bytes == 0 then Done (outcome.Count 0) site
    else with_capacity slot file buffer site facts answers (send_next slot file bytes facts own answers)

abbrev pub buf_write_next : ℕ → List ℕ → Site → Facts → Plan
buf_write_next slot bytes site facts own answers = on_buffered (slot_at site slot) site
    (buf_write_file_next slot bytes site facts own answers)

-- ---- buf_write_all: the remaining bytes in the same way, repeatedly

abbrev pub buffered_rest : ℕ → List ℕ → FileAt → Buffer → Site → Facts → Plan
buffered_rest slot bytes file buffer site facts [] answers =
    if length bytes == 0 then Done outcome.Done site
    else if not file.writable then refuse_locally kind.NotWritable site
    else with_capacity slot file buffer site facts answers (ask_deferred file bytes facts answers)
buffered_rest slot bytes file buffer site facts (asked ∷ later) answers =
    with_capacity slot file buffer site facts answers (λ freed left.
    buffered_rest slot (drop (deferrable_len facts bytes freed) bytes) (further file (deferrable_len facts bytes freed))
    (after_write freed asked.0 (deferrable_len facts bytes freed))
    (with_slot left slot (written_slot file freed asked.0 (deferrable_len facts bytes freed))) facts later answers)

abbrev pub buf_write_all_next : ℕ → List ℕ → Site → Facts → Plan
buf_write_all_next slot bytes site facts own answers = on_buffered (slot_at site slot) site
    (λ file buffer. buffered_rest slot bytes file buffer site facts own answers)

-- ---- cancelled writes: the state that the last WRITE left

-- The number of bytes that a request carries.
abbrev pub carried_length : Request → ℕ
carried_length (request.Write handle offset content) = length content
carried_length other = 0

-- At a full window the WRITE came after the oldest status.
abbrev pub with_oldest_settled : Facts → Buffer → Buffer
with_oldest_settled facts buffer = if is_full facts buffer then record buffer { deferred = drop 1 buffer.deferred } else
    buffer

abbrev pub after_writes : Facts → FileAt → Buffer → Own → Slot
after_writes facts file buffer [] = Buffered file buffer
after_writes facts file buffer (asked ∷ later) = after_writes facts (further file (carried_length asked.1))
    (after_write (with_oldest_settled facts buffer) asked.0 (carried_length asked.1)) later

abbrev pub cancelled_buf_write : ℕ → Site → Facts → Own → Answers → Site
cancelled_buf_write slot site facts own answers = left_on_buffered (slot_at site slot) site
    (λ file buffer. with_slot site slot (after_writes facts file buffer own))

-- ---- buf_flush: the deferred statuses, the oldest first, up to the first refusal

abbrev pub flush_next : ℕ → FileAt → Buffer → Site → Answers → List (ℕ × ℕ) → Move
flush_next slot file buffer site answers [] = Done outcome.Done site
flush_next slot file buffer site answers (write ∷ writes) =
    once_answered write.0 (answers write.0) (λ r. on_status r (with_deferred slot file buffer site writes)
    (flush_next slot file buffer (with_deferred slot file buffer site writes) answers writes))

abbrev pub buf_flush_next : ℕ → Site → Facts → Plan
buf_flush_next slot site facts own answers =
    on_buffered (slot_at site slot) site (λ file buffer. if not file.writable then
    refuse_locally kind.NotWritable site else
    flush_next slot file buffer site answers buffer.deferred)

-- True if a reply is a STATUS 0.
abbrev pub is_good : Option Reply → Bool
is_good (Some (reply.Status code message language)) = code == SSH_FX_OK
is_good other = false

-- The writes, starting at the first whose STATUS 0 was not taken.
abbrev pub unflushed_writes : Answers → List (ℕ × ℕ) → List (ℕ × ℕ)
unflushed_writes answers [] = []
unflushed_writes answers (write ∷ writes) = if is_good (answers write.0) then unflushed_writes answers writes else
    write ∷ writes

abbrev pub cancelled_buf_flush : ℕ → Site → Facts → Own → Answers → Site
cancelled_buf_flush slot site facts own answers = left_on_buffered (slot_at site slot) site
    (λ file buffer. with_deferred slot file buffer site (unflushed_writes answers buffer.deferred))
