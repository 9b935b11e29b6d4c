-- believed
-- The calls that read and write a file in a slot.
use Rattle.std.specs.Prelude.{ℕ, ◌-◌, ◌==◌, min, List, [], ◌∷◌, ◌++◌, length, take, drop, flat_map, if◌then◌else◌}
use Rattle.sftp_model.specs.declared.request.Request.{Request}
use Rattle.sftp_model.specs.declared.request.Request.TheVariants as request
use Rattle.sftp_model.specs.declared.reply.Reply.{Reply}
use Rattle.sftp_model.specs.declared.outcome.Outcome.TheVariants as outcome
use Rattle.sftp_model.specs.declared.error.IoKind.TheVariants as kind
use Rattle.sftp_model.specs.declared.slot.Facts.{Facts}
use Rattle.sftp_model.specs.declared.slot.Move.{Move}
use Rattle.sftp_model.specs.declared.slot.Move.TheVariants.{Done}
use Rattle.sftp_model.specs.declared.slot.FileAt.{FileAt}
use Rattle.sftp_model.specs.declared.slot.Site.{Site}
use Rattle.sftp_model.specs.declared.slot.Slot.TheVariants.{File}
use Rattle.sftp_model.specs.Slots.{slot_at, with_slot}
use Rattle.plan_model.specs.Moves.{
  Answers,
  Own,
  Plan,
  once_answered,
  by_reply,
  ask_read,
  ask_write,
  refuse_locally,
  on_content,
  on_status,
  on_file,
  left_on_file,
  further,
}

-- ---- Read: at most n bytes at the offset

-- A DATA moves the file's offset past its bytes.
abbrev pub was_read : ℕ → FileAt → Site → Reply → Move
was_read slot file site r = on_content r site (Done outcome.End site)
    (λ bytes. Done (outcome.Bytes bytes) (with_slot site slot (File (further file (length bytes)))))

abbrev pub read_first : FileAt → ℕ → Site → Facts → Answers → Move
read_first file n site facts answers = if n == 0 then Done outcome.End site else
    ask_read file (min n facts.read_len) site answers

abbrev pub read_next : ℕ → ℕ → Site → Facts → Plan
read_next slot n site facts own answers = on_file (slot_at site slot) site
    (λ file. by_reply (read_first file n site facts answers) (was_read slot file site) own answers)

-- ---- read_all: the bytes missing after those received, repeatedly

abbrev pub missing_next : ℕ → FileAt → List ℕ → ℕ → Site → Facts → Plan
missing_next slot file got n site facts [] answers = if n == 0 then Done (outcome.Bytes got) site else
    ask_read file (min n facts.read_len) site answers
missing_next slot file got n site facts (asked ∷ later) answers =
    once_answered asked.0 (answers asked.0) (λ r. on_content r site (refuse_locally kind.UnexpectedEof site)
    (λ bytes. missing_next slot (further file (length bytes)) (got ++ bytes) (n - length bytes)
    (with_slot site slot (File (further file (length bytes)))) facts later answers))

abbrev pub read_all_next : ℕ → ℕ → Site → Facts → Plan
read_all_next slot n site facts own answers = on_file (slot_at site slot) site
    (λ file. missing_next slot file [] n site facts own answers)

-- ---- Write: the first bytes

-- The number of bytes that one WRITE takes.
abbrev pub part_len : Facts → List ℕ → ℕ
part_len facts bytes = min (length bytes) facts.write_len

abbrev pub next_part : Facts → List ℕ → List ℕ
next_part facts bytes = take (part_len facts bytes) bytes

abbrev pub was_written : ℕ → FileAt → ℕ → Site → Reply → Move
was_written slot file n site r = on_status r site (Done (outcome.Count n) (with_slot site slot (File (further file n))))

abbrev pub write_first : FileAt → List ℕ → Site → Facts → Answers → Move
write_first file bytes site facts answers = if length bytes == 0 then Done (outcome.Count 0) site else
    ask_write file (next_part facts bytes) site answers

abbrev pub write_next : ℕ → List ℕ → Site → Facts → Plan
write_next slot bytes site facts own answers =
    on_file (slot_at site slot) site (λ file. by_reply (write_first file bytes site facts answers)
    (was_written slot file (part_len facts bytes) site) own answers)

-- ---- Write_all: part by part, each after STATUS 0 to the one before

-- The site after a file was moved.
abbrev pub FileKeeper : Type 0
FileKeeper = FileAt → Site → Site

-- The plan for the bytes that are left of these.
abbrev pub rest_next : FileKeeper → FileAt → List ℕ → Site → Facts → Plan
rest_next keep file bytes site facts [] answers = if length bytes == 0 then Done outcome.Done site else
    ask_write file (next_part facts bytes) site answers
rest_next keep file bytes site facts (asked ∷ later) answers =
    once_answered asked.0 (answers asked.0) (λ r. on_status r site
    (rest_next keep (further file (part_len facts bytes)) (drop (part_len facts bytes) bytes)
    (keep (further file (part_len facts bytes)) site) facts later answers))

abbrev pub in_slot : ℕ → FileKeeper
in_slot slot file site = with_slot site slot (File file)

abbrev pub write_all_next : ℕ → List ℕ → Site → Facts → Plan
write_all_next slot bytes site facts own answers = on_file (slot_at site slot) site
    (λ file. rest_next (in_slot slot) file bytes site facts own answers)

abbrev pub joined_parts : List (List ℕ) → List ℕ
joined_parts parts = flat_map (λ part. part) parts

abbrev pub write_parts_next : ℕ → List (List ℕ) → Site → Facts → Plan
write_parts_next slot parts site facts = write_all_next slot (joined_parts parts) site facts

-- ---- cancelled: the replies that led to a further request have moved the file to the offset of that request

-- The offset that a request names.
abbrev pub offset_asked : ℕ → Request → ℕ
offset_asked offset (request.Read handle at len) = at
offset_asked offset (request.Write handle at content) = at
offset_asked offset other = offset

-- The offset of the last of these requests.
abbrev pub last_offset : ℕ → Own → ℕ
last_offset offset [] = offset
last_offset offset (asked ∷ later) = last_offset (offset_asked offset asked.1) later

abbrev pub cancelled_transfer : ℕ → Site → Facts → Own → Answers → Site
cancelled_transfer slot site facts own answers =
    left_on_file (slot_at site slot) site (λ file. with_slot site slot
    (File (record file { offset = last_offset file.offset own })))
