-- believed: oldest, oldest_in, flushed_after, rest_sent, sent_next, room_made, reading_in
-- The replies that calls on buffered files await, and the ways in which these calls continue.
use Rattle.std.specs.Prelude.{ℕ, ◌+◌, ◌==◌, Bool, false, List, [], ◌∷◌, drop, Option, Some, None, if◌then◌else◌}
use Rattle.sftp_model.specs.declared.reply.Reply.{Reply}
use Rattle.sftp_model.specs.declared.outcome.Outcome.TheVariants as outcome
use Rattle.sftp_model.specs.declared.slot.Facts.{Facts}
use Rattle.sftp_model.specs.declared.slot.FileAt.{FileAt}
use Rattle.sftp_model.specs.declared.slot.Buffer.{Buffer}
use Rattle.sftp_model.specs.declared.slot.Site.{Site}
use Rattle.sftp_model.specs.declared.slot.Slot.{Slot}
use Rattle.sftp_model.specs.declared.slot.Slot.TheVariants.{Empty, File, Buffered}
use Rattle.sftp_model.specs.declared.slot.Move.{Move}
use Rattle.sftp_model.specs.declared.slot.Move.TheVariants.{Done}
use Rattle.sftp_model.specs.Slots.{with_slot}
use Rattle.plan_model.specs.Moves.{Answers, Own, further, on_status}
use Rattle.plan_model.specs.BufferPlans.{
  after_write,
  ask_deferred,
  buffered_rest,
  deferrable_len,
  flush_next,
  is_good,
  pending_bytes,
  send_next,
  unflushed_writes,
  with_deferred,
  written_slot,
}
use Rattle.plan_runner.specs.declared.next.Next.{Next}
use Rattle.plan_runner.specs.declared.next.Next.TheVariants as step
use Rattle.plan_runner.specs.declared.next.Running.{Running}
use Rattle.plan_runner.specs.declared.next.Running.TheVariants as running

-- ---- Deferred writes

-- The place of the oldest of these writes.
abbrev pub oldest : List (ℕ × ℕ) → Option ℕ
oldest [] = None
oldest (write ∷ writes) = Some write.0

-- The place of the oldest write that a slot's file has deferred.
abbrev pub oldest_in : Slot → Option ℕ
oldest_in Empty = None
oldest_in (File file) = None
oldest_in (Buffered file buffer) = oldest buffer.deferred

abbrev pub but_oldest : List (ℕ × ℕ) → List (ℕ × ℕ)
but_oldest [] = []
but_oldest (write ∷ writes) = writes

-- The oldest deferred write was taken out of a slot.
abbrev pub without_oldest : Site → ℕ → Slot → Site
without_oldest site slot (Buffered file buffer) = with_deferred slot file buffer site (but_oldest buffer.deferred)
without_oldest site slot other = with_slot site slot other

-- ---- A flush

-- The oldest of these writes is awaited.
abbrev pub flush_oldest : ℕ → List (ℕ × ℕ) → Next
flush_oldest slot [] = step.Done outcome.Done
flush_oldest slot (write ∷ writes) = step.Wait (running.Flushing slot)

-- The move after the reply to the oldest of these writes.
abbrev pub flushed_after : ℕ → FileAt → Buffer → Site → List (ℕ × ℕ) → Reply → Answers → Move
flushed_after slot file buffer site [] r answers = Done outcome.Done site
flushed_after slot file buffer site (write ∷ writes) r answers =
    on_status r (with_deferred slot file buffer site writes) (flush_next slot file buffer
    (with_deferred slot file buffer site writes) answers writes)

-- The site that a flush leaves if it is cancelled after the reply to the oldest of these writes.
abbrev pub left_flushed : ℕ → FileAt → Buffer → Site → List (ℕ × ℕ) → Reply → Answers → Site
left_flushed slot file buffer site [] r answers = with_deferred slot file buffer site []
left_flushed slot file buffer site (write ∷ writes) r answers =
    with_deferred slot file buffer site (if is_good (Some r) then unflushed_writes answers writes else write ∷ writes)

-- ---- A buffered write

-- True if the oldest of these writes must be taken out before the next.
abbrev pub must_wait : ℕ → List (ℕ × ℕ) → Bool
must_wait limit [] = false
must_wait limit (write ∷ writes) = pending_bytes (write ∷ writes) == limit

-- The bytes that are left to write: all of them for one WRITE, and otherwise those from `done` on.
abbrev pub rest_of : Option ℕ → List ℕ → List ℕ
rest_of None bytes = bytes
rest_of (Some done) bytes = drop done bytes

-- The state of a call after a WRITE of this many bytes.
abbrev pub running_after : ℕ → Option ℕ → ℕ → Running
running_after slot None n = running.Deferred slot n
running_after slot (Some done) n = running.DeferringRest slot (done + n)

-- The next move of a write of all bytes if the window has room for a WRITE.
abbrev pub rest_sent : ℕ → FileAt → List ℕ → Facts → Own → Answers → Buffer → Site → Move
rest_sent slot file bytes facts [] answers buffer site = ask_deferred file bytes facts answers buffer site
rest_sent slot file bytes facts (asked ∷ later) answers buffer site =
    buffered_rest slot (drop (deferrable_len facts bytes buffer) bytes)
    (further file (deferrable_len facts bytes buffer)) (after_write buffer asked.0
    (deferrable_len facts bytes buffer))
    (with_slot site slot (written_slot file buffer asked.0 (deferrable_len facts bytes buffer))) facts later answers

-- The same for each buffered write.
abbrev pub sent_next : ℕ → Option ℕ → FileAt → List ℕ → Facts → Own → Answers → Buffer → Site → Move
sent_next slot None file bytes facts own answers buffer site = send_next slot file bytes facts own answers buffer site
sent_next slot (Some done) file bytes facts own answers buffer site =
    rest_sent slot file (drop done bytes) facts own answers buffer site

-- The move after the reply to the oldest of these writes, which is taken out.
abbrev pub room_made : ℕ → FileAt → Buffer → Site → List (ℕ × ℕ) → Reply → (Buffer → Site → Move) → Move
room_made slot file buffer site [] r go = Done outcome.NoFile site
room_made slot file buffer site (write ∷ writes) r go =
    on_status r (with_deferred slot file buffer site writes) (go (record buffer { deferred = writes })
    (with_deferred slot file buffer site writes))

-- ---- A buffered read

-- The place of the read in flight of a slot's file.
abbrev pub reading_in : Slot → Option ℕ
reading_in Empty = None
reading_in (File file) = None
reading_in (Buffered file buffer) = buffer.reading

-- If a slot holds a buffered file, that file has this read in flight, or none.
abbrev pub with_reading : Site → ℕ → Slot → Option ℕ → Site
with_reading site slot (Buffered file buffer) reading = with_slot site slot
    (Buffered file (record buffer { reading = reading }))
with_reading site slot other reading = with_slot site slot other
