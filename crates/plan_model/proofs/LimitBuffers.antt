-- Calls on buffered files leave the deferred writes within the limit.
use Rattle.std.proofs.Common.{◌≡◌, ◌≤◌, ◌==◌, ℕ, Bool, true, false, List, [], ◌∷◌, Option, Some, None, refl, sym, subst, arith, if◌then◌else◌}
use Rattle.std.specs.Prelude.{length, min, max, not, take, drop}
use Rattle.sftp_model.specs.declared.outcome.Outcome.TheVariants as outcome
use Rattle.sftp_model.specs.declared.error.IoKind.TheVariants as kind
use Rattle.sftp_model.specs.declared.reply.Reply.{Reply}
use Rattle.sftp_model.specs.declared.slot.Facts.{Facts}
use Rattle.sftp_model.specs.declared.slot.Move.{Move}
use Rattle.sftp_model.specs.declared.slot.Move.TheVariants.{Done}
use Rattle.sftp_model.specs.declared.slot.FileAt.{FileAt}
use Rattle.sftp_model.specs.declared.slot.Buffer.{Buffer}
use Rattle.sftp_model.specs.declared.slot.Slot.TheVariants.{Buffered}
use Rattle.sftp_model.specs.declared.slot.Site.{Site}
use Rattle.sftp_model.specs.Slots.{slot_at, with_slot}
use Rattle.plan_model.specs.Moves.{Answers, Own, ask_read, refuse_locally, on_buffered, further}
use Rattle.plan_model.specs.BufferPlans.{
  pending_bytes,
  sought_slot,
  sought_buffer,
  buffered_bytes,
  without_reading,
  was_filled,
  fill_next,
  from_buffer,
  buf_read_file_next,
  with_deferred,
  flush_next,
  is_good,
  unflushed_writes,
}
use Rattle.plan_model.specs.RequestCounts.{EachHasByte, IsWithinLimit, BuffersWithin, LeavesWithin}
use Rattle.plan_model.proofs.MoveLaws.{either, by_status, by_content, at_buffered}
use Rattle.plan_model.proofs.CountLaws.{answered_in}
use Rattle.plan_model.proofs.LimitLaws.{within_set}
use Rattle.plan_model.proofs.LeftSites.{once_leaves, read_leaves}

pub buffer_leaves : (facts : Facts) (site : Site) (slot : ℕ) (go : FileAt → Buffer → Move) → BuffersWithin facts site
    → ((file : FileAt) (buffer : Buffer) → IsWithinLimit facts buffer → LeavesWithin facts (go file buffer))
    → LeavesWithin facts (on_buffered (slot_at site slot) site go)
buffer_leaves facts site slot go b goes = at_buffered (LeavesWithin facts) (slot_at site slot) site go (λ o. b)
    (λ file buffer at. goes file buffer (b slot file buffer at))

-- the same writes, in a buffer that is otherwise changed
set_buffer : (facts : Facts) (site : Site) (slot : ℕ) (file : FileAt) (old new : Buffer) → new.deferred ≡ old.deferred
    → IsWithinLimit facts old → BuffersWithin facts site → BuffersWithin facts (with_slot site slot (Buffered file new))
set_buffer facts site slot file old new same w b =
    within_set facts site slot (Buffered file new)
    (record {
      within = subst (λ (l : List (ℕ × ℕ)). pending_bytes l ≤ facts.write_limit) (sym same) w.within;
      each =
          subst EachHasByte (sym same) w.each;
    }) b

-- ---- seeks and reads

pub sought_leaves : (facts : Facts) (site : Site) (slot : ℕ) (file : FileAt) (to : ℕ) (buffer : Buffer)
    → IsWithinLimit facts buffer → BuffersWithin facts site → BuffersWithin facts
    (with_slot site slot (sought_slot file to buffer))
sought_leaves facts site slot file to buffer w b = by_same (to == file.offset)
  where
    by_same : (t : Bool) → BuffersWithin facts (with_slot site slot
        (if t then Buffered file buffer else Buffered (record file { offset = to })
        (sought_buffer file.offset to buffer)))
    by_same true = set_buffer facts site slot file buffer buffer refl w b
    by_same false = set_buffer facts site slot (record file { offset = to }) buffer
        (sought_buffer file.offset to buffer) refl w b

given_leaves : (facts : Facts) (slot n : ℕ) (bytes : List ℕ) (file : FileAt) (buffer : Buffer) (site : Site)
    → IsWithinLimit facts buffer → BuffersWithin facts site → LeavesWithin facts
    (buffered_bytes slot n bytes file buffer site)
given_leaves facts slot n bytes file buffer site w b = set_buffer facts site slot (further file (length (take n bytes)))
    buffer (record buffer { bytes = drop n bytes }) refl w b

filled_leaves : (facts : Facts) (slot n : ℕ) (file : FileAt) (buffer : Buffer) (site : Site) (r : Reply)
    → IsWithinLimit facts buffer → BuffersWithin facts site → LeavesWithin facts (was_filled slot n file buffer site r)
filled_leaves facts slot n file buffer site r w b =
    let left : BuffersWithin facts (without_reading slot file buffer site) =
    set_buffer facts site slot file buffer (record buffer { reading = None }) refl w b in
    by_content (LeavesWithin facts) r (without_reading slot file buffer site)
    (Done outcome.End (without_reading slot file buffer site)) _ (λ o. left) left
    (λ bytes. given_leaves facts slot n bytes file (record buffer { reading = None }) site
    (record { within = w.within; each = w.each }) b)

fill_leaves : (facts : Facts) (slot n : ℕ) (file : FileAt) (buffer : Buffer) (site : Site) (reading : Option ℕ)
    (own : Own) (answers : Answers) → IsWithinLimit facts buffer → BuffersWithin facts site
    → LeavesWithin facts (fill_next slot n file buffer site facts reading own answers)
fill_leaves facts slot n file buffer site (Some place) own answers w b =
    answered_in (LeavesWithin facts) answers place (answers place) _ refl tt
    (λ r is. filled_leaves facts slot n file buffer site r w b)
fill_leaves facts slot n file buffer site None own answers w b =
    once_leaves (BuffersWithin facts) (ask_read file (min (max n buffer.len) facts.read_len) site answers)
    (was_filled slot n file buffer site) own answers (read_leaves (BuffersWithin facts) file
    (min (max n buffer.len) facts.read_len) site answers b)
    (λ r. filled_leaves facts slot n file buffer site r w b)

from_leaves : (facts : Facts) (slot n : ℕ) (file : FileAt) (buffer : Buffer) (site : Site) (bytes : List ℕ) (own : Own)
    (answers : Answers) → IsWithinLimit facts buffer → BuffersWithin facts site
    → LeavesWithin facts (from_buffer slot n file buffer site facts bytes own answers)
from_leaves facts slot n file buffer site [] own answers w b =
    fill_leaves facts slot n file buffer site buffer.reading own answers w b
from_leaves facts slot n file buffer site (c ∷ bytes) own answers w b =
    given_leaves facts slot n (c ∷ bytes) file buffer site w b

pub buf_read_leaves : (facts : Facts) (slot n : ℕ) (file : FileAt) (buffer : Buffer) (site : Site) (own : Own)
    (answers : Answers) → IsWithinLimit facts buffer → BuffersWithin facts site
    → LeavesWithin facts (buf_read_file_next slot n site facts own answers file buffer)
buf_read_leaves facts slot n file buffer site own answers w b =
    either (LeavesWithin facts) (not file.readable) (refuse_locally kind.NotReadable site) _ (λ e. b)
    (λ e. either (LeavesWithin facts) (n == 0) (Done (outcome.Bytes []) site)
    (from_buffer slot n file buffer site facts buffer.bytes own answers) (λ z. b)
    (λ z. from_leaves facts slot n file buffer site buffer.bytes own answers w b))

pub reading_leaves : (facts : Facts) (site : Site) (slot place : ℕ) (file : FileAt) (buffer : Buffer)
    → IsWithinLimit facts buffer → BuffersWithin facts site → BuffersWithin facts
    (with_slot site slot (Buffered file (record buffer { reading = Some place })))
reading_leaves facts site slot place file buffer w b = set_buffer facts site slot file buffer
    (record buffer { reading = Some place }) refl w b

-- ---- flushes

pub flush_leaves : (facts : Facts) (slot : ℕ) (file : FileAt) (buffer : Buffer) (site : Site) (answers : Answers)
    (writes : List (ℕ × ℕ)) → pending_bytes writes ≤ facts.write_limit → EachHasByte writes → BuffersWithin facts site
    → LeavesWithin facts (flush_next slot file buffer site answers writes)
flush_leaves facts slot file buffer site answers [] le each b = b
flush_leaves facts slot file buffer site answers (write ∷ writes) le each b =
    let left : BuffersWithin facts (with_deferred slot file buffer site writes) =
    within_set facts site slot (Buffered file (record buffer { deferred = writes }))
    (record { within = omega (arith, le); each = each.1 }) b in
    answered_in (LeavesWithin facts) answers write.0 (answers write.0) _ refl tt
    (λ r is. by_status (LeavesWithin facts) r (with_deferred slot file buffer site writes) _ (λ o. left)
    (flush_leaves facts slot file buffer (with_deferred slot file buffer site writes) answers writes (omega (arith, le))
    each.1 left))

unflushed_within : (limit : ℕ) (answers : Answers) (writes : List (ℕ × ℕ)) → pending_bytes writes ≤ limit
    → EachHasByte writes
    → (pending_bytes (unflushed_writes answers writes) ≤ limit) × EachHasByte (unflushed_writes answers writes)
unflushed_within limit answers [] le each = (le, each)
unflushed_within limit answers (write ∷ writes) le each = by_test (is_good (answers write.0))
    (unflushed_within limit answers writes (omega (arith, le)) each.1)
  where
    by_test : (t : Bool) → (pending_bytes (unflushed_writes answers writes) ≤ limit)
        × EachHasByte (unflushed_writes answers writes)
        → (pending_bytes (if t then unflushed_writes answers writes else write ∷ writes) ≤ limit)
        × EachHasByte (if t then unflushed_writes answers writes else write ∷ writes)
    by_test true rest = rest
    by_test false rest = (le, each)

pub unflushed_leaves : (facts : Facts) (site : Site) (slot : ℕ) (file : FileAt) (buffer : Buffer) (answers : Answers)
    → IsWithinLimit facts buffer → BuffersWithin facts site → BuffersWithin facts
    (with_deferred slot file buffer site (unflushed_writes answers buffer.deferred))
unflushed_leaves facts site slot file buffer answers w b =
    let u : (pending_bytes (unflushed_writes answers buffer.deferred) ≤ facts.write_limit)
    × EachHasByte (unflushed_writes answers buffer.deferred) =
    unflushed_within facts.write_limit answers buffer.deferred
    w.within w.each in
    within_set facts site slot (Buffered file (record buffer { deferred = unflushed_writes answers buffer.deferred }))
    (record { within = u.0; each = u.1 }) b
