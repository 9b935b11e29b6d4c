-- A flush that is cancelled takes statuses out of its slot, the oldest first.
use Rattle.std.proofs.Common.{◌≡◌, ◌<◌, ap, arith, ℕ, List, [], ◌∷◌, Some, length}
use Rattle.sftp_model.specs.Slots.{slot_at}
use Rattle.sftp_model.specs.declared.slot.Site.{Site}
use Rattle.sftp_model.specs.declared.slot.Slot.{Slot}
use Rattle.sftp_model.specs.declared.slot.Slot.TheVariants.{Empty, File, Buffered}
use Rattle.plan_runner.specs.Buffers.{but_oldest, oldest, oldest_in, without_oldest}
use Rattle.plan_runner.proofs.SlotSets.{set_at}

-- how many writes the file in a slot has deferred
abbrev pub deferred_len : Slot → ℕ
deferred_len (Buffered file buffer) = length buffer.deferred
deferred_len other = 0

writes_fewer : (writes : List (ℕ × ℕ)) (p : ℕ) → oldest writes ≡ Some p → length (but_oldest writes) < length writes
writes_fewer [] p at = absurd cc
writes_fewer (write ∷ writes) p at = omega arith

pub taken_fewer : (site : Site) (slot p : ℕ) → slot < length site.slots → oldest_in (slot_at site slot) ≡ Some p
    → deferred_len (slot_at (without_oldest site slot (slot_at site slot)) slot) < deferred_len (slot_at site slot)
taken_fewer site slot p lt at = by_slot (slot_at site slot) at
  where
    by_slot : (x : Slot) → oldest_in x ≡ Some p → deferred_len (slot_at (without_oldest site slot x) slot) <
        deferred_len x
    by_slot Empty first = absurd cc
    by_slot (File file) first = absurd cc
    by_slot (Buffered file buffer) first =
        (let less : length (but_oldest buffer.deferred) < length buffer.deferred = writes_fewer buffer.deferred p first
        in
        let same : deferred_len (slot_at (without_oldest site slot (Buffered file buffer)) slot)
        ≡ length (but_oldest buffer.deferred) = ap deferred_len
        (set_at site slot (Buffered file (record buffer { deferred = but_oldest buffer.deferred })) lt) in
        omega (arith, less, same))
