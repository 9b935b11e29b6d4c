-- Slots that are set.
use Rattle.std.proofs.Common.{◌≡◌, ◌∙◌, ◌<◌, ap, refl, sym, arith, length, ℕ, zero, suc, List, [], ◌∷◌}
use Rattle.std.specs.Prelude.{slice_index_or, slice_set}
use Rattle.sftp_model.specs.declared.slot.Site.{Site}
use Rattle.sftp_model.specs.declared.slot.Slot.{Slot}
use Rattle.sftp_model.specs.declared.slot.Slot.TheVariants.{Empty}
use Rattle.sftp_model.specs.Slots.{slot_at, with_slot}

slots_twice : (slots : List Slot) (k : ℕ) (x y : Slot) → slice_set (slice_set slots k x) k y ≡ slice_set slots k y
slots_twice [] k x y = refl
slots_twice (slot ∷ slots) zero x y = refl
slots_twice (slot ∷ slots) (suc k) x y = ap (λ l. slot ∷ l) (slots_twice slots k x y)

pub set_twice : (site : Site) (k : ℕ) (x y : Slot) → with_slot (with_slot site k x) k y ≡ with_slot site k y
set_twice site k x y = λ i. record { slots = slots_twice site.slots k x y i; directory = site.directory }

set_index : (slots : List Slot) (k : ℕ) (x : Slot) → k < length slots → slice_index_or (slice_set slots k x) k Empty ≡ x
set_index [] k x lt = absurd (omega (arith, lt))
set_index (slot ∷ slots) zero x lt = refl
set_index (slot ∷ slots) (suc k) x lt = set_index slots k x (omega (arith, lt))

pub set_at : (site : Site) (k : ℕ) (x : Slot) → k < length site.slots → slot_at (with_slot site k x) k ≡ x
set_at site k x lt = set_index site.slots k x lt

same_slots : (slots : List Slot) (k : ℕ) → slice_set slots k (slice_index_or slots k Empty) ≡ slots
same_slots [] k = refl
same_slots (slot ∷ slots) zero = refl
same_slots (slot ∷ slots) (suc k) = ap (λ l. slot ∷ l) (same_slots slots k)

-- what stands in a slot is put there again
pub set_same : (site : Site) (k : ℕ) (x : Slot) → slot_at site k ≡ x → with_slot site k x ≡ site
set_same site k x at = ap (λ y. with_slot site k y) (sym at)
    ∙ λ i. record { slots = same_slots site.slots k i; directory = site.directory }
