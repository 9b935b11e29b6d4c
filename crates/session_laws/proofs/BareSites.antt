-- A site with nothing in its slots.
use Rattle.std.proofs.Common.{◌≡◌, ◌≤◌, ℕ, zero, suc, Bool, true, false, List, None, refl, subst, sym, arith, if◌then◌else◌}
use Rattle.std.specs.Prelude.{replicate, slice_index_or}
use Rattle.sftp_model.specs.declared.slot.Facts.{Facts}
use Rattle.sftp_model.specs.declared.slot.Slot.{Slot}
use Rattle.sftp_model.specs.declared.slot.Slot.TheVariants.{Empty}
use Rattle.sftp_model.specs.Slots.{fresh_site}
use Rattle.plan_runner.specs.Sound.{AreWithin, IsWithin}
use Rattle.plan_runner.specs.Pending.{pends}
use Rattle.session_laws.specs.Places.{is_in}
use Rattle.session_laws.specs.Lanes.{tickets_for}

bare_at : (n k : ℕ) → slice_index_or (replicate n Empty) k Empty ≡ Empty
bare_at zero k = refl
bare_at (suc n) zero = refl
bare_at (suc n) (suc k) = bare_at n k

pub bare_within : (facts : Facts) (directory : List ℕ) → AreWithin facts
    (record { slots = fresh_site.slots; directory = directory })
bare_within facts directory k = subst (λ (x : Slot). IsWithin facts x) (sym (bare_at 16 k)) tt

-- it awaits nothing
pub bare_pends : (directory tickets : List ℕ) (q : ℕ) → pends q None
    (record { slots = fresh_site.slots; directory = directory }) ≤ tickets_for tickets q
bare_pends directory tickets q = by_test (is_in q tickets)
  where
    by_test : (b : Bool) → pends q None (record { slots = fresh_site.slots; directory = directory }) ≤
        (if b then 1 else 0)
    by_test true = omega arith
    by_test false = omega arith
