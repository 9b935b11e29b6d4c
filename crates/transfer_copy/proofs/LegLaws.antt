-- Legs of copies and what they did.
use Rattle.std.proofs.Common.{◌≡◌, inl, ℕ, ◌==◌, true, List, [], ◌∷◌, arith}
use Rattle.std.proofs.lemmas.Bool.Decides.{nat_tests}
use Rattle.transfer_copy.specs.Legs.{AreDeeds, HasWaited, CopyStep}

-- a leg that waits does nothing
pub waits_on : {S H D : Type 0} (Did : D → CopyStep S H → Type 0) (leg : CopyStep S H) (legs : List (CopyStep S H))
    (deeds : List D) → HasWaited leg
    → AreDeeds Did legs deeds → AreDeeds Did (leg ∷ legs) deeds
waits_on Did leg legs [] waited are = (waited, are)
waits_on Did leg legs (deed ∷ deeds) waited are = inl (waited, are)

pub same_number : (n m : ℕ) → n ≡ m → (n == m) ≡ true
same_number n m is = grind (arith, nat_tests)
