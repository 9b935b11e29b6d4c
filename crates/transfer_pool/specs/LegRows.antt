-- Worked lists that occur in order among others.
use Rattle.std.specs.Prelude.{ℕ, List, [], ◌∷◌, refl}
use Rattle.std.proofs.Common.{inl, inr}
use Rattle.transfer_pool.specs.CopyLegs.{AreInOrderAmong}

abbrev all : List ℕ
all = 1 ∷ 2 ∷ 3 ∷ 5 ∷ []

pub two : AreInOrderAmong (2 ∷ 5 ∷ []) all
two = inr (inl (refl, inr (inl (refl, tt))))
