-- The list of files, where one is set.
use Rattle.std.proofs.Common.{◌≡◌, ℕ, zero, suc, ◌≤◌, List, [], ◌∷◌, length, refl, ap, arith}
use Rattle.std.specs.Prelude.{slice_set}

-- nothing is set behind the end
pub set_past : {X : Type 0} (xs : List X) (n : ℕ) (y : X) → length xs ≤ n → slice_set xs n y ≡ xs
set_past [] zero y h = refl
set_past [] (suc n) y h = refl
set_past (x ∷ xs) zero y h = absurd (omega (arith, h))
set_past (x ∷ xs) (suc n) y h = ap (λ l. x ∷ l) (set_past xs n y (omega (arith, h)))
