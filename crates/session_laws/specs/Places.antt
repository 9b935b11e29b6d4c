-- believed: IsAbove, IsRising, is_in
-- Lists of places.
use Rattle.std.proofs.Common.{◌≡◌, ◌<◌, ◌==◌, ℕ, zero, suc, Bool, true, false, List, [], ◌∷◌, if◌then◌else◌, refl}
use Rattle.std.specs.List.{list_any}

-- Each of these is greater.
abbrev pub IsAbove : ℕ → List ℕ → Type 0
IsAbove g [] = Unit {0}
IsAbove g (h ∷ hs) = (g < h) × IsAbove g hs

-- Each of these is less.
abbrev pub IsBelow : ℕ → List ℕ → Type 0
IsBelow p [] = Unit {0}
IsBelow p (h ∷ hs) = (h < p) × IsBelow p hs

-- Each is greater than the one before.
abbrev pub IsRising : List ℕ → Type 0
IsRising [] = Unit {0}
IsRising (g ∷ gs) = IsAbove g gs × IsRising gs

-- True if the place is one of these.
abbrev pub is_in : ℕ → List ℕ → Bool
is_in g gs = list_any (λ h. h == g) gs

-- The list without the item at an index.
abbrev pub without_index : {A : Type 0} → ℕ → List A → List A
without_index k [] = []
without_index zero (p ∷ ps) = ps
without_index (suc k) (p ∷ ps) = p ∷ without_index k ps

-- The places with these for one lane.
abbrev pub with_places : (ℕ → List ℕ) → ℕ → List ℕ → ℕ → List ℕ
with_places places lane now w = if lane == w then now else places w

-- ---- Worked rows

third_of_three : without_index {A = ℕ} 2 (4 ∷ 7 ∷ 9 ∷ []) ≡ 4 ∷ 7 ∷ []
third_of_three = refl

none_beyond : without_index {A = ℕ} 5 (4 ∷ 7 ∷ []) ≡ 4 ∷ 7 ∷ []
none_beyond = refl

one_of_two : is_in 7 (4 ∷ 7 ∷ []) ≡ true
one_of_two = refl

none_of_two : is_in 5 (4 ∷ 7 ∷ []) ≡ false
none_of_two = refl
