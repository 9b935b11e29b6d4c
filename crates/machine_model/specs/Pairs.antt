-- believed
-- Membership in a list.
use Rattle.std.specs.Prelude.{◌≡◌, ◌⊎◌, List, [], ◌∷◌}

-- The value is in the list.
abbrev pub HasEntry : {X : Type 0} → List X → X → Type 0
HasEntry [] x = ⊥
HasEntry (y ∷ ys) x = (y ≡ x) ⊎ HasEntry ys x
