-- A path walked byte by byte.
use Rattle.std.proofs.Common.{◌≡◌, ℕ, ◌==◌, Bool, true, false, List, [], ◌∷◌, ◌++◌, if◌then◌else◌, refl, sym, ap}
use Rattle.std.proofs.lemmas.List.{append_assoc, append-nil}
use Rattle.machine_model.specs.Components.{Name, with_byte, parts_of, walk_from, step_into}

-- bytes before the first of these parts
abbrev pub with_prefix : List ℕ → List (List ℕ) → List (List ℕ)
with_prefix prefix [] = prefix ∷ []
with_prefix prefix (part ∷ parts) = (prefix ++ part) ∷ parts

front_byte : (prefix : List ℕ) (b : ℕ) (parts : List (List ℕ)) → with_prefix prefix (with_byte b parts)
    ≡ with_prefix (prefix ++ b ∷ []) parts
front_byte prefix b [] = refl
front_byte prefix b (part ∷ parts) = ap (λ l. let m : List (List ℕ) = l ∷ parts in m)
    (sym (append_assoc prefix (b ∷ []) part))

no_front_byte : (b : ℕ) (parts : List (List ℕ)) → with_prefix [] (with_byte b parts) ≡ with_byte b parts
no_front_byte b [] = refl
no_front_byte b (part ∷ parts) = refl

no_front_if : (t : Bool) (b : ℕ) (parts : List (List ℕ)) → with_prefix [] (if t then [] ∷ parts else with_byte b parts)
    ≡ (if t then [] ∷ parts else with_byte b parts)
no_front_if true b parts = refl
no_front_if false b parts = no_front_byte b parts

pub no_front : (path : List ℕ) → with_prefix [] (parts_of path) ≡ parts_of path
no_front [] = refl
no_front (b ∷ path) = no_front_if (b == 47) b (parts_of path)

-- a part ends at a slash
pub at_slash : (at : Name) (part : List ℕ) (b : ℕ) (path : List ℕ) → (b == 47) ≡ true
    → walk_from at (with_prefix part (parts_of (b ∷ path))) ≡ walk_from (step_into at part)
    (with_prefix [] (parts_of path))
at_slash at part b path t = rw t (rw (append-nil part) (rw (no_front path) refl))

-- and goes on at any other byte
pub at_byte : (at : Name) (part : List ℕ) (b : ℕ) (path : List ℕ) → (b == 47) ≡ false
    → walk_from at (with_prefix part (parts_of (b ∷ path))) ≡ walk_from at
    (with_prefix (part ++ b ∷ []) (parts_of path))
at_byte at part b path t = rw t (ap (walk_from at) (front_byte part b (parts_of path)))
