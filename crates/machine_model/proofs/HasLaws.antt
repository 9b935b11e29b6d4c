-- What stands in a list, in a list after it, in a mapped one, and where all pass a test or none.
use Rattle.std.proofs.Common.{◌≡◌, Bool, true, false, List, [], ◌∷◌, ◌++◌, refl, ap, subst, inl, inr}
use Rattle.std.specs.Prelude.{◌⊎◌, map}
use Rattle.std.specs.List.{list_all, list_any}
use Rattle.std.proofs.lemmas.Bool.{and_parts, or_parts}
use Rattle.machine_model.specs.Pairs.{HasEntry}

pub has_append : {X : Type 0} (xs ys : List X) (x : X) → HasEntry (xs ++ ys) x → HasEntry xs x ⊎ HasEntry ys x
has_append [] ys x h = inr h
has_append (y ∷ xs) ys x (inl e) = inl (inl e)
has_append (y ∷ xs) ys x (inr h) = elim (has_append xs ys x h) [ inl a ↦ inl (inr a) | inr b ↦ inr b ]

pub has_later : {X : Type 0} (xs ys : List X) (x : X) → HasEntry ys x → HasEntry (xs ++ ys) x
has_later [] ys x h = h
has_later (y ∷ xs) ys x h = inr (has_later xs ys x h)

pub has_map : {X Y : Type 0} (f : X → Y) (xs : List X) (x : X) → HasEntry xs x → HasEntry (map f xs) (f x)
has_map f [] x h = absurd h
has_map f (y ∷ xs) x (inl e) = inl (ap f e)
has_map f (y ∷ xs) x (inr h) = inr (has_map f xs x h)

pub map_has : {X Y : Type 0} (f : X → Y) (xs : List X) (y : Y) → HasEntry (map f xs) y → (x : X)
    × (HasEntry xs x × (f x ≡ y))
map_has f [] y h = absurd h
map_has f (x ∷ xs) y (inl e) = (x, (inl refl, e))
map_has f (x ∷ xs) y (inr h) = let more = map_has f xs y h in (more.0, (inr more.1.0, more.1.1))

pub all_has : {X : Type 0} (test : X → Bool) (xs : List X) → ((x : X) → HasEntry xs x → test x ≡ true)
    → list_all test xs ≡ true
all_has test [] h = refl
all_has test (x ∷ xs) h = rw (h x (inl refl), all_has test xs (λ y has. h y (inr has))) refl

pub has_all : {X : Type 0} (test : X → Bool) (xs : List X) (x : X) → list_all test xs ≡ true → HasEntry xs x → test x
    ≡ true
has_all test [] x e h = absurd h
has_all test (y ∷ xs) x e (inl same) = subst (λ w. test w ≡ true) same (and_parts (test y) (list_all test xs) e).0
has_all test (y ∷ xs) x e (inr h) = has_all test xs x (and_parts (test y) (list_all test xs) e).1 h

pub none_passes : {X : Type 0} (test : X → Bool) (xs : List X) (x : X) → list_any test xs ≡ false → HasEntry xs x
    → test x ≡ false
none_passes test [] x e h = absurd h
none_passes test (y ∷ xs) x e (inl same) = subst (λ w. test w ≡ false) same (or_parts (test y) (list_any test xs) e).0
none_passes test (y ∷ xs) x e (inr h) = none_passes test xs x (or_parts (test y) (list_any test xs) e).1 h
