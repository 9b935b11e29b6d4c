-- What stands in a list, and the least and the greatest of its numbers.
use Rattle.std.proofs.Common.{◌≡◌, ◌<◌, ◌≤◌, ℕ, Bool, true, false, List, [], ◌∷◌, Option, Some, None, refl, sym, ap, subst, ◌∙◌, inl, inr, arith}
use Rattle.std.specs.Prelude.{◌⊎◌, ◌++◌, ◌==◌, ◌||◌, cond, length, map, max, min, nat_le, filter}
use Rattle.std.specs.List.{list_any}
use Rattle.std.proofs.lemmas.Bool.Decides.{nat_tests}
use Rattle.plan_model.specs.WindowPlans.{lesser, least, greatest}

-- it stands in the list
abbrev pub Among : {A : Type 0} → A → List A → Type 0
Among x [] = ⊥
Among x (y ∷ ys) = (x ≡ y) ⊎ Among x ys

pub among_map : {A B : Type 0} (f : A → B) (x : A) (xs : List A) → Among x xs → Among (f x) (map f xs)
among_map f x [] h = absurd h
among_map f x (y ∷ ys) (inl e) = inl (ap f e)
among_map f x (y ∷ ys) (inr h) = inr (among_map f x ys h)

-- what an element of a list was made of
pub record MadeOf {A B : Type 0} (f : A → B) (xs : List A) (b : B) : Type 0 where
  pub of : A
  pub there : Among of xs
  pub gives : b ≡ f of

pub from_map : {A B : Type 0} (f : A → B) (b : B) (xs : List A) → Among b (map f xs) → MadeOf f xs b
from_map f b [] h = absurd h
from_map f b (y ∷ ys) (inl e) = record { of = y; there = inl refl; gives = e }
from_map f b (y ∷ ys) (inr h) = let m : MadeOf f ys b = from_map f b ys h in
    record { of = m.of; there = inr m.there; gives = m.gives }

-- an element passes the test, and stands in the list
pub from_filter : {A : Type 0} (t : A → Bool) (x : A) (xs : List A) → Among x (filter t xs) → Among x xs × (t x ≡ true)
from_filter t x [] h = absurd h
from_filter t x (y ∷ ys) h = by_test (t y) refl (from_filter t x ys) h
  where
    by_test : (b : Bool) → t y ≡ b → (Among x (filter t ys) → Among x ys × (t x ≡ true))
        → Among x (cond b (y ∷ filter t ys) (filter t ys)) → Among x (y ∷ ys) × (t x ≡ true)
    by_test true is rest (inl e) = (inl e, ap t e ∙ is)
    by_test true is rest (inr h) = (inr (rest h).0, (rest h).1)
    by_test false is rest h = (inr (rest h).0, (rest h).1)

pub into_filter : {A : Type 0} (t : A → Bool) (x : A) (xs : List A) → Among x xs → t x ≡ true → Among x (filter t xs)
into_filter t x [] h is = absurd h
into_filter t x (y ∷ ys) h is = by_test (t y) refl h (λ k. into_filter t x ys k is)
  where
    by_test : (b : Bool) → t y ≡ b → Among x (y ∷ ys) → (Among x ys → Among x (filter t ys))
        → Among x (cond b (y ∷ filter t ys) (filter t ys))
    by_test true at (inl e) later = inl e
    by_test true at (inr k) later = inr (later k)
    by_test false at (inl e) later = absurd (let z : true ≡ false = sym is ∙ ap t e ∙ at in cc)
    by_test false at (inr k) later = later k

pub at_end : {A : Type 0} (x y : A) (xs : List A) → Among x (xs ++ y ∷ []) → Among x xs ⊎ (x ≡ y)
at_end x y [] (inl e) = inr e
at_end x y [] (inr h) = absurd h
at_end x y (z ∷ zs) (inl e) = inl (inl e)
at_end x y (z ∷ zs) (inr h) = elim (at_end x y zs h) [ inl k ↦ inl (inr k) | inr e ↦ inr e ]

pub before_end : {A : Type 0} (x y : A) (xs : List A) → Among x xs → Among x (xs ++ y ∷ [])
before_end x y [] h = absurd h
before_end x y (z ∷ zs) (inl e) = inl e
before_end x y (z ∷ zs) (inr h) = inr (before_end x y zs h)

pub last_end : {A : Type 0} (y : A) (xs : List A) → Among y (xs ++ y ∷ [])
last_end y [] = inl refl
last_end y (z ∷ zs) = inr (last_end y zs)

-- ---- the least and the greatest

-- the lesser of two is one of them
min_is : (a b : ℕ) → (min a b ≡ a) ⊎ (min a b ≡ b)
min_is a b = by_test (nat_le a b) refl
  where
    by_test : (t : Bool) → nat_le a b ≡ t → (min a b ≡ a) ⊎ (min a b ≡ b)
    by_test true is = inl (let le : a ≤ b = grind (arith, nat_tests) in omega (arith, le))
    by_test false is = inr (let le : b < a = grind (arith, nat_tests) in omega (arith, le))

max_is : (a b : ℕ) → (max a b ≡ a) ⊎ (max a b ≡ b)
max_is a b = by_test (nat_le a b) refl
  where
    by_test : (t : Bool) → nat_le a b ≡ t → (max a b ≡ a) ⊎ (max a b ≡ b)
    by_test true is = inr (let le : a ≤ b = grind (arith, nat_tests) in omega (arith, le))
    by_test false is = inl (let le : b < a = grind (arith, nat_tests) in omega (arith, le))

some_is : (a b : ℕ) → (let p : Option ℕ = Some a in p) ≡ Some b → a ≡ b
some_is a b e = cc

pub lesser_there : (n : ℕ) (o : Option ℕ) → lesser n o ≡ None → ⊥
lesser_there n None e = absurd cc
lesser_there n (Some m) e = absurd cc

pub least_there : (x : ℕ) (xs : List ℕ) → Among x xs → least xs ≡ None → ⊥
least_there x [] h e = absurd h
least_there x (y ∷ ys) h e = lesser_there y (least ys) e

pub least_among : (p : ℕ) (xs : List ℕ) → least xs ≡ Some p → Among p xs
least_among p [] e = absurd cc
least_among p (x ∷ xs) e = by_rest (least xs) refl e (λ is. least_among p xs is)
  where
    by_rest : (o : Option ℕ) → least xs ≡ o → lesser x o ≡ Some p → (least xs ≡ Some p → Among p xs) → (p ≡ x)
        ⊎ Among p xs
    by_rest None is e later = inl (sym (some_is x p e))
    by_rest (Some q) is e later =
        elim (min_is x q) [
          | inl a ↦ inl (sym (some_is (min x q) p e) ∙ a)
          | inr b ↦
              inr (later (is ∙ ap (λ (n : ℕ). Some n) (sym b ∙ some_is (min x q) p e)))
        ]

pub least_under : (p x : ℕ) (xs : List ℕ) → least xs ≡ Some p → Among x xs → p ≤ x
least_under p x [] e h = absurd h
least_under p x (y ∷ ys) e h = by_rest (least ys) refl e h (λ q is k. least_under q x ys is k)
  where
    by_rest : (o : Option ℕ) → least ys ≡ o → lesser y o ≡ Some p → Among x (y ∷ ys)
        → ((q : ℕ) → least ys ≡ Some q → Among x ys → q ≤ x) → p ≤ x
    by_rest None is e (inl same) later = let a : y ≡ p = some_is y p e in omega (arith, a, same)
    by_rest None is e (inr k) later = absurd (least_there x ys k is)
    by_rest (Some q) is e (inl same) later = let a : min y q ≡ p = some_is (min y q) p e in omega (arith, a, same)
    by_rest (Some q) is e (inr k) later = let a : min y q ≡ p = some_is (min y q) p e in let b : q ≤ x = later q is k in
        omega (arith, a, b)

pub greatest_over : (x : ℕ) (xs : List ℕ) → Among x xs → x ≤ greatest xs
greatest_over x [] h = absurd h
greatest_over x (y ∷ ys) (inl e) = omega (arith, e)
greatest_over x (y ∷ ys) (inr h) = omega (arith, greatest_over x ys h)

pub greatest_among : (xs : List ℕ) → (greatest xs ≡ 0) ⊎ Among (greatest xs) xs
greatest_among [] = inl refl
greatest_among (x ∷ xs) = elim (max_is x (greatest xs)) [
  | inl a ↦ inr (inl a)
  | inr b ↦
      elim (greatest_among xs) [ inl z ↦ inl (b ∙ z) | inr h ↦ inr (inr (subst (λ (n : ℕ). Among n xs) (sym b) h)) ]
]

-- ---- tests of a list

pub none_is : (p x : ℕ) (xs : List ℕ) → list_any (λ y. y == p) xs ≡ false → Among x xs → x ≡ p → ⊥
none_is p x [] e h same = absurd h
none_is p x (y ∷ ys) e h same = by_head (y == p) refl e h (λ none k. none_is p x ys none k same)
  where
    equal : y ≡ p → (y == p) ≡ true
    equal e = grind (arith, nat_tests)

    by_head : (b : Bool) → (y == p) ≡ b → (b || list_any (λ z. z == p) ys) ≡ false → Among x (y ∷ ys)
        → (list_any (λ z. z == p) ys ≡ false → Among x ys → ⊥) → ⊥
    by_head true is e h later = cc
    by_head false is e (inl k) later = let z : true ≡ false = sym (equal (sym k ∙ same)) ∙ is in cc
    by_head false is e (inr k) later = later e k

-- ---- fewer pass a narrower test

pub fewer : {A : Type 0} (narrow wide : A → Bool) (xs : List A)
    → ((x : A) → Among x xs → narrow x ≡ true → wide x ≡ true) → length (filter narrow xs) ≤ length (filter wide xs)
fewer narrow wide [] h = omega arith
fewer narrow wide (y ∷ ys) h = by_test (narrow y) (wide y) refl refl (h y (inl refl))
    (fewer narrow wide ys (λ x k. h x (inr k)))
  where
    by_test : (a b : Bool) → narrow y ≡ a → wide y ≡ b → (narrow y ≡ true → wide y ≡ true)
        → length (filter narrow ys) ≤ length (filter wide ys)
        → length (cond a (y ∷ filter narrow ys) (filter narrow ys)) ≤ length
        (cond b (y ∷ filter wide ys) (filter wide ys))
    by_test true true is at up rest = omega (arith, rest)
    by_test true false is at up rest = absurd (let z : true ≡ false = sym (up is) ∙ at in cc)
    by_test false true is at up rest = omega (arith, rest)
    by_test false false is at up rest = rest

-- and one fewer at least where something passes the wider one alone
pub fewer_by_one : {A : Type 0} (narrow wide : A → Bool) (xs : List A) (z : A) → Among z xs → wide z ≡ true → narrow z
    ≡ false → ((x : A) → Among x xs → narrow x ≡ true → wide x ≡ true)
    → length (filter narrow xs) < length (filter wide xs)
fewer_by_one narrow wide [] z there ins out h = absurd there
fewer_by_one narrow wide (y ∷ ys) z there ins out h = by_test (narrow y) (wide y) refl refl (h y (inl refl)) there
    (λ k. fewer_by_one narrow wide ys z k ins out (λ x m. h x (inr m)))
  where
    most : length (filter narrow ys) ≤ length (filter wide ys)
    most = fewer narrow wide ys (λ x m. h x (inr m))

    by_test : (a b : Bool) → narrow y ≡ a → wide y ≡ b → (narrow y ≡ true → wide y ≡ true) → Among z (y ∷ ys)
        → (Among z ys → length (filter narrow ys) < length (filter wide ys))
        → length (cond a (y ∷ filter narrow ys) (filter narrow ys)) < length
        (cond b (y ∷ filter wide ys) (filter wide ys))
    by_test true true is at up (inl e) less = absurd (let c : true ≡ false = sym is ∙ ap narrow (sym e) ∙ out in cc)
    by_test true true is at up (inr k) less = omega (arith, less k)
    by_test true false is at up k less = absurd (let c : true ≡ false = sym (up is) ∙ at in cc)
    by_test false true is at up k less = omega (arith, most)
    by_test false false is at up (inl e) less = absurd (let c : true ≡ false = sym ins ∙ ap wide e ∙ at in cc)
    by_test false false is at up (inr k) less = less k

pub greatest_most : (m : ℕ) (xs : List ℕ) → ((x : ℕ) → Among x xs → x ≤ m) → greatest xs ≤ m
greatest_most m [] h = omega arith
greatest_most m (x ∷ xs) h = omega (arith, h x (inl refl), greatest_most m xs (λ y k. h y (inr k)))

pub none_there : {A : Type 0} (f : A → ℕ) (xs : List A) → least (map f xs) ≡ None → length xs ≡ 0
none_there f [] e = refl
none_there f (x ∷ xs) e = absurd (lesser_there (f x) (least (map f xs)) e)

pub least_none : (xs : List ℕ) → least xs ≡ None → length xs ≡ 0
least_none [] e = refl
least_none (x ∷ xs) e = absurd (lesser_there x (least xs) e)

pub some_there : {A : Type 0} (x : A) (xs : List A) → Among x xs → 1 ≤ length xs
some_there x [] h = absurd h
some_there x (y ∷ ys) h = omega arith
