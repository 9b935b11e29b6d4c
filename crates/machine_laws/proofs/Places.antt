-- Numbers that pass a test, in their order: the places of requests.
use Rattle.std.proofs.Common.{
  ◌≡◌,
  ◌≢◌,
  ◌<◌,
  ◌≤◌,
  ◌-◌,
  ℕ,
  zero,
  suc,
  Bool,
  true,
  false,
  List,
  [],
  ◌∷◌,
  ◌++◌,
  length,
  map,
  Some,
  refl,
  ap,
  sym,
  ◌∙◌,
  subst,
  append_assoc,
  arith,
  if◌then◌else◌,
  inl,
  inr,
}
use Rattle.std.specs.Prelude.{◌⊎◌, nat_le, slice_get}
use Rattle.std.specs.List.{remove}
use Rattle.std.proofs.lemmas.Bool.{cases_lt}
use Rattle.std.proofs.lemmas.Bool.Decides.{eqb_tells, nat_tests}
use Rattle.std.proofs.lemmas.List.{append-nil, map-append}
use Rattle.std.proofs.lemmas.List.Edits.{remove-append_left, remove-append_right}
use Rattle.session_model.specs.Served.{those_below}

-- the number, where it passes
abbrev one_if : Bool → ℕ → List ℕ
one_if b n = if b then n ∷ [] else []

-- ---- the same test

one_same : {A : Type 0} (b c : Bool) (h k : ℕ → A) (n : ℕ) → b ≡ c → h n ≡ k n → map h (one_if b n) ≡ map k (one_if c n)
one_same b true h k n e same = rw e (ap (λ (x : _). x ∷ []) same)
one_same b false h k n e same = rw e refl

pub mapped_same : {A : Type 0} (f g : ℕ → Bool) (h k : ℕ → A) (n : ℕ) → ((p : ℕ) → p < n → (f p ≡ g p) × (h p ≡ k p))
    → map h (those_below f n) ≡ map k (those_below g n)
mapped_same f g h k zero same = refl
mapped_same f g h k (suc n) same =
    let last = same n (omega arith) in
    map-append h (those_below f n) (one_if (f n) n)
    ∙ (ap (λ (x : _). x ++ map h (one_if (f n) n)) (mapped_same f g h k n (λ p lt. same p (omega (arith, lt))))
    ∙ (ap (λ (x : _). map k (those_below g n) ++ x) (one_same (f n) (g n) h k n last.0 last.1)
    ∙ sym (map-append k (those_below g n) (one_if (g n) n))))

pub same_below : (f g : ℕ → Bool) (n : ℕ) → ((p : ℕ) → p < n → f p ≡ g p) → those_below f n ≡ those_below g n
same_below f g zero same = refl
same_below f g (suc n) same =
    ap (λ (x : List ℕ). x ++ one_if (f n) n) (same_below f g n (λ p lt. same p (omega (arith, lt))))
    ∙ ap (λ (b : Bool). those_below g n ++ one_if b n) (same n (omega arith))

-- ---- numbers from one up to another

abbrev pub those_between : (ℕ → Bool) → ℕ → ℕ → List ℕ
those_between f low zero = []
those_between f low (suc n) = if nat_le low n then those_between f low n ++ (if f n then n ∷ [] else []) else []

le_is : (m n : ℕ) → m ≤ n → nat_le m n ≡ true
le_is m n h = grind (arith, nat_tests)

le_not : (m n : ℕ) → n < m → nat_le m n ≡ false
le_not m n h = grind (arith, nat_tests)

pub between_none : (f : ℕ → Bool) (n : ℕ) → those_between f n n ≡ []
between_none f zero = refl
between_none f (suc n) = rw (le_not (suc n) n (omega arith)) refl

pub between_more : (f : ℕ → Bool) (low n : ℕ) → low ≤ n → those_between f low (suc n) ≡ those_between f low n
    ++ one_if (f n) n
between_more f low n le = rw (le_is low n le) refl

all_below : (f : ℕ → Bool) (n : ℕ) → those_below f n ≡ those_below f n ++ those_between f n n
all_below f n = sym (append-nil (those_below f n)) ∙ ap (λ (x : List ℕ). those_below f n ++ x) (sym (between_none f n))

pub below_split : (f : ℕ → Bool) (low n : ℕ) → low ≤ n → those_below f n ≡ those_below f low ++ those_between f low n
below_split f low zero le = let none : low ≡ 0 = omega (arith, le) in rw none refl
below_split f low (suc n) le =
    elim (cases_lt n low) [
      | inl lt ↦ (let is : low ≡ suc n = omega (arith, lt, le) in
          subst (λ (k : ℕ). those_below f (suc n) ≡ those_below f k ++ those_between f k (suc n)) (sym is)
          (all_below f (suc n)))
      | inr under ↦
          ap (λ (x : List ℕ). x ++ one_if (f n) n) (below_split f low n under)
          ∙ (append_assoc (those_below f low) (those_between f low n) (one_if (f n) n)
          ∙ ap (λ (x : List ℕ). those_below f low ++ x) (sym (between_more f low n under)))
    ]

pub between_same : {A : Type 0} (f g : ℕ → Bool) (h k : ℕ → A) (low n : ℕ)
    → ((p : ℕ) → low ≤ p → p < n → (f p ≡ g p) × (h p ≡ k p)) → map h (those_between f low n)
    ≡ map k (those_between g low n)
between_same f g h k low zero same = refl
between_same f g h k low (suc n) same =
    elim (cases_lt n low) [
      | inl lt ↦ rw (le_not low n lt) refl
      | inr le ↦
          let last = same n le (omega arith) in
          ap (λ (x : List ℕ). map h x) (between_more f low n le)
          ∙ (map-append h (those_between f low n) (one_if (f n) n)
          ∙ (ap (λ (x : _). x ++ map h (one_if (f n) n)) (between_same f g h k low n
          (λ p above lt. same p above (omega (arith, lt))))
          ∙ (ap (λ (x : _). map k (those_between g low n) ++ x) (one_same (f n) (g n) h k n last.0 last.1)
          ∙ (sym (map-append k (those_between g low n) (one_if (g n) n))
          ∙ ap (λ (x : List ℕ). map k x) (sym (between_more g low n le))))))
    ]

-- ---- one number less

-- a number that is found passes, and is below
pub record Found (f : ℕ → Bool) (n p : ℕ) : Type 0 where
  pub passes : f p ≡ true
  pub below : p < n

get_front : {A : Type 0} (xs ys : List A) (i : ℕ) → i < length xs → slice_get (xs ++ ys) i ≡ slice_get xs i
get_front [] ys i lt = absurd (omega (arith, lt))
get_front (x ∷ xs) ys zero lt = refl
get_front (x ∷ xs) ys (suc i) lt = get_front xs ys i (let l : suc i < suc (length xs) = lt in omega (arith, l))

get_behind : {A : Type 0} (xs ys : List A) (i : ℕ) → length xs ≤ i → slice_get (xs ++ ys) i
    ≡ slice_get ys (i - length xs)
get_behind [] ys i le = ap (slice_get ys) (omega arith)
get_behind (x ∷ xs) ys zero le = absurd (omega (arith, le))
get_behind (x ∷ xs) ys (suc i) le = get_behind xs ys i (let l : suc (length xs) ≤ suc i = le in omega (arith, l))
    ∙ ap (slice_get ys) (omega arith)

-- where one number at most stands, it is the first
record IsOnly (b : Bool) (n i p : ℕ) : Type 0 where
  is : p ≡ n
  first : i ≡ 0
  passes : b ≡ true

get_one : (b : Bool) (n i p : ℕ) → slice_get (one_if b n) i ≡ Some p → IsOnly b n i p
get_one true n zero p e = record { is = cc; first = refl; passes = refl }
get_one true n (suc i) p e = absurd cc
get_one false n i p e = absurd cc

pub found : (f : ℕ → Bool) (n i p : ℕ) → slice_get (those_below f n) i ≡ Some p → Found f n p
found f zero i p e = absurd cc
found f (suc n) i p e =
    elim (cases_lt i (length (those_below f n))) [
      | inl lt ↦ (let h = found f n i p (sym (get_front (those_below f n) (one_if (f n) n) i lt) ∙ e) in let below =
          h.below in record { passes = h.passes; below = omega (arith, below) })
      | inr le ↦
          let o = get_one (f n) n (i - length (those_below f n)) p
          (sym (get_behind (those_below f n) (one_if (f n) n) i le) ∙ e) in
          let is = o.is in
          record { passes = ap f is ∙ o.passes; below = omega (arith, is) }
    ]

-- the same test but for one number
abbrev pub IsBut : (ℕ → Bool) → ℕ → (ℕ → Bool) → Type 0
IsBut f p g = (g p ≡ false) × ((q : ℕ) → p ≢ q → g q ≡ f q)

-- a number that passes no longer is taken out
pub one_less : (f g : ℕ → Bool) (n i p : ℕ) → IsBut f p g → slice_get (those_below f n) i ≡ Some p → those_below g n
    ≡ remove (those_below f n) i
one_less f g zero i p but e = absurd cc
one_less f g (suc n) i p but e =
    elim (cases_lt i (length (those_below f n))) [
      | inl lt ↦
          let here : slice_get (those_below f n) i ≡ Some p = sym (get_front (those_below f n) (one_if (f n) n) i lt)
          ∙ e in
          let below = (found f n i p here).below in
          let last : g n ≡ f n = but.1 n (λ is. absurd (omega (arith, is, below))) in
          ap (λ (b : Bool). those_below g n ++ one_if b n) last
          ∙ (ap (λ (x : List ℕ). x ++ one_if (f n) n) (one_less f g n i p but here)
          ∙ sym (remove-append_left (those_below f n) (one_if (f n) n) i lt))
      | inr le ↦
          let o = get_one (f n) n (i - length (those_below f n)) p
          (sym (get_behind (those_below f n) (one_if (f n) n) i le) ∙ e) in
          let is = o.is in
          let none : g n ≡ false = ap g (sym is) ∙ but.0 in
          let others : those_below g n ≡ those_below f n = same_below g f n
          (λ q lt. but.1 q (λ x. absurd (omega (arith, is, x, lt)))) in
          rw none (append-nil (those_below g n) ∙ others)
          ∙ (sym (append-nil (those_below f n))
          ∙ (ap (λ (k : ℕ). those_below f n ++ remove (n ∷ []) k) (sym o.first)
          ∙ (ap (λ (b : Bool). those_below f n ++ remove (one_if b n) (i - length (those_below f n))) (sym o.passes)
          ∙ sym (remove-append_right (those_below f n) (one_if (f n) n) (length (those_below f n)) i refl le))))
    ]

-- no number that passes is there
pub none_less : (f g : ℕ → Bool) (n p : ℕ) → f p ≡ false → IsBut f p g → those_below g n ≡ those_below f n
none_less f g n p e but =
    same_below g f n (λ q lt. elim (eqb_tells p q) [
      | inl t ↦ (let is : p ≡ q = t.1 in ap g (sym is)
          ∙ (but.0 ∙ (sym e ∙ ap f is)))
      | inr t ↦ but.1 q t.1
    ])

pub map_remove : {A B : Type 0} (h : A → B) (xs : List A) (i : ℕ) → map h (remove xs i) ≡ remove (map h xs) i
map_remove h [] zero = refl
map_remove h [] (suc i) = refl
map_remove h (x ∷ xs) zero = refl
map_remove h (x ∷ xs) (suc i) = ap (λ (ys : _). h x ∷ ys) (map_remove h xs i)

-- some number passes where the list isn't empty
pub first_found : (f : ℕ → Bool) (n p : ℕ) → p < n → f p ≡ true → (q : ℕ)
    × ((later : List ℕ) × (those_below f n ≡ q ∷ later))
first_found f zero p lt e = absurd (omega (arith, lt))
first_found f (suc n) p lt e =
    elim (eqb_tells p n) [
      | inl t ↦ (let passes : f n ≡ true = ap f (sym t.1) ∙ e in by_front (those_below f n) n (f n) (inr passes))
      | inr t ↦ (let ne : p ≢ n = t.1 in by_front (those_below f n) n (f n)
          (inl (first_found f n p (omega (arith, lt, ne)) e)))
    ]
  where
    by_front : (xs : List ℕ) (k : ℕ) (b : Bool) → ((q : ℕ) × ((later : List ℕ) × (xs ≡ q ∷ later))) ⊎ (b ≡ true)
        → (q : ℕ) × ((later : List ℕ) × (xs ++ one_if b k ≡ q ∷ later))
    by_front xs k b (inl h) = (h.0, (h.1.0 ++ one_if b k, ap (λ (w : List ℕ). w ++ one_if b k) h.1.1))
    by_front [] k b (inr passes) = (k, ([], ap (λ (c : Bool). one_if c k) passes))
    by_front (x ∷ xs) k b (inr passes) = (x, (xs ++ one_if b k, refl))
