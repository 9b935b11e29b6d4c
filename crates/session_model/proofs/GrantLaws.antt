-- Which grant is to be closed, from what holds of each.
use Rattle.std.proofs.Common.{◌≡◌, ◌≢◌, ◌<◌, ℕ, zero, suc, Bool, true, false, Option, Some, None, refl, ap, sym, ◌∙◌, arith, if◌then◌else◌, inl, inr}
use Rattle.std.specs.Prelude.{◌||◌, ◌⊎◌}
use Rattle.std.proofs.lemmas.Bool.Decides.{eqb_tells}
use Rattle.session_model.specs.Grants.{first_or, first_below, any_below}

-- no number passes
pub none_below : (f : ℕ → Bool) (n : ℕ) → ((k : ℕ) → k < n → f k ≡ false) → first_below f n ≡ None
none_below f zero h = refl
none_below f (suc n) h = rw (none_below f n (λ k lt. h k (omega arith)), h n (omega arith)) refl

-- one number passes
pub one_below : (f : ℕ → Bool) (n g : ℕ) → g < n → f g ≡ true → ((k : ℕ) → k ≢ g → f k ≡ false) → first_below f n
    ≡ Some g
one_below f zero g lt is others = absurd (omega arith)
one_below f (suc n) g lt is others =
    elim (eqb_tells n g) [
      | inl t ↦ rw (none_below f n (λ k below. others k (λ e. absurd (let same : n ≡ g = t.1 in omega arith))))
          (let here : f n ≡ true = ap f t.1 ∙ is in rw here (ap (λ (w : ℕ). Some w) t.1))
      | inr t ↦ (let below : g < n = (let ne : n ≢ g = t.1 in omega arith) in rw (one_below f n g below is others) refl)
    ]

-- the first number that passes does, and none below it
first_here : (f : ℕ → Bool) (b : Option ℕ) (n g : ℕ) → first_or b (f n) n ≡ Some g → (b ≡ Some g)
    ⊎ ((b ≡ None) × (n ≡ g) × (f n ≡ true))
first_here f (Some k) n g e = inl e
first_here f None n g e = let h = by_test (f n) refl e in inr (refl, h.0, h.1)
  where
    by_test : (t : Bool) → f n ≡ t → (if t then Some n else None) ≡ Some g → (n ≡ g) × (f n ≡ true)
    by_test true is e = (cc, is)
    by_test false is e = absurd cc

pub first_passes : (f : ℕ → Bool) (n g : ℕ) → first_below f n ≡ Some g → (g < n) × (f g ≡ true)
first_passes f zero g e = absurd cc
first_passes f (suc n) g e =
    elim (first_here f (first_below f n) n g e) [
      | inl old ↦ (let h = first_passes f n g old in let lt : g < n = h.0 in (omega arith, h.1))
      | inr new ↦ (let same : n ≡ g = new.1 in (omega arith, ap f (sym same) ∙ new.2))
    ]

-- no number passes where there is no first one
first_none : (f : ℕ → Bool) (b : Option ℕ) (n : ℕ) → first_or b (f n) n ≡ None → (b ≡ None) × (f n ≡ false)
first_none f (Some k) n e = absurd cc
first_none f None n e = (refl, by_test (f n) e)
  where
    by_test : (t : Bool) → (if t then Some n else None) ≡ None → t ≡ false
    by_test true e = absurd cc
    by_test false e = refl

pub below_none : (f : ℕ → Bool) (n : ℕ) → first_below f n ≡ None → (k : ℕ) → k < n → f k ≡ false
below_none f zero e k lt = absurd (omega arith)
below_none f (suc n) e k lt =
    let h = first_none f (first_below f n) n e in
    elim (eqb_tells k n) [
      | inl t ↦ ap f t.1 ∙ h.1
      | inr t ↦ below_none f n h.0 k (let ne : k ≢ n = t.1 in omega arith)
    ]

-- some number below n passes, and none does
pub any_passes : (f : ℕ → Bool) (n k : ℕ) → k < n → f k ≡ true → any_below f n ≡ true
any_passes f zero k lt is = absurd (omega arith)
any_passes f (suc n) k lt is =
    elim (eqb_tells k n) [
      | inl t ↦ (let here : f n ≡ true = ap f (sym t.1) ∙ is in rw here refl)
      | inr t ↦ or_right (f n) (any_below f n) (any_passes f n k (let ne : k ≢ n = t.1 in omega arith) is)
    ]
  where
    or_right : (a b : Bool) → b ≡ true → (a || b) ≡ true
    or_right true b e = refl
    or_right false b e = e

pub any_none : (f : ℕ → Bool) (n : ℕ) → ((k : ℕ) → k < n → f k ≡ false) → any_below f n ≡ false
any_none f zero h = refl
any_none f (suc n) h = rw (h n (omega arith)) (any_none f n (λ k lt. h k (omega arith)))

-- where some number below n passes, there is one
any_here : (f : ℕ → Bool) (n : ℕ) (b : Bool) → (f n || b) ≡ true → (f n ≡ true) ⊎ (b ≡ true)
any_here f n b e = by_test (f n) refl e
  where
    by_test : (t : Bool) → f n ≡ t → (t || b) ≡ true → (f n ≡ true) ⊎ (b ≡ true)
    by_test true is e = inl is
    by_test false is e = inr e

pub any_where : (f : ℕ → Bool) (n : ℕ) → any_below f n ≡ true → (k : ℕ) × ((k < n) × (f k ≡ true))
any_where f zero e = absurd cc
any_where f (suc n) e =
    elim (any_here f n (any_below f n) e) [
      | inl here ↦ (n, (omega arith, here))
      | inr more ↦ (let h = any_where f n more in let lt : h.0 < n = h.1.0 in (h.0, (omega arith, h.1.1)))
    ]
