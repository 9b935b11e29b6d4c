-- Lists of places in rising order: one is taken out, or one is put at the end.
use Rattle.std.proofs.Common.{
  ◌≡◌,
  ◌≢◌,
  ◌<◌,
  ◌==◌,
  ℕ,
  zero,
  suc,
  Bool,
  true,
  false,
  List,
  [],
  ◌∷◌,
  ◌++◌,
  take,
  drop,
  Some,
  refl,
  ap,
  sym,
  ◌∙◌,
  subst,
  arith,
  inl,
  inr,
}
use Rattle.std.specs.Prelude.{◌||◌, slice_get}
use Rattle.std.proofs.lemmas.Bool.Decides.{eqb_tells}
use Rattle.session_laws.specs.Places.{IsAbove, IsRising, is_in, IsBelow, without_index}

pub without_is : (k : ℕ) (ps : List ℕ) → take k ps ++ drop (suc k) ps ≡ without_index k ps
without_is zero [] = refl
without_is (suc k) [] = refl
without_is zero (p ∷ ps) = refl
without_is (suc k) (p ∷ ps) = ap (λ (l : List ℕ). p ∷ l) (without_is k ps)

-- ---- which places there are

pub different : (h q : ℕ) → h ≢ q → (h == q) ≡ false
different h q ne = elim (eqb_tells h q) [ inl t ↦ absurd (ne t.1) | inr t ↦ t.0 ]

pub without_other : (ps : List ℕ) (k p q : ℕ) → slice_get ps k ≡ Some p → q ≢ p → is_in q (without_index k ps)
    ≡ is_in q ps
without_other [] k p q at ne = refl
without_other (h ∷ hs) zero p q at ne = (let same : h ≡ p = cc in let out : (h == q) ≡ false =
    different h q (λ e. ne (sym e ∙ same)) in rw out refl)
without_other (h ∷ hs) (suc k) p q at ne = ap (λ b. (h == q) || b) (without_other hs k p q at ne)

pub above_out : (k : ℕ) (gs : List ℕ) → IsAbove k gs → is_in k gs ≡ false
above_out k [] above = refl
above_out k (h ∷ hs) above = (let lt : k < h = above.0 in rw (different h k (λ e. (omega (arith, e, lt))))
    (above_out k hs above.1))

pub above_at : (h : ℕ) (ps : List ℕ) (k p : ℕ) → IsAbove h ps → slice_get ps k ≡ Some p → h < p
above_at h [] k p above at = absurd cc
above_at h (x ∷ xs) zero p above at = (let same : x ≡ p = cc in subst (λ (n : ℕ). h < n) same above.0)
above_at h (x ∷ xs) (suc k) p above at = above_at h xs k p above.1 at

pub without_self : (ps : List ℕ) (k p : ℕ) → IsRising ps → slice_get ps k ≡ Some p → is_in p (without_index k ps)
    ≡ false
without_self [] k p rising at = refl
without_self (h ∷ hs) zero p rising at = (let same : h ≡ p = cc in
    subst (λ (n : ℕ). is_in n hs ≡ false) same (above_out h hs rising.0))
without_self (h ∷ hs) (suc k) p rising at = (let lt : h < p = above_at h hs k p rising.0 at in
    rw (different h p (λ e. (omega (arith, e, lt)))) (without_self hs k p rising.1 at))

pub without_out : (ps : List ℕ) (k q : ℕ) → is_in q ps ≡ false → is_in q (without_index k ps) ≡ false
without_out [] k q e = e
without_out (h ∷ hs) k q e = elim (eqb_tells h q) [
  | inl t ↦ absurd (let clash : true ≡ false = rw t.0 at e in cc)
  | inr t ↦ by_index k (rw t.0 at e) t.0 (λ j. without_out hs j q (rw t.0 at e))
]
  where
    by_index : (j : ℕ) → is_in q hs ≡ false → (h == q) ≡ false → ((i : ℕ) → is_in q (without_index i hs) ≡ false)
        → is_in q (without_index j (h ∷ hs)) ≡ false
    by_index zero rest out more = rest
    by_index (suc j) rest out more = rw out (more j)

pub at_in : (ps : List ℕ) (k p : ℕ) → slice_get ps k ≡ Some p → is_in p ps ≡ true
at_in [] k p at = absurd cc
at_in (h ∷ hs) zero p at = (let same : h ≡ p = cc in elim (eqb_tells h p)
    [ inl t ↦ rw t.0 refl | inr t ↦ absurd (t.1 same) ])
at_in (h ∷ hs) (suc k) p at = by_head (h == p) (at_in hs k p at)
  where
    by_head : (b : Bool) → is_in p hs ≡ true → (b || is_in p hs) ≡ true
    by_head true e = refl
    by_head false e = e

pub push_other : (ps : List ℕ) (p q : ℕ) → q ≢ p → is_in q (ps ++ p ∷ []) ≡ is_in q ps
push_other [] p q ne = rw (different p q (λ e. ne (sym e))) refl
push_other (h ∷ hs) p q ne = ap (λ b. (h == q) || b) (push_other hs p q ne)

pub push_self : (ps : List ℕ) (p : ℕ) → is_in p (ps ++ p ∷ []) ≡ true
push_self [] p = elim (eqb_tells p p) [ inl t ↦ rw t.0 refl | inr t ↦ absurd (t.1 refl) ]
push_self (h ∷ hs) p = by_head (h == p) (push_self hs p)
  where
    by_head : (b : Bool) → is_in p (hs ++ p ∷ []) ≡ true → (b || is_in p (hs ++ p ∷ [])) ≡ true
    by_head true e = refl
    by_head false e = e

-- ---- the order

without_above : (g : ℕ) (ps : List ℕ) (k : ℕ) → IsAbove g ps → IsAbove g (without_index k ps)
without_above g [] k above = tt
without_above g (h ∷ hs) zero above = above.1
without_above g (h ∷ hs) (suc k) above = (above.0, without_above g hs k above.1)

pub without_rising : (ps : List ℕ) (k : ℕ) → IsRising ps → IsRising (without_index k ps)
without_rising [] k rising = tt
without_rising (h ∷ hs) zero rising = rising.1
without_rising (h ∷ hs) (suc k) rising = (without_above h hs k rising.0, without_rising hs k rising.1)

push_above : (g : ℕ) (ps : List ℕ) (p : ℕ) → IsAbove g ps → g < p → IsAbove g (ps ++ p ∷ [])
push_above g [] p above lt = (lt, tt)
push_above g (h ∷ hs) p above lt = (above.0, push_above g hs p above.1 lt)

pub push_rising : (ps : List ℕ) (p : ℕ) → IsRising ps → IsBelow p ps → IsRising (ps ++ p ∷ [])
push_rising [] p rising below = (tt, tt)
push_rising (h ∷ hs) p rising below = (push_above h hs p rising.0 below.0, push_rising hs p rising.1 below.1)
