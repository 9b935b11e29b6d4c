-- The grants that are due for their CLOSE, where an end may leave several: each is closed in its turn, the one of the
-- least place first.
use Rattle.std.proofs.Common.{
  ◌≡◌,
  ◌≢◌,
  ◌<◌,
  ◌==◌,
  ℕ,
  zero,
  suc,
  Bool,
  true,
  false,
  not,
  List,
  [],
  ◌∷◌,
  Option,
  Some,
  None,
  refl,
  ap,
  sym,
  ◌∙◌,
  subst,
  arith,
  inl,
  inr,
}
use Rattle.std.specs.Prelude.{◌||◌, ◌&&◌, length}
use Rattle.std.proofs.lemmas.Bool.Decides.{eqb_tells}
use Rattle.session_model.specs.declared.entry.Entry.{Entry}
use Rattle.session_model.specs.Readings.{count_submitted}
use Rattle.session_model.specs.Calls.{Setting}
use Rattle.session_model.specs.Grants.{IsSettled, is_grant, is_held, holds, is_one_of, closed_grants, next_due, is_due, first_below, any_below, letting_go}
use Rattle.session_model.specs.Journals.{close_of}
use Rattle.session_model.proofs.LetGoLaws.{each_settled, settled_each, Leaves, close_leaves, next_due_plain, granted_below}
use Rattle.session_laws.specs.Dues.{IsDue, AllDue, AreDueGrants}
use Rattle.session_laws.specs.Places.{IsAbove, is_in}
use Rattle.session_laws.proofs.GoneLaws.{closed_own}

below_out : (k g : ℕ) (gs : List ℕ) → k < g → IsAbove g gs → is_in k gs ≡ false
below_out k g [] lt above = refl
below_out k g (h ∷ hs) lt above =
    elim (eqb_tells h k) [
      | inl t ↦ absurd (let same : h ≡ k = t.1 in let over : g < h = above.0 in omega arith)
      | inr t ↦ rw t.0 (below_out k g hs lt above.1)
    ]

-- ---- the first one is next

none_first : (f : ℕ → Bool) (n : ℕ) → ((k : ℕ) → k < n → f k ≡ false) → first_below f n ≡ None
none_first f zero h = refl
none_first f (suc n) h = rw (none_first f n (λ k lt. h k (omega (arith, lt))), h n (omega arith)) refl

first_least : (f : ℕ → Bool) (n g : ℕ) → g < n → f g ≡ true → ((k : ℕ) → k < g → f k ≡ false) → first_below f n ≡ Some g
first_least f zero g lt is less = absurd (omega (arith, lt))
first_least f (suc n) g lt is less = elim (eqb_tells g n) [
  | inl t ↦ (let same : g ≡ n = t.1 in
      let none : first_below f n ≡ None = none_first f n (λ k below. less k (omega arith)) in
      rw (none, subst (λ (m : ℕ). f m ≡ true) same is) (ap (λ (m : ℕ). Some m) (sym same)))
  | inr t ↦ (let apart : g ≢ n = t.1 in rw (first_least f n g (omega (arith, lt, apart)) is less) refl)
]

no_next_due : (grant held gone : Bool) → (grant ≡ true → gone ≡ false → held ≡ true) → (grant && not held && not gone)
    ≡ false
no_next_due false held gone h = refl
no_next_due true true gone h = refl
no_next_due true false true h = refl
no_next_due true false false h = absurd (let no_way : false ≡ true = h refl refl in cc)

next_due_is : (grant held gone : Bool) → grant ≡ true → held ≡ false → gone ≡ false → (grant && not held && not gone)
    ≡ true
next_due_is grant held gone g h c = rw (g, h, c) refl

-- of those that are due the first is to be closed next
pub next_due_first : (s : Setting) (past : List Entry) (g : ℕ) (gs : List ℕ) → letting_go s past ≡ None
    → AreDueGrants s past (g ∷ gs) → next_due s past ≡ Some g
next_due_first s past g gs letting d =
    let first : IsDue s past g = d.unheld.0 in
    next_due_plain s past letting
    ∙ first_least (is_due s past (closed_grants s past)) (count_submitted past) g (granted_below past g first.granted)
    (next_due_is (is_grant past g) (is_held s past g) (is_one_of (closed_grants s past) g) first.granted first.unheld
    first.unclosed)
    (λ k lt. no_next_due (is_grant past k) (is_held s past k) (is_one_of (closed_grants s past) k)
    (λ granted unclosed. d.each k granted unclosed
    (elim (eqb_tells g k) [
      | inl t ↦ absurd (let same : g ≡ k = t.1 in omega (arith, lt))
      | inr t ↦
          rw t.0 (below_out k g gs lt d.rising.0)
    ])))

-- ---- behind its CLOSE the others are due

any_same : (f h : ℕ → Bool) (n : ℕ) → ((k : ℕ) → f k ≡ h k) → any_below f n ≡ any_below h n
any_same f h zero e = refl
any_same f h (suc n) e = ap (λ b. b || any_below f n) (e n) ∙ ap (λ b. h n || b) (any_same f h n e)

held_same : (s : Setting) (past : List Entry) (g id k : ℕ) → is_held s (close_of past g id ∷ past) k ≡ is_held s past k
held_same s past g id k = any_same (holds s (close_of past g id ∷ past) k) (holds s past k) (length s.lanes)
    (λ w. (close_leaves s past g id).held k w)

gone_apart : (g k : ℕ) (gone : List (Option ℕ)) → is_one_of (Some g ∷ gone) k ≡ false → ((g == k) ≡ false)
    × (is_one_of gone k ≡ false)
gone_apart g k gone e = elim (eqb_tells g k) [
  | inl t ↦ absurd (let clash : true ≡ false = rw t.0 at e in cc)
  | inr t ↦
      (t.0, rw t.0 at e)
]

still_unheld : (s : Setting) (past : List Entry) (g id : ℕ) (gs : List ℕ) → next_due s past ≡ Some g → IsAbove g gs
    → AllDue s past gs → AllDue s (close_of past g id ∷ past) gs
still_unheld s past g id [] due above all = tt
still_unheld s past g id (h ∷ hs) due above all =
    let l : Leaves s past (close_of past g id ∷ past) = close_leaves s past g id in
    let lt : g < h = above.0 in (
      record {
        granted = l.granted h ∙ all.0.granted;
        unheld = held_same s past g id h ∙ all.0.unheld;
        unclosed = ap (λ c. is_one_of c h) (closed_own s past g id due)
            ∙ (elim (eqb_tells g h) [
              | inl t ↦ absurd (let same : g ≡ h = t.1 in omega (arith, lt))
              | inr t ↦
                  rw t.0 all.0.unclosed
            ]);
      },
      still_unheld s past g id hs due above.1 all.1,
    )

pub dues_close : (s : Setting) (past : List Entry) (g id : ℕ) (gs : List ℕ) → letting_go s past ≡ None
    → AreDueGrants s past (g ∷ gs) → AreDueGrants s (close_of past g id ∷ past) gs
dues_close s past g id gs letting d =
    let due : next_due s past ≡ Some g = next_due_first s past g gs letting d in
    let l : Leaves s past (close_of past g id ∷ past) = close_leaves s past g id in
    record {
      each = λ k granted unclosed out.
          (let apart = gone_apart g k (closed_grants s past) (sym (ap (λ c. is_one_of c k) (closed_own s past g id due))
          ∙ unclosed) in
          held_same s past g id k ∙ d.each k (sym (l.granted k) ∙ granted) apart.1 (rw (apart.0) out));
      unheld = still_unheld s past g id gs due d.rising.0 d.unheld.1;
      rising = d.rising.1;
    }

-- ---- where nothing is due

settled_is : (grant held gone : Bool) → (grant && not held && not gone) ≡ false → grant ≡ true → gone ≡ false → held
    ≡ true
settled_is false held gone e g c = absurd cc
settled_is true true gone e g c = refl
settled_is true false true e g c = absurd cc
settled_is true false false e g c = absurd cc

-- no grant is to be closed by the order of places, said of each
pub settled_dues : (s : Setting) (past : List Entry) → IsSettled s past → AreDueGrants s past []
settled_dues s past settled =
    record {
      each = λ g granted unclosed out. settled_is (is_grant past g) (is_held s past g)
          (is_one_of (closed_grants s past) g) (settled_each s past g settled) granted unclosed;
      unheld = tt;
      rising = tt;
    }

pub dues_settled : (s : Setting) (past : List Entry) → AreDueGrants s past [] → IsSettled s past
dues_settled s past d = each_settled s past (λ g. no_next_due (is_grant past g) (is_held s past g)
    (is_one_of (closed_grants s past) g) (λ granted unclosed. d.each g granted unclosed refl))

pub none_next : (s : Setting) (past : List Entry) → letting_go s past ≡ None → AreDueGrants s past [] → next_due s past
    ≡ None
none_next s past letting d = next_due_plain s past letting ∙ dues_settled s past d
