-- Sums of lengths: of files each of which is no longer than at first, or than a bound of its own.
use Rattle.std.proofs.Common.{◌≡◌, ◌≢◌, ◌<◌, ◌≤◌, ◌+◌, ℕ, zero, suc, List, [], ◌∷◌, length, refl, ap, sym, ◌∙◌, arith, inl, inr}
use Rattle.std.specs.Prelude.{◌⊎◌, slice_index_or, slice_set}
use Rattle.std.specs.List.{sum_by}
use Rattle.std.proofs.lemmas.Bool.{cases_lt}
use Rattle.std.proofs.lemmas.Bool.Decides.{eqb_tells}
use Rattle.std.proofs.lemmas.List.{get_or-set_other, get_or-set_same}
use Rattle.std.proofs.lemmas.List.Sums.{sum_by-cons, sum_by-set}
use Rattle.plan_model.proofs.Among.{Among}

-- the length of a file by its number
abbrev pub len_at : List (List ℕ) → ℕ → ℕ
len_at files f = length (slice_index_or files f [])

-- no file is longer
pub sum_under : (xs ys : List (List ℕ)) → ((f : ℕ) → len_at xs f ≤ len_at ys f) → sum_by length xs ≤ sum_by length ys
sum_under [] ys under = omega arith
sum_under (x ∷ xs) [] under =
    let first : length x ≤ 0 = under 0 in
    let more : sum_by length xs ≤ 0 = sum_under xs [] (λ f. under (suc f)) in
    let both : sum_by length (x ∷ xs) ≡ length x + sum_by length xs = sum_by-cons length x xs in
    omega (arith, first, more, both)
sum_under (x ∷ xs) (y ∷ ys) under =
    let first : length x ≤ length y = under 0 in
    let more : sum_by length xs ≤ sum_by length ys = sum_under xs ys (λ f. under (suc f)) in
    let a : sum_by length (x ∷ xs) ≡ length x + sum_by length xs = sum_by-cons length x xs in
    let b : sum_by length (y ∷ ys) ≡ length y + sum_by length ys = sum_by-cons length y ys in
    omega (arith, first, more, a, b)

-- a file with its bound
abbrev pub Mark : Type 0
Mark = ℕ × ℕ

-- the bounds together
abbrev pub marks_sum : List Mark → ℕ
marks_sum [] = 0
marks_sum (m ∷ marks) = m.1 + marks_sum marks

-- a file is one of these, and within its bound
pub record IsMarked (marks : List Mark) (f n : ℕ) : Type 0 where
  pub mark : Mark
  pub there : Among mark marks
  pub is : mark.0 ≡ f
  pub within : n ≤ mark.1

-- each file is no longer than at first, or is one of these
abbrev pub IsCovered : List (List ℕ) → List Mark → List (List ℕ) → Type 0
IsCovered first marks files = (f : ℕ) → (len_at files f ≤ len_at first f) ⊎ IsMarked marks f (len_at files f)

set_beyond : (files : List (List ℕ)) (n : ℕ) (x : List ℕ) → length files ≤ n → slice_set files n x ≡ files
set_beyond [] n x le = refl
set_beyond (y ∷ files) zero x le = absurd (omega (arith, le))
set_beyond (y ∷ files) (suc n) x le = ap (λ (w : List (List ℕ)). y ∷ w) (set_beyond files n x (omega (arith, le)))

beyond : (files : List (List ℕ)) (n : ℕ) → length files ≤ n → len_at files n ≡ 0
beyond [] n le = refl
beyond (y ∷ files) zero le = absurd (omega (arith, le))
beyond (y ∷ files) (suc n) le = beyond files n (omega (arith, le))

-- where one is emptied
emptied_sum : (files : List (List ℕ)) (n : ℕ) → sum_by length files ≤ sum_by length (slice_set files n []) + len_at
    files n
emptied_sum files n = elim (cases_lt n (length files)) [
  | inl lt ↦ (let s : sum_by length (slice_set files n []) + len_at files n ≡ sum_by length files + 0 =
      sum_by-set length files n [] [] lt in omega (arith, s))
  | inr le ↦ (let same : sum_by length (slice_set files n []) ≡ sum_by length files =
      ap (sum_by length) (set_beyond files n [] le) in omega (arith, same))
]

emptied_at : (files : List (List ℕ)) (n : ℕ) → len_at (slice_set files n []) n ≡ 0
emptied_at files n = elim (cases_lt n (length files)) [
  | inl lt ↦ ap length (get_or-set_same files n [] [] lt)
  | inr le ↦ ap (λ (w : List (List ℕ)). len_at w n) (set_beyond files n [] le) ∙ beyond files n le
]

pub covered_sum : (first : List (List ℕ)) (marks : List Mark) (files : List (List ℕ)) → IsCovered first marks files
    → sum_by length files ≤ sum_by length first + marks_sum marks
covered_sum first [] files covered =
    let less : sum_by length files ≤ sum_by length first = sum_under files first (λ f. by_case f (covered f)) in
    omega (arith, less)
  where
    by_case : (f : ℕ) → (len_at files f ≤ len_at first f) ⊎ IsMarked [] f (len_at files f)
        → len_at files f ≤ len_at first f
    by_case f (inl le) = le
    by_case f (inr m) = absurd m.there
covered_sum first (m ∷ marks) files covered =
    elim (cases_lt m.1 (len_at files m.0)) [
      | inl over ↦ (let less = covered_sum first marks files (λ f. not_first f over (covered f)) in omega (arith, less))
      | inr within ↦
          (let less = covered_sum first marks (slice_set files m.0 []) (λ f. without_first f (covered f)) in
          let all : sum_by length files ≤ sum_by length (slice_set files m.0 []) + len_at files m.0 =
          emptied_sum files m.0 in
          omega (arith, less, all, within))
    ]
  where
    not_first : (f : ℕ) → m.1 < len_at files m.0 → (len_at files f ≤ len_at first f)
        ⊎ IsMarked (m ∷ marks) f (len_at files f)
        → (len_at files f ≤ len_at first f) ⊎ IsMarked marks f (len_at files f)
    not_first f over (inl le) = inl le
    not_first f over (inr k) = by_there k.there k.is k.within
      where
        by_there : Among k.mark (m ∷ marks) → k.mark.0 ≡ f → len_at files f ≤ k.mark.1
            → (len_at files f ≤ len_at first f) ⊎ IsMarked marks f (len_at files f)
        by_there (inl same) is within =
            absurd (let at : m.0 ≡ f = ap (λ (w : Mark). w.0) (sym same) ∙ is in
            let bound : k.mark.1 ≡ m.1 = ap (λ (w : Mark). w.1) same in
            let len : len_at files m.0 ≡ len_at files f = ap (len_at files) at in
            omega (arith, over, within, bound, len))
        by_there (inr h) is within = inr (record { mark = k.mark; there = h; is = is; within = within })

    without_first : (f : ℕ) → (len_at files f ≤ len_at first f) ⊎ IsMarked (m ∷ marks) f (len_at files f)
        → (len_at (slice_set files m.0 []) f ≤ len_at first f) ⊎ IsMarked marks f (len_at (slice_set files m.0 []) f)
    without_first f c = elim (eqb_tells m.0 f) [
      | inl t ↦ inl (let none : len_at (slice_set files m.0 []) f ≡ 0 = ap (len_at (slice_set files m.0 [])) (sym t.1)
          ∙ emptied_at files m.0 in omega (arith, none))
      | inr t ↦ elsewhere t.1 c
    ]
      where
        elsewhere : m.0 ≢ f → (len_at files f ≤ len_at first f) ⊎ IsMarked (m ∷ marks) f (len_at files f)
            → (len_at (slice_set files m.0 []) f ≤ len_at first f)
            ⊎ IsMarked marks f (len_at (slice_set files m.0 []) f)
        elsewhere ne (inl le) = inl (let same : len_at (slice_set files m.0 []) f ≡ len_at files f =
            ap length (get_or-set_other files m.0 f [] [] (λ e. ne (sym e))) in omega (arith, le, same))
        elsewhere ne (inr k) = by_there k.there k.is k.within
          where
            same : len_at (slice_set files m.0 []) f ≡ len_at files f
            same = ap length (get_or-set_other files m.0 f [] [] (λ e. ne (sym e)))

            by_there : Among k.mark (m ∷ marks) → k.mark.0 ≡ f → len_at files f ≤ k.mark.1
                → (len_at (slice_set files m.0 []) f ≤ len_at first f)
                ⊎ IsMarked marks f (len_at (slice_set files m.0 []) f)
            by_there (inl e) is within = absurd (ne (ap (λ (w : Mark). w.0) (sym e) ∙ is))
            by_there (inr h) is within = inr (record {
              mark = k.mark;
              there = h;
              is = is;
              within =
                  omega (arith, within, same);
            })
