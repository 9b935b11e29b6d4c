-- The stem of a name that is UTF-8.
use Rattle.std.proofs.Common.{
  ◌≡◌,
  ◌≤◌,
  ◌<◌,
  ◌-◌,
  ◌+◌,
  ℕ,
  suc,
  Bool,
  true,
  false,
  nat_lt,
  List,
  [],
  ◌∷◌,
  drop,
  length,
  if◌then◌else◌,
  refl,
  sym,
  ◌∙◌,
  subst,
  arith,
}
use Rattle.std.specs.Str.{IsCharBoundary, IsUtf8}
use Rattle.std.proofs.lemmas.List.{drop-drop}
use Rattle.std.proofs.lemmas.Str.{IsCharBoundary-from_rest, IsUtf8-drop}
use Rattle.transfer_plan.specs.Cuts.{MAX_STEM_LEN, continues_character, from_character, stem_of}

-- the bytes that are left start where a character does
left : (bytes : List ℕ) → (at : ℕ) × (from_character bytes ≡ drop at bytes) × IsCharBoundary bytes at
left [] = (0, refl, (omega arith, λ less. absurd (omega (arith, less))))
left (b ∷ later) = by_test (continues_character b) refl (left later)
  where
    by_test : (t : Bool) → continues_character b ≡ t
        → (at : ℕ) × (from_character later ≡ drop at later) × IsCharBoundary later at
        → (at : ℕ) × ((if t then from_character later else b ∷ later) ≡ drop at (b ∷ later))
        × IsCharBoundary (b ∷ later) at
    by_test true is h =
        let within : h.0 ≤ length later = h.2.0 in
        (suc h.0, h.1, (omega (arith, within), λ less. h.2.1 (omega (arith, less))))
    by_test false is h = (0, refl, (omega arith, λ less high. grind (arith, is, high)))

-- The stem of a name that is UTF-8 is UTF-8: no character is cut.
pub text_stem : (name : List ℕ) → IsUtf8 name → IsUtf8 (stem_of name)
unfolding stem_of
text_stem name text = by_test (nat_lt MAX_STEM_LEN (length name)) refl
  where
    by_test : (t : Bool) → nat_lt MAX_STEM_LEN (length name) ≡ t
        → IsUtf8 (if t then from_character (drop (length name - MAX_STEM_LEN) name) else name)
    by_test false is = text
    by_test true is =
        let first : ℕ = length name - MAX_STEM_LEN in
        let h = left (drop first name) in
        let cut : drop (first + h.0) name ≡ from_character (drop first name) =
        sym (drop-drop (h.0) first name) ∙ sym (h.1) in
        subst IsUtf8 cut (IsUtf8-drop name (first + h.0) text
        (IsCharBoundary-from_rest name first (h.0) (omega arith) h.2))
