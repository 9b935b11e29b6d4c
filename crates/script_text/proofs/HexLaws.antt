-- The hexadecimal digits of bytes are those that `hex` writes in lower case.
use Rattle.std.proofs.Common.{
  ◌≡◌,
  ◌<◌,
  ◌≤◌,
  ◌/◌,
  ◌%◌,
  ◌==◌,
  ℕ,
  zero,
  suc,
  Bool,
  true,
  false,
  ◌&&◌,
  List,
  [],
  ◌∷◌,
  ◌++◌,
  slice_index,
  refl,
  ap,
  sym,
  ◌∙◌,
  arith,
  inl,
  inr,
}
use Rattle.std.proofs.lemmas.Bool.{and_parts, cases_lt, eqb-true}
use Rattle.std.specs.Fmt.{digit_glyph}
use Rattle.hex.specs.Hex.{IsBytes, encode_lower, encode_with, lower_digits}
use Rattle.ssh_encoding.specs.Canonical.{hex_text}

-- the first n digits of the table, each of which is looked at
abbrev are_glyphs : ℕ → Bool
are_glyphs zero = true
are_glyphs (suc n) = (slice_index lower_digits n == digit_glyph false n) && are_glyphs n

glyph_below : (n d : ℕ) → are_glyphs n ≡ true → d < n → slice_index lower_digits d ≡ digit_glyph false d
glyph_below zero d h lt = absurd (omega arith)
glyph_below (suc n) d h lt =
    let parts = and_parts (slice_index lower_digits n == digit_glyph false n) (are_glyphs n) h in
    elim (cases_lt d n) [
      | inl below ↦ glyph_below n d parts.1 below
      | inr top ↦ let e : d ≡ n = omega arith in rw e (eqb-true (slice_index lower_digits n) (digit_glyph false n)
          parts.0)
    ]

glyph : (d : ℕ) → d < 16 → slice_index lower_digits d ≡ digit_glyph false d
glyph d lt = glyph_below 16 d refl lt

lower_is : (bytes : List ℕ) → IsBytes bytes → encode_lower bytes ≡ hex_text false bytes
unfolding encode_with
lower_is [] h = refl
lower_is (b ∷ bytes) h =
    let byte : b < 256 = h 0 in
    let high = glyph (b / 16) (omega arith) in
    let low = glyph (b % 16) (omega arith) in
    let rest = lower_is bytes (λ k. h (suc k)) in
    λ i. high i ∷ low i ∷ rest i

-- what was written are the digits of the bytes
pub lower_written : (out text bytes : List ℕ) → IsBytes bytes → text ≡ encode_lower bytes → out ++ text ≡ out
    ++ hex_text false bytes
lower_written out text bytes h e = ap (λ (digits : List ℕ). out ++ digits) (e ∙ lower_is bytes h)
