-- Canonical bytes: what they spell, and that each number has one spelling.
use Rattle.std.proofs.Common.{
  ◌≡◌,
  ℕ,
  zero,
  suc,
  ◌+◌,
  ◌-◌,
  ◌*◌,
  ◌^◌,
  ◌<◌,
  ◌≤◌,
  ◌==◌,
  Bool,
  true,
  false,
  cond,
  List,
  [],
  ◌∷◌,
  length,
  get_or,
  nat_lt,
  refl,
  ap,
  sym,
  ◌∙◌,
  arith,
  inl,
  inr,
  ltb,
  pos,
  negsuc,
}
use Rattle.std.proofs.Math.Nat.{pow-succ', pow-le-pow_right, mul-le-mul_left, mul-le-mul_right, suc-mul, one-le-pow}
use Rattle.std.proofs.lemmas.Bool.{ltb-true, ltb-false, lt-ltb, cases_lt}
use Rattle.std.proofs.lemmas.Grind.{common_steps}
use Rattle.std.specs.Prelude.{IsTrue, ◌↔◌}
use Rattle.std.specs.Cmp.Lexicographic.{pointwise, bytes_decides}
use Rattle.ssh_encoding.specs.Canonical.{is_canonical, unsigned_value, inverted_bits, signed_value, strip, sign_free, positive, is_above_zero}
use Rattle.ssh_encoding.specs.Spelling.{AreBytes}

-- ---- stripping zeros keeps the number

strip_number_at : (b : ℕ) (bytes : List ℕ) (t : Bool) → (b == 0) ≡ t → unsigned_value (strip bytes)
    ≡ unsigned_value bytes
    → unsigned_value (cond t (strip bytes) (b ∷ bytes)) ≡ b * 256 ^ length bytes + unsigned_value bytes
strip_number_at b bytes true e h = let z : b ≡ 0 = grind arith in rw z (h ∙ grind arith)
strip_number_at b bytes false e h = refl

pub strip_number : (bytes : List ℕ) → unsigned_value (strip bytes) ≡ unsigned_value bytes
strip_number [] = refl
strip_number (b ∷ bytes) = strip_number_at b bytes (b == 0) refl (strip_number bytes)

sign_free_number_at : (b : ℕ) (bytes : List ℕ) (t : Bool) → nat_lt 127 b ≡ t
    → signed_value (cond t (0 ∷ b ∷ bytes) (b ∷ bytes)) ≡ pos (unsigned_value (b ∷ bytes))
sign_free_number_at b bytes true e = ap (λ n. pos n) (grind arith)
sign_free_number_at b bytes false e = rw e refl

sign_free_number : (bytes : List ℕ) → signed_value (sign_free bytes) ≡ pos (unsigned_value bytes)
sign_free_number [] = refl
sign_free_number (b ∷ bytes) = sign_free_number_at b bytes (nat_lt 127 b) refl

pub positive_number : (bytes : List ℕ) → signed_value (positive bytes) ≡ pos (unsigned_value bytes)
positive_number bytes = sign_free_number (strip bytes) ∙ ap (λ n. pos n) (strip_number bytes)

-- a list that is stripped doesn't begin with 0
strip_first_at : (b : ℕ) (bytes : List ℕ) (t : Bool) → (b == 0) ≡ t → (is_canonical (sign_free (strip bytes)) ≡ true)
    → is_canonical (sign_free (cond t (strip bytes) (b ∷ bytes))) ≡ true
strip_first_at b bytes true e h = h
strip_first_at b [] false e h = grind (arith, common_steps)
strip_first_at b (c ∷ bytes) false e h = grind (arith, common_steps)

pub positive_canonical : (bytes : List ℕ) → is_canonical (positive bytes) ≡ true
positive_canonical [] = refl
positive_canonical (b ∷ bytes) = strip_first_at b bytes (b == 0) refl (positive_canonical bytes)

pub ruleset positives = (positive_number, positive_canonical)

-- ---- how great a number of so many bytes is

weighs : (b u p m : ℕ) → b < m → u < p → b * p + u < m * p
weighs b u p m h k = omega (arith, mul-le-mul_right p h, suc-mul b p)

-- n bytes spell less than 256 ^ n
below : (bytes : List ℕ) → AreBytes bytes → unsigned_value bytes < 256 ^ length bytes
below [] h = grind arith
below (b ∷ bytes) h = rw (pow-succ' 256 (length bytes)) (weighs b (unsigned_value bytes) (256 ^ length bytes) 256 (h 0)
    (below bytes (λ i. h (suc i))))

-- a first byte below 128 halves that
half_below : (b : ℕ) (bytes : List ℕ) → AreBytes bytes → b < 128 → unsigned_value (b ∷ bytes) < 128 * 256 ^ length bytes
half_below b bytes h k = weighs b (unsigned_value bytes) (256 ^ length bytes) 128 k (below bytes h)

-- a first byte that is needed makes the number great
needed_above : (b c : ℕ) (bytes : List ℕ) → (b ≡ 0 → 128 ≤ c)
    → 128 * 256 ^ length bytes ≤ unsigned_value (b ∷ c ∷ bytes)
needed_above zero c bytes h = omega (arith, mul-le-mul_right (256 ^ length bytes) (h refl))
needed_above (suc b) c bytes h =
    let p = 256 ^ length bytes in
    omega (
      arith,
      pow-succ' 256 (length bytes),
      mul-le-mul_right (256 ^ suc (length bytes))
          (let one : 1 ≤ suc b = omega arith in one),
    )

-- a first byte that is needed, where another follows
abbrev IsNeeded : ℕ → List ℕ → Type 0
IsNeeded b rest = (c : ℕ) (cs : List ℕ) → rest ≡ c ∷ cs → b ≡ 0 → 128 ≤ c

-- the longer one of two such lists spells more
longer_above : (a : ℕ) (xs : List ℕ) (b : ℕ) (ys : List ℕ) → AreBytes xs → a < 128 → IsNeeded b ys
    → length xs < length ys → unsigned_value (a ∷ xs) ≡ unsigned_value (b ∷ ys) → ⊥
longer_above a xs b [] h k needed shorter e = omega (arith, shorter)
longer_above a xs b (c ∷ cs) h k needed shorter e =
    let low = half_below a xs h k in
    let more : length xs ≤ length cs = omega (arith, shorter) in
    let powers : 256 ^ length xs ≤ 256 ^ length cs = pow-le-pow_right (let some : zero < 256 = omega arith in some) more
    in
    let high = needed_above b c cs (needed c cs refl) in
    omega (arith, low, mul-le-mul_left 128 powers, high, e)

same_length : (a : ℕ) (xs : List ℕ) (b : ℕ) (ys : List ℕ) → AreBytes xs → AreBytes ys → a < 128 → b < 128
    → IsNeeded a xs → IsNeeded b ys → unsigned_value (a ∷ xs) ≡ unsigned_value (b ∷ ys) → length xs ≡ length ys
same_length a xs b ys h k a-low b-low a-needed b-needed e =
    elim (cases_lt (length xs) (length ys)) [
      | inl l ↦ absurd (longer_above a xs b ys h a-low b-needed l e)
      | inr m ↦ elim (cases_lt (length ys) (length xs)) [
        | inl l ↦ absurd (longer_above b ys a xs k b-low a-needed l (sym e))
        | inr n ↦ omega (arith, m, n)
      ]
    ]

-- ---- bytes of one length spell one number once

digit_below : (a u b v p : ℕ) → u < p → a < b → a * p + u ≡ b * p + v → ⊥
digit_below a u b v p h l e = omega (arith, h, mul-le-mul_right p l, suc-mul a p, e)

same_digit : (a u b v p : ℕ) → u < p → v < p → a * p + u ≡ b * p + v → a ≡ b
same_digit a u b v p h k e =
    elim (cases_lt a b) [
      | inl l ↦ absurd (digit_below a u b v p h l e)
      | inr m ↦ elim (cases_lt b a) [
        | inl l ↦ absurd (digit_below b v a u p k l (sym e))
        | inr n ↦ omega (arith, m, n)
      ]
    ]

pub unsigned_once : (xs ys : List ℕ) → AreBytes xs → AreBytes ys → length xs ≡ length ys → unsigned_value xs
    ≡ unsigned_value ys → xs ≡ ys
unsigned_once [] [] h k l e = refl
unsigned_once [] (b ∷ ys) h k l e = absurd (omega (arith, l))
unsigned_once (a ∷ xs) [] h k l e = absurd (omega (arith, l))
unsigned_once (a ∷ xs) (b ∷ ys) h k l e =
    let same : length xs ≡ length ys = omega (arith, l) in
    let p = 256 ^ length xs in
    let low = below xs (λ i. h (suc i)) in
    let high : unsigned_value ys < p = rw same (below ys (λ i. k (suc i))) in
    let sums : a * p + unsigned_value xs ≡ b * p + unsigned_value ys = e
    ∙ ap (λ n. b * 256 ^ n + unsigned_value ys) (sym same) in
    let first = same_digit a (unsigned_value xs) b (unsigned_value ys) p low high sums in
    let rest : unsigned_value xs ≡ unsigned_value ys = omega (arith, sums, ap (λ d. d * p) first) in
    rw (first, unsigned_once xs ys (λ i. h (suc i)) (λ i. k (suc i)) same rest) refl

-- ---- the turned bits

inverted_length : (bytes : List ℕ) → length (inverted_bits bytes) ≡ length bytes
inverted_length [] = refl
inverted_length (b ∷ bytes) = ap (λ n. suc n) (inverted_length bytes)

inverted_bytes : (bytes : List ℕ) → AreBytes (inverted_bits bytes)
inverted_bytes [] i = grind arith
inverted_bytes (b ∷ bytes) zero = omega arith
inverted_bytes (b ∷ bytes) (suc i) = inverted_bytes bytes i

inverted_once : (xs ys : List ℕ) → AreBytes xs → AreBytes ys → inverted_bits xs ≡ inverted_bits ys → xs ≡ ys
inverted_once [] [] h k e = refl
inverted_once [] (b ∷ ys) h k e = absurd cc
inverted_once (a ∷ xs) [] h k e = absurd cc
inverted_once (a ∷ xs) (b ∷ ys) h k e =
    let first : 255 - a ≡ 255 - b = cc in
    let rest : inverted_bits xs ≡ inverted_bits ys = cc in
    let digit : a ≡ b = omega (arith, h 0, k 0, first) in
    rw (digit, inverted_once xs ys (λ i. h (suc i)) (λ i. k (suc i)) rest) refl

-- ---- canonical bytes spell one number once

needed_low : (b : ℕ) (bytes : List ℕ) → is_canonical (b ∷ bytes) ≡ true → IsNeeded b bytes
needed_low b bytes h c cs e z = grind (arith, common_steps)

needed_high : (b : ℕ) (bytes : List ℕ) → AreBytes (b ∷ bytes) → is_canonical (b ∷ bytes) ≡ true
    → IsNeeded (255 - b) (inverted_bits bytes)
needed_high b [] g h c cs e z = absurd cc
needed_high b (d ∷ bytes) g h c cs e z =
    let is : 255 - d ≡ c = cc in
    let top : b ≡ 255 = omega (arith, z, g 0) in
    let low : d ≤ 127 = grind (arith, common_steps) in
    omega (arith, is, low)

above_zero_at : (b : ℕ) (bytes : List ℕ) → is_canonical (b ∷ bytes) ≡ true → 0 < unsigned_value (b ∷ bytes)
above_zero_at b [] h = grind (arith, common_steps)
above_zero_at b (c ∷ bytes) h =
    let high = needed_above b c bytes (needed_low b (c ∷ bytes) h c bytes refl) in
    let power : 1 ≤ 256 ^ length bytes = one-le-pow (length bytes) 256 (let some : zero < 256 = omega arith in some) in
    omega (arith, high, power)

positive_once : (a : ℕ) (xs : List ℕ) (b : ℕ) (ys : List ℕ) → AreBytes (a ∷ xs) → AreBytes (b ∷ ys) → a < 128 → b < 128
    → IsNeeded a xs → IsNeeded b ys → unsigned_value (a ∷ xs) ≡ unsigned_value (b ∷ ys) → (let l : List ℕ = a ∷ xs in l)
    ≡ b ∷ ys
positive_once a xs b ys h k a-low b-low a-needed b-needed e =
    let same = same_length a xs b ys (λ i. h (suc i)) (λ i. k (suc i)) a-low b-low a-needed b-needed e in
    unsigned_once (a ∷ xs) (b ∷ ys) h k (ap (λ n. suc n) same) e

once_at : (a : ℕ) (xs : List ℕ) (b : ℕ) (ys : List ℕ) (s t : Bool) → nat_lt 127 a ≡ s → nat_lt 127 b ≡ t
    → AreBytes (a ∷ xs) → AreBytes (b ∷ ys)
    → is_canonical (a ∷ xs) ≡ true → is_canonical (b ∷ ys) ≡ true
    → cond s (negsuc (unsigned_value (inverted_bits (a ∷ xs)))) (pos (unsigned_value (a ∷ xs)))
    ≡ cond t (negsuc (unsigned_value (inverted_bits (b ∷ ys)))) (pos (unsigned_value (b ∷ ys)))
    → (let l : List ℕ = a ∷ xs in l)
    ≡ b ∷ ys
once_at a xs b ys true true p q h k f g e =
    let sums : unsigned_value (inverted_bits (a ∷ xs)) ≡ unsigned_value (inverted_bits (b ∷ ys)) = cc in
    let a-high : 127 < a = ltb-true _ _ p in
    let b-high : 127 < b = ltb-true _ _ q in
    let turned = positive_once (255 - a) (inverted_bits xs) (255 - b) (inverted_bits ys) (inverted_bytes (a ∷ xs))
    (inverted_bytes (b ∷ ys)) (omega (arith, a-high)) (omega (arith, b-high)) (needed_high a xs h f)
    (needed_high b ys k g) sums in
    inverted_once (a ∷ xs) (b ∷ ys) h k turned
once_at a xs b ys true false p q h k f g e = absurd cc
once_at a xs b ys false true p q h k f g e = absurd cc
once_at a xs b ys false false p q h k f g e =
    let sums : unsigned_value (a ∷ xs) ≡ unsigned_value (b ∷ ys) = cc in
    let a-low : a ≤ 127 = ltb-false _ _ p in
    let b-low : b ≤ 127 = ltb-false _ _ q in
    positive_once a xs b ys h k (omega (arith, a-low)) (omega (arith, b-low)) (needed_low a xs f) (needed_low b ys g)
    sums

zero_at : (b : ℕ) (bytes : List ℕ) (t : Bool) → is_canonical (b ∷ bytes) ≡ true
    → cond t (negsuc (unsigned_value (inverted_bits (b ∷ bytes)))) (pos (unsigned_value (b ∷ bytes))) ≡ pos 0 → ⊥
zero_at b bytes true h e = absurd cc
zero_at b bytes false h e = let none : unsigned_value (b ∷ bytes) ≡ 0 = cc in
    omega (arith, none, above_zero_at b bytes h)

pub canonical_once : (xs ys : List ℕ) → AreBytes xs → AreBytes ys → is_canonical xs ≡ true → is_canonical ys ≡ true
    → signed_value xs ≡ signed_value ys → xs ≡ ys
canonical_once [] [] h k f g e = refl
canonical_once [] (b ∷ ys) h k f g e = absurd (zero_at b ys (nat_lt 127 b) g (sym e))
canonical_once (a ∷ xs) [] h k f g e = absurd (zero_at a xs (nat_lt 127 a) f e)
canonical_once (a ∷ xs) (b ∷ ys) h k f g e = once_at a xs b ys (nat_lt 127 a) (nat_lt 127 b) refl refl h k f g e

-- ---- the sign

pub below_zero : (bytes : List ℕ) → 127 < get_or bytes 0 0 → signed_value bytes
    ≡ negsuc (unsigned_value (inverted_bits bytes))
below_zero [] h = absurd (grind arith)
below_zero (b ∷ bytes) h = let first : ltb 127 b ≡ true = lt-ltb _ _ h in rw first refl

above_zero_by : (b : ℕ) (bytes : List ℕ) (t : Bool) → nat_lt 127 b ≡ t → is_canonical (b ∷ bytes) ≡ true
    → is_above_zero (cond t (negsuc (unsigned_value (inverted_bits (b ∷ bytes)))) (pos (unsigned_value (b ∷ bytes))))
    ≡ nat_lt b 128
above_zero_by b bytes true e h = grind (arith, common_steps)
above_zero_by b bytes false e h = let some = above_zero_at b bytes h in grind (arith, common_steps)

pub above_zero : (bytes : List ℕ) → is_canonical bytes ≡ true → 1 ≤ length bytes → ltb (get_or bytes 0 0) 128
    ≡ is_above_zero (signed_value bytes)
above_zero [] h some = absurd (omega (arith, some))
above_zero (b ∷ bytes) h some = sym (above_zero_by b bytes (nat_lt 127 b) refl h)

pub same_number : (xs ys : List ℕ) (r : Bool) → r ≡ pointwise ◌==◌ xs ys → AreBytes xs → AreBytes ys → is_canonical xs
    ≡ true → is_canonical ys ≡ true → IsTrue r ↔ (signed_value xs ≡ signed_value ys)
same_number xs ys r e h k f g =
    let same = bytes_decides xs ys in
    rw e (λ t. ap (λ l. signed_value l) (same.0 t), λ n. same.1 (canonical_once xs ys h k f g n))
