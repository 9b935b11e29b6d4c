-- believed: hex_text
-- The whole numbers of RFC 4251, section 5 (mpint), by their canonical bytes.
use Rattle.std.specs.Prelude.{
  ℕ,
  ◌==◌,
  ◌+◌,
  ◌-◌,
  ◌*◌,
  ◌/◌,
  ◌%◌,
  ◌^◌,
  ◌&&◌,
  Bool,
  true,
  false,
  not,
  List,
  [],
  ◌∷◌,
  length,
  map,
  nat_lt,
  if◌then◌else◌,
  Option,
  Some,
  None,
  ℤ,
  pos,
  negsuc,
}
use Rattle.std.specs.List.{flat_map}
use Rattle.std.specs.Fmt.{digit_glyph}

-- True if no first byte is unnecessary: neither a 00 before a byte below 80, nor an ff before a byte from 80 on.
abbrev pub is_canonical : List ℕ → Bool
is_canonical [] = true
is_canonical (a ∷ []) = not (a == 0)
is_canonical (a ∷ b ∷ bytes) = not ((a == 0) && nat_lt b 128) && not ((a == 255) && nat_lt 127 b)

-- The number that bytes spell without a sign.
abbrev pub unsigned_value : List ℕ → ℕ
unsigned_value [] = 0
unsigned_value (b ∷ bytes) = b * 256 ^ length bytes + unsigned_value bytes

-- The bytes with each bit inverted.
abbrev pub inverted_bits : List ℕ → List ℕ
inverted_bits = map (λ b. 255 - b)

-- Two's complement: with the first bit set, the number is -1 less the number of the inverted bits.
abbrev pub signed_value : List ℕ → ℤ
signed_value [] = pos 0
signed_value (b ∷ bytes) = if nat_lt 127 b then negsuc (unsigned_value (inverted_bits (b ∷ bytes))) else
    pos (unsigned_value (b ∷ bytes))

-- The bytes without leading zeros.
abbrev pub strip : List ℕ → List ℕ
strip [] = []
strip (b ∷ bytes) = if b == 0 then strip bytes else b ∷ bytes

-- The bytes with a 00 before a byte whose first bit would mean a sign.
abbrev pub sign_free : List ℕ → List ℕ
sign_free [] = []
sign_free (b ∷ bytes) = if nat_lt 127 b then 0 ∷ b ∷ bytes else b ∷ bytes

-- The canonical bytes of the number that bytes spell without a sign.
abbrev pub positive : List ℕ → List ℕ
positive bytes = sign_free (strip bytes)

-- The bytes of a number that is not negative, without a sign and without a leading 00.
abbrev pub positive_bytes : List ℕ → Option (List ℕ)
positive_bytes [] = Some []
positive_bytes (b ∷ bytes) = if nat_lt 127 b then None else Some (if b == 0 then bytes else b ∷ bytes)

-- True if the number is above zero.
abbrev pub is_above_zero : ℤ → Bool
is_above_zero (pos n) = not (n == 0)
is_above_zero (negsuc n) = false

-- Each byte as two hexadecimal digits, the high four bits first.
abbrev pub hex_text : Bool → List ℕ → List ℕ
hex_text upper = flat_map (λ b. digit_glyph upper (b / 16) ∷ digit_glyph upper (b % 16) ∷ [])
