-- Digits that are misspelled, and how many bytes digits spell.
use Rattle.std.proofs.Common.{◌≡◌, ◌≤◌, ◌⊎◌, inl, inr, ℕ, List, length, refl, arith}
use Rattle.std.specs.Prelude.{Result, Ok, Err}
use Rattle.hex.specs.Hex.{decode_of}
use Rattle.hex.specs.declared.error.FromHexError.{FromHexError}
use Rattle.hex.specs.declared.error.FromHexError.TheVariants as hex
use Rattle.hex.proofs.HexLemmas.{decode_of-ok}
use Rattle.script_words.specs.Lines.{or_hex}
use Rattle.script_words.specs.Refusals.{RefusesLine, hex_error}

misspelled : (word : List ℕ) (why : FromHexError) → (decode_of word ≡ Err why) → or_hex (decode_of word)
    ≡ or_hex (Err why)
misspelled word why e = rw e refl

pub digits_refused : (word : List ℕ) (why : FromHexError) → (why ≡ hex.OutOfMemory) ⊎ (decode_of word ≡ Err why)
    → RefusesLine (or_hex (decode_of word)) (hex_error why)
digits_refused word hex.OutOfMemory h = tt
digits_refused word (hex.InvalidHexCharacter c i) (inl e) = absurd cc
digits_refused word (hex.InvalidHexCharacter c i) (inr e) = misspelled word (hex.InvalidHexCharacter c i) e
digits_refused word hex.OddLength (inl e) = absurd cc
digits_refused word hex.OddLength (inr e) = misspelled word hex.OddLength e
digits_refused word hex.InvalidStringLength (inl e) = absurd cc
digits_refused word hex.InvalidStringLength (inr e) = misspelled word hex.InvalidStringLength e

-- bytes are at most as many, where some were read
abbrev pub AtMost : ℕ → Result (List ℕ) FromHexError → Type 0
AtMost n (Ok bytes) = length bytes ≤ n
AtMost n (Err why) = Unit {0}

at_most : (word : List ℕ) (r : Result (List ℕ) FromHexError) → decode_of word ≡ r → AtMost (length word) r
at_most word (Ok bytes) e = let twice = (decode_of-ok word bytes e).2 in omega (arith, twice)
at_most word (Err why) e = tt

-- digits spell no more bytes than there are digits
pub digits_fit : (word : List ℕ) → AtMost (length word) (decode_of word)
digits_fit word = at_most word (decode_of word) refl
