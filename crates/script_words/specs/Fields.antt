-- believed
-- The fields of a line: one word after another, each by its kind.
use Rattle.std.specs.Prelude.{ℕ, List, [], ◌∷◌, codes, Option, Some, None, Result, Ok, Err, if◌then◌else◌}
use Rattle.std.specs.Str.{bytes_eq}
use Rattle.std.specs.declared.io.traits.SeekFrom.{SeekFrom}
use Rattle.std.specs.declared.io.traits.SeekFrom.TheVariants as position
use Rattle.ssh_encoding.specs.Reading.{◌>>=◌}
use Rattle.script_words.specs.declared.reason.Reason.{Reason}
use Rattle.script_words.specs.declared.reason.Reason.TheVariants as reason
use Rattle.script_words.specs.Lines.{
  map_ok,
  number_in,
  signed_in,
  bytes_in,
  two_words,
  three_words,
  greatest_u32,
  greatest_u64,
}

-- ---- One word

-- The number of a slot.
abbrev pub slot_in : List ℕ → Result ℕ Reason
slot_in word = number_in 0 15 word

-- A number of 32 bits; and one of 64.
abbrev pub number_u32 : List ℕ → Result ℕ Reason
number_u32 word = number_in 0 greatest_u32 word

abbrev pub number_u64 : List ℕ → Result ℕ Reason
number_u64 word = number_in 0 greatest_u64 word

-- The bits of a mode.
abbrev pub mode_in : List ℕ → Result ℕ Reason
mode_in word = number_in 0 65535 word

-- The length of a buffer.
abbrev pub buffer_len : List ℕ → Result ℕ Reason
buffer_len word = number_in 1 1048576 word

-- `-` for none, or the value of a word.
abbrev pub some_in : (List ℕ → Result ℕ Reason) → List ℕ → Result (Option ℕ) Reason
some_in read word = if bytes_eq word (codes "-") then Ok None else map_ok Some (read word)

-- ---- Several words

-- The target of a seek, by its kind and its number.
abbrev pub position_in : List ℕ → List ℕ → Result SeekFrom Reason
position_in kind word =
    if bytes_eq kind (codes "start") then map_ok position.Start (number_u64 word)
    else if bytes_eq kind (codes "cur") then map_ok position.Current (signed_in word)
    else if bytes_eq kind (codes "end") then map_ok position.End (signed_in word)
    else Err reason.Mode

-- The words of a seek.
abbrev pub seek_in : List ℕ → List ℕ → List ℕ → Result (ℕ × SeekFrom) Reason
seek_in a b c = do
  slot ← slot_in a
  to ← position_in b c
  Ok (slot, to)

-- Two fields, each with its reading.
abbrev pub pair : {A B : Type 0} → (List ℕ → Result A Reason) → (List ℕ → Result B Reason) → List (List ℕ)
    → Result (A × B) Reason
pair first second words = two_words (λ a b. first a >>= λ x. second b >>= λ y. Ok (x, y)) words

-- Three fields.
abbrev pub triple : {A B C : Type 0} → (List ℕ → Result A Reason) → (List ℕ → Result B Reason)
    → (List ℕ → Result C Reason) → List (List ℕ) → Result (A × B × C) Reason
triple first second third words = three_words (λ a b c. first a >>= λ x. second b >>= λ y. third c >>= λ z. Ok
    (x, y, z)) words

-- The value of each of these words by its reading, in their order, up to the first refusal.
abbrev pub each_in : {A : Type 0} → (List ℕ → Result A Reason) → List (List ℕ) → Result (List A) Reason
each_in read [] = Ok []
each_in read (word ∷ words) = read word >>= λ x. each_in read words >>= λ xs. Ok (x ∷ xs)

-- A slot, and one part or more.
abbrev pub parts_in : List (List ℕ) → Result (ℕ × List (List ℕ)) Reason
parts_in (a ∷ b ∷ words) = slot_in a >>= λ slot. each_in bytes_in (b ∷ words) >>= λ parts. Ok (slot, parts)
parts_in words = Err reason.Count
