-- believed
-- Lines, words, and the values of single words.
use Rattle.std.specs.Prelude.{
  ℕ,
  zero,
  suc,
  ℤ,
  pos,
  negsuc,
  ◌^◌,
  ◌+◌,
  ◌-◌,
  ◌*◌,
  ◌==◌,
  Bool,
  true,
  false,
  not,
  ◌&&◌,
  List,
  [],
  ◌∷◌,
  codes,
  Option,
  Some,
  None,
  Result,
  Ok,
  Err,
  nat_le,
  if◌then◌else◌,
}
use Rattle.std.specs.Str.{bytes_eq}
use Rattle.hex.specs.Hex.{decode_of}
use Rattle.hex.specs.declared.error.FromHexError.{FromHexError}
use Rattle.sftp_model.specs.declared.open_options.OpenOptions.{OpenOptions}
use Rattle.sftp_model.specs.OpenOptions.{nothing_chosen}
use Rattle.script_words.specs.declared.reason.Reason.{Reason}
use Rattle.script_words.specs.declared.reason.Reason.TheVariants as reason

-- ---- Lines and words

-- The lists, with a byte added at the front of the first one.
abbrev pub with_front : ℕ → List (List ℕ) → List (List ℕ)
with_front b [] = (b ∷ []) ∷ []
with_front b (line ∷ lines) = (b ∷ line) ∷ lines

-- The lines, each ended by a line feed. A last line without a line feed counts if it isn't empty.
abbrev pub lines_of : List ℕ → List (List ℕ)
lines_of [] = []
lines_of (b ∷ bytes) = if b == 10 then [] ∷ lines_of bytes else with_front b (lines_of bytes)

-- True if the bytes begin with a byte of a word.
abbrev pub starts_word : List ℕ → Bool
starts_word [] = false
starts_word (b ∷ bytes) = not (b == 32)

-- The words of a line, which are its runs of bytes other than the space.
abbrev pub words_of : List ℕ → List (List ℕ)
words_of [] = []
words_of (b ∷ bytes) =
    if b == 32 then words_of bytes
    else if starts_word bytes then with_front b (words_of bytes)
    else (b ∷ []) ∷ words_of bytes

-- True if the line begins with `#`.
abbrev pub is_comment : List ℕ → Bool
is_comment [] = false
is_comment (b ∷ bytes) = b == 35

-- ---- Numbers

-- True for a decimal digit.
abbrev pub is_digit : ℕ → Bool
is_digit b = nat_le 48 b && nat_le b 57

-- The number that continues `n` with these decimal digits.
abbrev pub digits_behind : ℕ → List ℕ → Option ℕ
digits_behind n [] = Some n
digits_behind n (b ∷ bytes) = if is_digit b then digits_behind (n * 10 + (b - 48)) bytes else None

-- One decimal digit or more.
abbrev pub number_of : List ℕ → Option ℕ
number_of [] = None
number_of (b ∷ bytes) = digits_behind 0 (b ∷ bytes)

-- The greatest number of 32 bits.
abbrev pub greatest_u32 : ℕ
greatest_u32 = 2 ^ 32 - 1

-- The greatest number of 64 bits.
abbrev pub greatest_u64 : ℕ
greatest_u64 = 2 ^ 64 - 1

-- A number within a range, both ends included.
abbrev pub within : ℕ → ℕ → Option ℕ → Result ℕ Reason
within least most None = Err reason.Number
within least most (Some n) = if nat_le least n && nat_le n most then Ok n else Err reason.Range

-- A number from `least` to `most`.
abbrev pub number_in : ℕ → ℕ → List ℕ → Result ℕ Reason
number_in least most word = within least most (number_of word)

-- The value of a reading in another form, or its error.
abbrev pub map_ok : {A B : Type 0} → (A → B) → Result A Reason → Result B Reason
map_ok f (Ok x) = Ok (f x)
map_ok f (Err why) = Err why

-- The negative of a number, or 0.
abbrev pub minus : ℕ → ℤ
minus zero = pos 0
minus (suc n) = negsuc n

-- A number of 64 bits that may have a leading `-`.
abbrev pub signed_in : List ℕ → Result ℤ Reason
signed_in [] = Err reason.Number
signed_in (b ∷ digits) =
    if b == 45 then map_ok minus (number_in 0 (2 ^ 63) digits)
    else map_ok pos (number_in 0 (2 ^ 63 - 1) (b ∷ digits))

-- ---- Bytes

-- The bytes that hexadecimal digits of either case spell, or the reason.
abbrev pub or_hex : Result (List ℕ) FromHexError → Result (List ℕ) Reason
or_hex (Ok bytes) = Ok bytes
or_hex (Err why) = Err reason.Hex

-- `-` for no bytes, or pairs of digits.
abbrev pub bytes_in : List ℕ → Result (List ℕ) Reason
bytes_in word = if bytes_eq word (codes "-") then Ok [] else or_hex (decode_of word)

-- ---- Open flags

-- The option, if it was not chosen before.
abbrev pub once : Bool → OpenOptions → Option OpenOptions
once true o = None
once false o = Some o

-- The options with a letter, if it did not occur before.
abbrev pub with_letter : ℕ → OpenOptions → Option OpenOptions
with_letter b o =
    if b == 114 then once o.read (record o { read = true })
    else if b == 119 then once o.write (record o { write = true })
    else if b == 97 then once o.append (record o { append = true })
    else if b == 116 then once o.truncate (record o { truncate = true })
    else if b == 99 then once o.create (record o { create = true })
    else if b == 110 then once o.create_new (record o { create_new = true })
    else None

-- The options with letters one after another.
abbrev pub with_letters : Option OpenOptions → List ℕ → Option OpenOptions
with_letters None letters = None
with_letters (Some o) [] = Some o
with_letters (Some o) (b ∷ letters) = with_letters (with_letter b o) letters

-- A word of a list, or the reason.
abbrev pub or_mode : {A : Type 0} → Option A → Result A Reason
or_mode None = Err reason.Mode
or_mode (Some x) = Ok x

-- `-`, or the letters r, w, a, t, c and n, each at most once and in any order.
abbrev pub flags_in : List ℕ → Result OpenOptions Reason
flags_in word = if bytes_eq word (codes "-") then Ok nothing_chosen else
    or_mode (with_letters (Some nothing_chosen) word)

-- ---- The number of words

-- A line of its first word alone.
abbrev pub no_word : {A : Type 0} → A → List (List ℕ) → Result A Reason
no_word x [] = Ok x
no_word x words = Err reason.Count

-- A line with one word after its first.
abbrev pub one_word : {A : Type 0} → (List ℕ → Result A Reason) → List (List ℕ) → Result A Reason
one_word f (a ∷ []) = f a
one_word f words = Err reason.Count

-- A line with two words after its first.
abbrev pub two_words : {A : Type 0} → (List ℕ → List ℕ → Result A Reason) → List (List ℕ) → Result A Reason
two_words f (a ∷ b ∷ []) = f a b
two_words f words = Err reason.Count

-- A line with three words after its first.
abbrev pub three_words : {A : Type 0} → (List ℕ → List ℕ → List ℕ → Result A Reason) → List (List ℕ) → Result A Reason
three_words f (a ∷ b ∷ c ∷ []) = f a b c
three_words f words = Err reason.Count

-- A line with four words after its first.
abbrev pub four_words : {A : Type 0} → (List ℕ → List ℕ → List ℕ → List ℕ → Result A Reason) → List (List ℕ)
    → Result A Reason
four_words f (a ∷ b ∷ c ∷ d ∷ []) = f a b c d
four_words f words = Err reason.Count

-- ---- The first word of a line, and the words after it

-- The first reading of a line if there is one, otherwise the second.
abbrev pub or_read : {A : Type 0} → Option (Result A Reason) → Result A Reason → Result A Reason
or_read None other = other
or_read (Some read) other = read

-- A line by its words, where `by` reads a line by its first word and the words after it.
abbrev pub line_of : {S : Type 0} → (S → List ℕ → List (List ℕ) → Result S Reason) → S → List (List ℕ)
    → Result S Reason
line_of by s [] = Ok s
line_of by s (word ∷ words) = by s word words

-- A line without words is skipped, and so is one that begins with `#`.
abbrev pub read_line : {S : Type 0} → (S → List ℕ → List (List ℕ) → Result S Reason) → S → List ℕ → Result S Reason
read_line by s line = if is_comment line then Ok s else line_of by s (words_of line)

-- The lines after a line, or the reason why it is refused.
abbrev pub go_on : {S A : Type 0} → ℕ → Result S Reason → (S → Result A (ℕ × Reason)) → Result A (ℕ × Reason)
go_on n (Err why) rest = Err (n, why)
go_on n (Ok s) rest = rest s

-- The result of these lines, of which the first has the number n; or the number of the first line that is refused, and
-- the reason.
abbrev pub read_by : {S : Type 0} → (S → List ℕ → List (List ℕ) → Result S Reason) → ℕ → S → List (List ℕ)
    → Result S (ℕ × Reason)
read_by by n s [] = Ok s
read_by by n s (line ∷ lines) = go_on n (read_line by s line) (λ next. read_by by (n + 1) next lines)
