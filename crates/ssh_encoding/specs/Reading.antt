-- believed: ◌>>=◌, MAX_LEN, byte_at, number_at, prefix_at, inside, prefixed_value, all_at, string_at, with_prefix
-- The value that a list of bytes begins with, and the bytes after it: the data types of RFC 4251, section 5.
use Rattle.std.specs.Prelude.{
  ℕ,
  zero,
  suc,
  ◌≡◌,
  ◌⊎◌,
  ◌≤◌,
  ◌==◌,
  Bool,
  not,
  List,
  [],
  ◌∷◌,
  ◌++◌,
  length,
  map,
  take,
  drop,
  Result,
  Ok,
  Err,
  nat_lt,
  nat_le,
  is_ok,
  IsErrAnd,
  if◌then◌else◌,
}
use Rattle.std.specs.Int.{Width, w32, byte_len, from_be_bytes}
use Rattle.std.specs.Str.{is_utf8}
use Rattle.std.specs.String.{string_bytes}
use Rattle.std.specs.declared.string.String.{String}
use Rattle.std.specs.Fn.{Once, FnOnceReturnsAtMut}
use Rattle.std.specs.Borrow.{MutBor}
use Rattle.ssh_encoding.specs.Canonical.{is_canonical}
use Rattle.ssh_encoding.specs.declared.error.Error.{Error}
use Rattle.ssh_encoding.specs.declared.error.Error.TheVariants as errors

-- ---- Relations of contracts between a call and a reading

-- True if `xs` ends in `ys`.
pub record IsSuffix (ys xs : List ℕ) : Type 0 where
  pub prefix : List ℕ
  pub is : xs ≡ prefix ++ ys

-- The result of `decode`, with `rest` left, is that of the reading, unless the error is one of memory.
abbrev pub DecodesAs : {T S E : Type 0} → (T → S) → (E → Type 0) → List ℕ → Result T E → Result (S × List ℕ) E → Type 0
DecodesAs seen memory rest (Ok v) read = read ≡ Ok (seen v, rest)
DecodesAs seen memory rest (Err e) read = memory e ⊎ (read ≡ Err e)

-- The same if an error also says which bytes it leaves, and no memory is allocated.
abbrev pub ReadsTo : {T S : Type 0} → (T → S) → List ℕ → Result T Error → Result (S × List ℕ) (Error × List ℕ) → Type 0
ReadsTo seen rest (Ok v) read = read ≡ Ok (seen v, rest)
ReadsTo seen rest (Err e) read = read ≡ Err (e, rest)

-- The same if no memory is allocated.
abbrev pub ReadsPlain : {T S : Type 0} → (T → S) → List ℕ → Result T Error → Result (S × List ℕ) Error → Type 0
ReadsPlain seen rest (Ok v) read = read ≡ Ok (seen v, rest)
ReadsPlain seen rest (Err e) read = read ≡ Err e

-- The result of a call is the meaning of a text, unless memory ran out.
abbrev pub NamesValue : {T A : Type 0} → (T → A) → Result T Error → Result A Error → Type 0
NamesValue seen (Ok v) meaning = meaning ≡ Ok (seen v)
NamesValue seen (Err e) meaning = (e ≡ errors.OutOfMemory) ⊎ (meaning ≡ Err e)

-- ---- Readings: the first value and the bytes after it, or the error

infixl 10 ◌>>=◌
abbrev pub ◌>>=◌ : {A B E : Type 0} → Result A E → (A → Result B E) → Result B E
(Ok x) >>= f = f x
(Err e) >>= f = Err e

-- A value that must pass a test.
abbrev pub tested_value : {A : Type 0} → (A → Bool) → Error → Result (A × List ℕ) Error → Result (A × List ℕ) Error
tested_value test refusal (Ok x) = if test x.0 then Ok x else Err refusal
tested_value test refusal (Err e) = Err e

-- The greatest length that is read.
abbrev pub MAX_LEN : ℕ
MAX_LEN = 1048575

-- The most bytes of a label.
abbrev pub MAX_LABEL_LEN : ℕ
MAX_LABEL_LEN = 48

-- byte[n].
abbrev pub bytes_at : ℕ → List ℕ → Result (List ℕ × List ℕ) Error
bytes_at n bytes = if nat_lt (length bytes) n then Err errors.Length else Ok (take n bytes, drop n bytes)

-- byte.
unfoldable pub byte_at : List ℕ → Result (ℕ × List ℕ) Error
byte_at [] = Err errors.Length
byte_at (b ∷ bytes) = Ok (b, bytes)

-- boolean: every byte except 0 is true.
unfoldable pub bool_at : List ℕ → Result (Bool × List ℕ) Error
bool_at bytes = do
  b ← byte_at bytes
  Ok (not (b.0 == 0), b.1)

-- uint32 and uint64: most significant byte first.
abbrev pub number_at : Width → List ℕ → Result (ℕ × List ℕ) Error
number_at w bytes = if nat_lt (length bytes) (byte_len w) then Err errors.Length else
    Ok (from_be_bytes w (take (byte_len w) bytes), drop (byte_len w) bytes)

-- A length: a uint32 within the limit.
unfoldable pub len_at : List ℕ → Result (ℕ × List ℕ) Error
len_at bytes = tested_value (λ n. nat_le n MAX_LEN) errors.Overflow (number_at w32 bytes)

-- The bytes that a length counts, and the bytes after them; or the error, and the bytes that it leaves in the reader.
unfoldable pub prefix_at : List ℕ → Result (List ℕ × List ℕ) (Error × List ℕ)
prefix_at bytes =
    if nat_lt (length bytes) 4 then Err (errors.Length, bytes)
    else if nat_lt MAX_LEN (from_be_bytes w32 (take 4 bytes)) then Err (errors.Overflow, drop 4 bytes)
    else if nat_lt (length (drop 4 bytes)) (from_be_bytes w32 (take 4 bytes)) then Err (errors.Length, drop 4 bytes)
    else Ok (
      take (from_be_bytes w32 (take 4 bytes)) (drop 4 bytes),
      drop (from_be_bytes w32 (take 4 bytes)) (drop 4 bytes),
    )

-- The value that a reading makes of the bytes that a length counts.
abbrev pub inside : {A : Type 0} → (List ℕ → Result (A × List ℕ) Error) → Result (List ℕ × List ℕ) (Error × List ℕ)
    → Result (A × List ℕ) Error
inside reading (Ok p) = reading p.0 >>= λ x. Ok (x.0, p.1)
inside reading (Err r) = Err r.0

abbrev pub prefixed_value : {A : Type 0} → (List ℕ → Result (A × List ℕ) Error) → List ℕ → Result (A × List ℕ) Error
prefixed_value reading bytes = inside reading (prefix_at bytes)

-- All bytes.
abbrev pub all_at : List ℕ → Result (List ℕ × List ℕ) Error
all_at bytes = Ok (bytes, [])

-- string: a length and that many bytes.
abbrev pub string_at : List ℕ → Result (List ℕ × List ℕ) Error
string_at = prefixed_value all_at

-- A string in UTF-8.
unfoldable pub text_at : List ℕ → Result (List ℕ × List ℕ) Error
text_at bytes = tested_value is_utf8 errors.CharacterEncoding (string_at bytes)

-- mpint: a string that is a canonical number.
unfoldable pub mpint_at : List ℕ → Result (List ℕ × List ℕ) Error
mpint_at bytes = tested_value is_canonical errors.MpintEncoding (string_at bytes)

-- A name: a string of at most 48 bytes in UTF-8 that has a meaning.
unfoldable pub label_at : {A : Type 0} → (List ℕ → Result A Error) → List ℕ → Result (A × List ℕ) Error
label_at meaning bytes = do
  text ← tested_value is_utf8 errors.CharacterEncoding (tested_value (λ t. nat_le (length t) MAX_LABEL_LEN)
      errors.Length
      (string_at bytes))
  label ← meaning text.0
  Ok (label, text.1)

-- The values read now, after those read before.
abbrev pub with_prefix : {A E : Type 0} → List A → Result (List A × List ℕ) E → Result (List A × List ℕ) E
with_prefix prefix read = read >>= λ x. Ok (prefix ++ x.0, x.1)

-- Texts to the end of the list. Each takes four bytes or more, so `most` is at most the number of bytes.
abbrev pub texts_within : ℕ → List ℕ → Result (List (List ℕ) × List ℕ) Error
texts_within zero bytes = Ok ([], bytes)
texts_within (suc most) [] = Ok ([], [])
texts_within (suc most) (b ∷ bytes) = text_at (b ∷ bytes) >>= λ text. with_prefix (text.0 ∷ [])
    (texts_within most text.1)

abbrev pub texts_at : List ℕ → Result (List (List ℕ) × List ℕ) Error
texts_at bytes = texts_within (length bytes) bytes

abbrev pub texts_of : {A : Type 0} → List (String A) → List (List ℕ)
texts_of = map string_bytes

-- ---- The calls of a reader

-- A string of at most `most` bytes.
unfoldable pub string_within : ℕ → List ℕ → Result (List ℕ × List ℕ) (Error × List ℕ)
string_within most bytes = prefix_at bytes >>= λ p. if nat_lt most (length p.0) then
    Err (errors.Length, drop 4 bytes) else Ok p

-- The same in UTF-8.
unfoldable pub text_within : ℕ → List ℕ → Result (List ℕ × List ℕ) (Error × List ℕ)
text_within most bytes = string_within most bytes >>= λ p. if is_utf8 p.0 then Ok p else
    Err (errors.CharacterEncoding, p.1)

-- The number of bytes of a string.
unfoldable pub string_len_at : List ℕ → Result (ℕ × List ℕ) (Error × List ℕ)
string_len_at bytes = prefix_at bytes >>= λ p. Ok (length p.0, p.1)

-- A reader of the bytes that a length counts was found, and the other reader is after the length.
abbrev pub FindsPrefix : {S : Type 0} → (S → List ℕ) → List ℕ → Result S Error → List ℕ
    → Result (List ℕ × List ℕ) (Error × List ℕ) → Type 0
FindsPrefix left old (Ok inner) new read = (read ≡ Ok (left inner, drop (length (left inner)) new))
    × (left inner ≡ take (length (left inner)) new) × (length (left inner) ≤ length new) × (new ≡ drop 4 old)
FindsPrefix left old (Err e) new read = read ≡ Err (e, new)

-- `f` was lent a reader of these bytes, returned this result and left that reader in this state.
pub record LentReader {S F T : Type 0} (g : Once F (MutBor S × Unit {0}) (T × (MutBor S × Unit {0})))
    (left : S → List ℕ)
    (f : F) (bytes : List ℕ) (result : T) : Type 0 where
  pub inner : S
  pub after : S
  pub shows : left inner ≡ bytes
  pub met : FnOnceReturnsAtMut g f inner result after

-- The effect of `read_prefixed` on a reader that held `old` and then holds `new`: it is after the bytes on Ok, and
-- after the length on the closure's own error.
abbrev pub ReadsPrefixed : {F S T E : Type 0} → Once F (MutBor S × Unit {0}) (Result T E × (MutBor S × Unit {0}))
    → (S → List ℕ) → (Error → E → Type 0) → F → List ℕ → Result T E → List ℕ → Result (List ℕ × List ℕ) (Error × List ℕ)
    → Type 0
ReadsPrefixed g left gives f old result new (Err r) = IsErrAnd result (gives r.0) × (new ≡ r.1)
ReadsPrefixed g left gives f old result new (Ok p) = LentReader g left f p.0 result
    × (new ≡ (if is_ok result then p.1 else drop 4 old))
