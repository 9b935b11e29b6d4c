-- believed: uint32, uint64, string, or_else
-- The bytes that are written: the data types of RFC 4251, section 5.
use Rattle.std.specs.Prelude.{
  ℕ,
  ◌≡◌,
  ◌⊎◌,
  ◌<◌,
  ◌≤◌,
  Bool,
  List,
  [],
  ◌∷◌,
  ◌++◌,
  length,
  Result,
  Ok,
  Err,
  Option,
  Some,
  None,
  nat_lt,
  if◌then◌else◌,
}
use Rattle.std.specs.Int.{w32, w64, to_be_bytes}
use Rattle.ssh_encoding.specs.declared.error.Error.{Error}
use Rattle.ssh_encoding.specs.declared.error.Error.TheVariants as errors

-- ---- The lists that are written

-- uint32: four bytes, most significant first.
unfoldable pub uint32 : ℕ → List ℕ
uint32 n = to_be_bytes w32 n

-- uint64: eight bytes, most significant first.
unfoldable pub uint64 : ℕ → List ℕ
uint64 n = to_be_bytes w64 n

-- boolean: 1 for true, 0 for false.
unfoldable pub flag : Bool → List ℕ
flag b = (if b then 1 else 0) ∷ []

-- string: four bytes of length, and that many bytes.
unfoldable pub string : List ℕ → List ℕ
string bytes = uint32 (length bytes) ++ bytes

-- ---- The errors of lists that cannot be written

-- The greatest length that four bytes can hold.
abbrev pub max_uint32 : ℕ
max_uint32 = 4294967295

-- The greatest `usize`.
abbrev pub max_usize : ℕ
max_usize = 18446744073709551615

-- The error of a length that four bytes cannot hold.
unfoldable pub len_refusal : ℕ → Option Error
len_refusal n = if nat_lt max_uint32 n then Some errors.Overflow else None

-- The error of a string whose length four bytes cannot hold.
abbrev pub string_refusal : List ℕ → Option Error
string_refusal bytes = len_refusal (length bytes)

-- The first, or the second if the first is None.
abbrev pub or_else : {A : Type 0} → Option A → Option A → Option A
or_else (Some x) second = Some x
or_else None second = second

-- The error of n bytes after their length: if `usize` does not hold the length, if four bytes do not hold it, and last
-- the error of the bytes themselves.
unfoldable pub prefixed_refusal : ℕ → Option Error → Option Error
prefixed_refusal n last = if nat_lt max_usize n then Some errors.Length else or_else (len_refusal n) last

-- ---- Relations of contracts for writing

-- `new` is `old` followed by a prefix of the list.
pub record IsPart (old new list : List ℕ) : Type 0 where
  pub part : List ℕ
  pub more : List ℕ
  pub whole : list ≡ part ++ more
  pub added : new ≡ old ++ part

-- The effect of `encode` on a writer that held `old` and then holds `new`.
abbrev pub WritesValue : {T : Type 0} → List ℕ → List ℕ → Result T Error → List ℕ → Option Error → Type 0
WritesValue old new (Ok v) list refusal = (new ≡ old ++ list) × (refusal ≡ None)
WritesValue old new (Err e) list refusal = IsPart old new list × ((e ≡ errors.OutOfMemory) ⊎ (refusal ≡ Some e))

-- A number of bytes, or the fact that it is over the greatest `usize`.
abbrev pub CountsBytes : Result ℕ Error → ℕ → Type 0
CountsBytes (Ok n) len = (n ≡ len) × (len ≤ max_usize)
CountsBytes (Err e) len = (e ≡ errors.Length) × (max_usize < len)

-- The reason why a new buffer was refused.
abbrev pub RefusesBuffer : Error → ℕ → Option Error → Type 0
RefusesBuffer e len refusal = (e ≡ errors.OutOfMemory) ⊎ ((e ≡ errors.Length) × (max_usize < len)) ⊎ (refusal ≡ Some e)
