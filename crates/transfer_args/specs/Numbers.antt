-- believed
-- The numbers of a command line.
use Rattle.std.specs.Prelude.{
  ◌+◌,
  ◌-◌,
  ◌*◌,
  ◌==◌,
  ◌&&◌,
  ℕ,
  Bool,
  List,
  [],
  ◌∷◌,
  length,
  nat_le,
  nat_lt,
  Option,
  Some,
  None,
  if◌then◌else◌,
}
use Rattle.std.specs.List.{after_first, before_first, position_or_len}
use Rattle.transfer_filter.specs.declared.shard.Shard.{Shard}

-- The number that continues `number` with these digits of a base, if it is at most `most`.
abbrev pub digits_in : ℕ → ℕ → ℕ → List ℕ → Option ℕ
digits_in base most number [] = Some number
digits_in base most number (b ∷ bytes) =
    if nat_le 48 b && nat_lt b (48 + base) then (
    if nat_le (number * base + (b - 48)) most then digits_in base most (number * base + (b - 48)) bytes else None
    ) else None

-- The number, if it is at least this one.
abbrev pub from_least : ℕ → Option ℕ → Option ℕ
from_least least None = None
from_least least (Some n) = if nat_le least n then Some n else None

-- A number from `least` to `most`, in decimal digits, at least one.
abbrev pub number_in : ℕ → ℕ → List ℕ → Option ℕ
number_in least most [] = None
number_in least most (b ∷ bytes) = from_least least (digits_in 10 most 0 (b ∷ bytes))

-- Permissions: one to four octal digits, so at most 4095.
abbrev pub mode_in : List ℕ → Option ℕ
mode_in [] = None
mode_in (b ∷ bytes) = if nat_le (length (b ∷ bytes)) 4 then digits_in 8 4095 0 (b ∷ bytes) else None

-- The factor of a unit of bytes.
abbrev pub unit_of : ℕ → Option ℕ
unit_of b =
    if b == 75 then Some 1024
    else if b == 77 then Some 1048576
    else if b == 71 then Some 1073741824
    else None

-- The product, if it is at most `most`.
abbrev pub product_at_most : ℕ → ℕ → Option ℕ → Option ℕ
product_at_most most number None = None
product_at_most most number (Some unit) = if nat_le (number * unit) most then Some (number * unit) else None

-- The number of bytes that continues `number` with these decimal digits, after which `K`, `M` or `G` may come.
abbrev pub size_behind : ℕ → ℕ → List ℕ → Option ℕ
size_behind most number [] = Some number
size_behind most number (b ∷ bytes) =
    if nat_le 48 b && nat_le b 57 then (
    if nat_le (number * 10 + (b - 48)) most then size_behind most (number * 10 + (b - 48)) bytes else None
    ) else if length bytes == 0 then product_at_most most number (unit_of b) else None

-- A number of bytes from `least` to `most`: decimal digits, and then nothing, `K`, `M` or `G` for 1024, 1048576 or
-- 1073741824 times the number.
abbrev pub size_in : ℕ → ℕ → List ℕ → Option ℕ
size_in least most [] = None
size_in least most (b ∷ bytes) = from_least least (size_behind most 0 (b ∷ bytes))

-- True for a slash.
abbrev pub is_slash : ℕ → Bool
is_slash b = b == 47

-- The share of these numbers, if the first is at most the second.
abbrev pub shard_at : Option ℕ → Option ℕ → Option Shard
shard_at None count = None
shard_at (Some index) None = None
shard_at (Some index) (Some count) =
    if nat_le index count then Some (record { index = index; count = count }) else None

-- A share of files, as in `2/8`: its number, a slash, and the number of shares, which is at most 65536.
abbrev pub shard_in : List ℕ → Option Shard
shard_in word =
    if nat_lt (position_or_len is_slash word) (length word) then
    shard_at (number_in 1 65536 (before_first is_slash word)) (number_in 1 65536 (after_first is_slash word))
    else None
