-- believed: numbered_handle
-- Open handles by their numbers, and open files and directories without their first entries.
use Rattle.std.specs.Prelude.{ℕ, ◌≡◌, ◌<◌, ◌^◌, List, [], ◌∷◌, drop, if◌then◌else◌, map}
use Rattle.std.specs.Int.{w32, to_be_bytes}
use Rattle.std.specs.Str.{bytes_eq}
use Rattle.machine_model.specs.declared.opened.Opened.{Opened}
use Rattle.machine_model.specs.declared.opened.Opened.TheVariants as opened

-- The handle of a number: four bytes, the most significant first.
abbrev pub numbered_handle : ℕ → List ℕ
numbered_handle n = to_be_bytes w32 n

-- The handle is one of the first n numbers.
abbrev pub IsBelow : ℕ → List ℕ → Type 0
IsBelow n handle = (k : ℕ) × (k < n) × (handle ≡ numbered_handle k)

-- Each of these handles is one of the first n numbers.
abbrev pub AllBelow : ℕ → List (List ℕ × Opened) → Type 0
AllBelow n [] = Unit {0}
AllBelow n (pair ∷ pairs) = IsBelow n pair.0 × AllBelow n pairs

-- The entries with handles in place of their numbers.
abbrev pub with_handles : List (ℕ × Opened) → List (List ℕ × Opened)
with_handles entries = map (λ entry. (numbered_handle entry.0, entry.1)) entries

-- Each number fits in four bytes.
abbrev pub AreNumbers : List (ℕ × Opened) → Type 0
AreNumbers [] = Unit {0}
AreNumbers (entry ∷ entries) = (entry.0 < 2 ^ 32) × AreNumbers entries

-- The opened file or directory without its first entries.
abbrev pub without_first : ℕ → Opened → Opened
without_first n (opened.File held) = opened.File held
without_first n (opened.Directory entries) = opened.Directory (drop n entries)

-- The pairs, with the first entries of a handle dropped.
abbrev pub given_pairs : List (List ℕ × Opened) → List ℕ → ℕ → List (List ℕ × Opened)
given_pairs [] handle n = []
given_pairs (pair ∷ pairs) handle n = if bytes_eq pair.0 handle then (pair.0, without_first n pair.1) ∷ pairs else
    pair ∷ given_pairs pairs handle n
