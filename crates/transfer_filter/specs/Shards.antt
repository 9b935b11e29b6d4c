-- Shares of the files of a tree.
use Rattle.std.specs.Prelude.{◌+◌, ◌*◌, ◌==◌, ◌%◌, ℕ, Bool, false, List, [], ◌∷◌, Option, Some, None, if◌then◌else◌}
use Rattle.sha2.specs.Sha256.{sha256}
use Rattle.transfer_filter.specs.declared.shard.Shard.{Shard}

-- The number that the first four bytes write, the most significant one first; 0 if there are fewer.
abbrev pub first_number : List ℕ → ℕ
first_number (a ∷ b ∷ c ∷ d ∷ later) = (a * 256 + b) * 65536 + (c * 256 + d)
first_number other = 0

-- The number of the share that a path is in, if there are `count` shares.
abbrev pub share_of : ℕ → List ℕ → Option ℕ
share_of count path = if count == 0 then None else Some (first_number (sha256 path) % count + 1)

-- True if it is that number.
abbrev pub is_number : Option ℕ → ℕ → Bool
is_number None index = false
is_number (Some number) index = number == index

-- True if a path is in the share.
abbrev pub is_in_shard : Shard → List ℕ → Bool
is_in_shard shard path = is_number (share_of shard.count path) shard.index
