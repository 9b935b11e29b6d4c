-- First bytes of pieces.
use Rattle.std.specs.Prelude.{◌≡◌, ◌<◌, ◌≤◌, ◌⊎◌, ◌+◌, ◌++◌, ℕ, List, [], length, min, take, Option, Some, None}
use Rattle.sftp_model.specs.Pieces.{joined_pieces}

-- None exactly if the pieces join to nothing. Otherwise: how many of their bytes come first, at most `limit`; how many
-- whole pieces are among them; and the rest, which with those pieces before it is the first bytes. All pieces are whole,
-- or another one would be too many bytes.
abbrev pub IsCutOff : List (List ℕ) → ℕ → Option (ℕ × ℕ × List ℕ) → Type 0
IsCutOff pieces limit None = joined_pieces pieces ≡ []
IsCutOff pieces limit (Some first) = (first.0 ≡ min (length (joined_pieces pieces)) limit)
    × (0 < first.0)
    × (first.1 ≤ length pieces)
    × (joined_pieces (take first.1 pieces) ++ first.2 ≡ take first.0 (joined_pieces pieces))
    × ((first.1 ≡ length pieces) ⊎ (first.0 < length (joined_pieces (take (first.1 + 1) pieces))))
