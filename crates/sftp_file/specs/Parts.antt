-- Bytes that are cut into pieces without a copy.
use Rattle.std.specs.Prelude.{ℕ, ◌-◌, List, [], ◌∷◌, length, take, drop}

-- A piece before others, if it isn't empty.
abbrev pub with_filled : List ℕ → List (List ℕ) → List (List ℕ)
with_filled [] pieces = pieces
with_filled (x ∷ xs) pieces = (x ∷ xs) ∷ pieces

-- The bytes from a position on, at most `len`. Each piece is the part of one of these pieces that lies there. Joined,
-- they are that part of these pieces, joined.
abbrev pub cut_at : ℕ → ℕ → List (List ℕ) → List (List ℕ)
cut_at from len [] = []
cut_at from len (piece ∷ pieces) =
    with_filled (take len (drop from piece)) (cut_at (from - length piece) (len - length (drop from piece)) pieces)
