-- believed
-- The texts that are patterns.
use Rattle.std.specs.Prelude.{◌==◌, ◌&&◌, ◌||◌, ℕ, Bool, false, not, List, [], ◌∷◌, codes}
use Rattle.std.specs.List.{list_all, list_any, starts_with}

-- True for a slash.
abbrev pub is_slash : ℕ → Bool
is_slash b = b == 47

-- True for `[` and for a backslash, to which rsync gives a meaning that patterns do not have here.
abbrev pub is_refused_byte : ℕ → Bool
is_refused_byte b = (b == 91) || (b == 92)

-- True if three stars follow each other, to which rsync gives a meaning of their own.
abbrev pub has_three_stars : List ℕ → Bool
has_three_stars [] = false
has_three_stars (b ∷ bytes) = starts_with ◌==◌ (b ∷ bytes) (codes "***") || has_three_stars bytes

-- A pattern has a byte that is no slash, no byte that is refused, and no three stars that follow each other.
abbrev pub is_pattern : List ℕ → Bool
is_pattern text = (not (list_all is_slash text) && not (list_any is_refused_byte text)) && not (has_three_stars text)
