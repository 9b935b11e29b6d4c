-- The rows of texts, as the code computes them.
use Rattle.std.specs.Prelude.{
  ◌≡◌,
  ◌≤◌,
  ◌==◌,
  ◌&&◌,
  ◌||◌,
  ℕ,
  Bool,
  false,
  not,
  List,
  [],
  ◌∷◌,
  drop,
  length,
  slice_index_or,
  if◌then◌else◌,
}
use Rattle.transfer_filter.specs.Matches.{is_question_mark, is_star, matches_text, tokens_of}
use Rattle.transfer_filter.specs.Patterns.{is_slash}

-- The row of a text has a cell for each place of a pattern: whether the rest of the pattern matches the text.
abbrev pub IsRow : List ℕ → List Bool → List ℕ → Type 0
IsRow glob row text = (k : ℕ) → k ≤ length glob → slice_index_or row k false
    ≡ matches_text (tokens_of (drop k glob)) text

-- True if a text begins with a star.
abbrev pub starts_with_star : List ℕ → Bool
starts_with_star [] = false
starts_with_star (b ∷ bytes) = is_star b

-- The cell of a byte and a text, for the rest of a pattern. `later` has their cells for the places after this one, and
-- `here` and `after` are the cells of the text alone, for this place and the next one.
abbrev pub cell_of : List ℕ → List Bool → Bool → Bool → ℕ → Bool
cell_of [] later here after byte = false
cell_of (b ∷ bytes) later here after byte =
    if is_star b then (
    if starts_with_star bytes then slice_index_or later 1 false || here
    else slice_index_or later 0 false || (not (is_slash byte) && here)
    ) else if is_question_mark b then not (is_slash byte) && after
    else (byte == b) && after
