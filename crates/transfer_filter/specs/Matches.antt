-- The paths that a pattern matches.
use Rattle.std.specs.Prelude.{
  ◌==◌,
  ◌-◌,
  ◌&&◌,
  ◌||◌,
  ℕ,
  Bool,
  true,
  false,
  not,
  List,
  [],
  ◌∷◌,
  ◌++◌,
  codes,
  length,
  take,
  if◌then◌else◌,
}
use Rattle.std.specs.List.{ends_with, starts_with}
use Rattle.transfer_filter.specs.Patterns.{is_slash}

-- A byte of the pattern itself, `?`, `*` or `**`.
pub data Token : Type 0 where
  Literal : ℕ → Token
  AnyByte : Token
  Star : Token
  TwoStars : Token

-- True for a star.
abbrev pub is_star : ℕ → Bool
is_star b = b == 42

-- True for a question mark.
abbrev pub is_question_mark : ℕ → Bool
is_question_mark b = b == 63

-- The token of a byte that is not part of `**`.
abbrev pub token_of : ℕ → Token
token_of b = if is_star b then Star else if is_question_mark b then AnyByte else Literal b

-- The tokens of a pattern.
abbrev pub tokens_of : List ℕ → List Token
tokens_of [] = []
tokens_of (b ∷ []) = token_of b ∷ []
tokens_of (b ∷ c ∷ bytes) =
    if is_star b && is_star c then TwoStars ∷ tokens_of bytes else token_of b ∷ tokens_of (c ∷ bytes)

-- True if tokens match a whole text. `?` matches one byte other than a slash, `*` any bytes other than slashes, and
-- `**` any bytes. Both stars also match nothing.
abbrev pub matches_text : List Token → List ℕ → Bool
matches_text [] [] = true
matches_text [] (b ∷ text) = false
matches_text (Literal c ∷ tokens) [] = false
matches_text (Literal c ∷ tokens) (b ∷ text) = (b == c) && matches_text tokens text
matches_text (AnyByte ∷ tokens) [] = false
matches_text (AnyByte ∷ tokens) (b ∷ text) = not (is_slash b) && matches_text tokens text
matches_text (Star ∷ tokens) [] = matches_text tokens []
matches_text (Star ∷ tokens) (b ∷ text) =
    matches_text tokens (b ∷ text) || (not (is_slash b) && matches_text (Star ∷ tokens) text)
matches_text (TwoStars ∷ tokens) [] = matches_text tokens []
matches_text (TwoStars ∷ tokens) (b ∷ text) = matches_text tokens (b ∷ text) || matches_text (TwoStars ∷ tokens) text

-- True if a pattern begins with a slash or with `**`. Such a pattern is compared with the whole path.
abbrev pub is_rooted : List ℕ → Bool
is_rooted pattern = starts_with ◌==◌ pattern (codes "/") || starts_with ◌==◌ pattern (codes "**")

-- Any other pattern matches after any slash: it is read with `**/` before it.
abbrev pub rooted_pattern : List ℕ → List ℕ
rooted_pattern pattern = if is_rooted pattern then pattern else codes "**/" ++ pattern

-- True if a pattern matches a path below the root of a tree. The path is read with a slash before it.
abbrev pub matches_path : List ℕ → List ℕ → Bool
matches_path pattern path = matches_text (tokens_of (rooted_pattern pattern)) (codes "/" ++ path)

-- True if a pattern matches an entry. A slash at the end of a pattern is no part of what the path is compared with: it
-- says that the pattern matches directories alone.
abbrev pub matches_entry : List ℕ → List ℕ → Bool → Bool
matches_entry pattern path is_directory =
    if ends_with ◌==◌ pattern (codes "/") then is_directory && matches_path (take (length pattern - 1) pattern) path
    else matches_path pattern path
