-- believed
-- Names of files and directories. A path denotes a list of components; the empty list is the root.
use Rattle.std.specs.Prelude.{
  ℕ,
  ◌+◌,
  ◌-◌,
  ◌==◌,
  Bool,
  false,
  ◌||◌,
  List,
  [],
  ◌∷◌,
  ◌++◌,
  length,
  take,
  drop,
  codes,
  nat_lt,
  slice_index_or,
  if◌then◌else◌,
}
use Rattle.std.specs.List.{starts_with, join_with_byte}
use Rattle.std.specs.Str.{bytes_eq}
use Rattle.std.specs.Cmp.Lexicographic.{pointwise}
use Rattle.machine_model.specs.Limits.{MAX_COMPONENT_LEN}
use Rattle.sftp_model.specs.Paths.{slash}

-- A list of components.
abbrev pub Name : Type 0
Name = List (List ℕ)

-- ---- The name that a path denotes

-- The parts with a byte before the first of them.
abbrev pub with_byte : ℕ → List (List ℕ) → List (List ℕ)
with_byte b [] = (b ∷ []) ∷ []
with_byte b (part ∷ parts) = (b ∷ part) ∷ parts

-- The parts of a path, separated by slashes.
abbrev pub parts_of : List ℕ → List (List ℕ)
parts_of [] = [] ∷ []
parts_of (b ∷ path) = if b == slash then [] ∷ parts_of path else with_byte b (parts_of path)

-- A name without its last component; the root's is the root.
abbrev pub parent_of : Name → Name
parent_of name = take (length name - 1) name

-- The name reached after a part: an empty one and "." lead nowhere, ".." leads up, and any other one leads down.
abbrev pub step_into : Name → List ℕ → Name
step_into at part =
    if bytes_eq part [] || bytes_eq part (codes ".") then at
    else if bytes_eq part (codes "..") then parent_of at
    else at ++ part ∷ []

-- The name reached after these parts.
abbrev pub walk_from : Name → List (List ℕ) → Name
walk_from at [] = at
walk_from at (part ∷ parts) = walk_from (step_into at part) parts

-- The name that a path denotes, walked from the root.
unfoldable pub components : List ℕ → Name
components path = walk_from [] (parts_of path)

-- ---- Names

-- The last component; the root has none.
abbrev pub last_of : Name → List ℕ
last_of name = slice_index_or name (length name - 1) []

-- A name as it is written: its components with a slash between each two.
abbrev pub text_of_name : Name → List ℕ
text_of_name name = join_with_byte slash name

-- True if the two names are the same.
abbrev pub same_name : Name → Name → Bool
same_name = pointwise bytes_eq

-- True if the name is the directory's or lies beneath it.
abbrev pub is_within : Name → Name → Bool
is_within directory name = starts_with bytes_eq name directory

-- True if the name lies directly in the directory.
abbrev pub is_child : Name → Name → Bool
is_child directory name = if length name == length directory + 1 then is_within directory name else false

-- True if the last component is too long.
abbrev pub is_long_name : Name → Bool
is_long_name name = nat_lt MAX_COMPONENT_LEN (length (last_of name))

-- The new form of a name if one is moved: names within the old one move with it.
abbrev pub moved_name : Name → Name → Name → Name
moved_name old to name = if is_within old name then to ++ drop (length old) name else name
