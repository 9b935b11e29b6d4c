-- believed
-- Paths on the server: bytes, with `/` between their components. The meaning of a path is the server's
-- (draft-ietf-secsh-filexfer-02, section 6.2).
use Rattle.std.specs.Prelude.{
  ℕ,
  ◌==◌,
  Bool,
  false,
  ◌-◌,
  List,
  [],
  ◌∷◌,
  ◌++◌,
  length,
  slice_get,
  Option,
  Some,
  None,
  if◌then◌else◌,
}

-- The byte of `/`.
abbrev pub slash : ℕ
slash = 47

-- True if the first byte is `/`.
abbrev pub is_absolute_path : List ℕ → Bool
is_absolute_path [] = false
is_absolute_path (b ∷ bytes) = b == slash

-- The last byte, if there is one.
abbrev pub last_byte : List ℕ → Option ℕ
last_byte bytes = slice_get bytes (length bytes - 1)

-- The `/` that is still to be added after a last byte.
abbrev pub separator_behind : Option ℕ → List ℕ
separator_behind None = []
separator_behind (Some b) = if b == slash then [] else slash ∷ []

-- A directory with a `/` at its end, if it is not empty.
abbrev pub with_separator : List ℕ → List ℕ
with_separator directory = directory ++ separator_behind (last_byte directory)

-- The path that `path` names from a directory.
abbrev pub joined_path : List ℕ → List ℕ → List ℕ
joined_path directory path = if is_absolute_path path then path else with_separator directory ++ path
