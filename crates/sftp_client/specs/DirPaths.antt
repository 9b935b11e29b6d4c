-- The directories that a path goes through.
use Rattle.std.specs.Prelude.{◌≡◌, ◌==◌, ◌&&◌, refl, ℕ, zero, suc, Bool, false, not, List, [], ◌∷◌, ◌++◌, length, take, drop, codes, Option, None, Some, if◌then◌else◌}
use Rattle.sftp_model.specs.Paths.{is_absolute_path, last_byte, slash}

-- A name ends with this byte: there is one, and it is no slash.
abbrev pub is_name_end : Option ℕ → Bool
is_name_end None = false
is_name_end (Some b) = not (b == slash)

-- The path is cut after the last byte of a name and before a slash.
abbrev pub is_dir_end : List ℕ → List ℕ → Bool
is_dir_end before after = is_name_end (last_byte before) && is_absolute_path after

-- The directory whose path ends at a place, if one does.
abbrev pub dir_at : List ℕ → ℕ → List (List ℕ)
dir_at path at = if is_dir_end (take at path) (drop at path) then take at path ∷ [] else []

-- The directories whose paths end before a place, the outermost first.
abbrev pub dirs_before : List ℕ → ℕ → List (List ℕ)
dirs_before path zero = []
dirs_before path (suc n) = dirs_before path n ++ dir_at path n

-- All directories that a path goes through, the outermost first, and then the path itself.
abbrev pub dirs_of : List ℕ → List (List ℕ)
dirs_of path = dirs_before path (length path) ++ path ∷ []

-- ---- Worked rows

pub one_name : dirs_of (codes "a") ≡ codes "a" ∷ []
one_name = refl

pub two_names : dirs_of (codes "a/b") ≡ codes "a" ∷ codes "a/b" ∷ []
two_names = refl

-- The root is no directory that is created, and two slashes separate like one.
pub from_root : dirs_of (codes "/a//b") ≡ codes "/a" ∷ codes "/a//b" ∷ []
from_root = refl

-- A slash at the end is kept in the path itself.
pub closed_path : dirs_of (codes "a/b/") ≡ codes "a" ∷ codes "a/b" ∷ codes "a/b/" ∷ []
closed_path = refl

pub empty_path : dirs_of [] ≡ [] ∷ []
empty_path = refl
