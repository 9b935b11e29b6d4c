-- believed: is_component, path_in
-- The names that a directory lists, and the paths made of them.
use Rattle.std.specs.Prelude.{◌≡◌, ◌==◌, ◌&&◌, ◌||◌, ℕ, Bool, true, not, nat_lt, List, [], ◌∷◌, ◌++◌, length, codes}
use Rattle.std.specs.List.{list_all, list_any}
use Rattle.std.specs.Str.{bytes_eq}
use Rattle.sftp_model.specs.Paths.{is_absolute_path, slash, with_separator}
use Rattle.machine_model.specs.Components.{components}

-- The greatest length of a name that a file system takes, in bytes.
abbrev pub MAX_NAME_LEN : ℕ
MAX_NAME_LEN = 255

-- True if a name leads to an entry of its directory and nowhere else. It is not empty, not "." and not "..", and has no
-- slash and no zero byte.
unfoldable pub is_component : List ℕ → Bool
is_component name = not (length name == 0) && not (bytes_eq name (codes ".")) && not (bytes_eq name (codes ".."))
    && not (list_any (λ b. b == slash || b == 0) name)

-- True if an entry of a directory can have the name: it is a component, and a file system takes it.
abbrev pub is_entry_name : List ℕ → Bool
is_entry_name name = is_component name && not (nat_lt MAX_NAME_LEN (length name))

-- The path of an entry of a directory.
abbrev pub path_in : List ℕ → List ℕ → List ℕ
path_in folder name = with_separator folder ++ name

-- The path has the components of the directory and one component after them.
pub record LeadsInto (folder name path : List ℕ) : Type 0 where
  pub down : components path ≡ components folder ++ name ∷ []
  pub start : is_absolute_path path ≡ is_absolute_path folder

-- The path leads from the root down through components, and never up: it is the root or lies below it.
pub record StaysIn (root path : List ℕ) : Type 0 where
  pub names : List (List ℕ)
  pub each : list_all is_component names ≡ true
  pub down : components path ≡ components root ++ names
  pub start : is_absolute_path path ≡ is_absolute_path root
