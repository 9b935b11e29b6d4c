-- The sets and maps of paths that the code has.
use Rattle.std.specs.Prelude.{ℕ, List, Option, Some, None, if◌then◌else◌}
use Rattle.std.specs.List.{list_any}
use Rattle.std.specs.Map.{lookup}
use Rattle.std.specs.Str.{bytes_eq}
use Rattle.transfer_sync.specs.Paths.{Paths}

-- The set of the paths of a list.
abbrev pub path_set : List (List ℕ) → Paths
path_set paths = λ path. list_any (bytes_eq path) paths

-- A map from paths to places.
abbrev pub Places : Type 0
Places = List ℕ → Option ℕ

-- The empty map.
abbrev pub no_place : Places
no_place = λ path. None

-- The map with another place.
abbrev pub with_place : Places → List ℕ → ℕ → Places
with_place places more place = λ path. if bytes_eq path more then Some place else places path

-- The map of a list of pairs.
abbrev pub place_map : List (List ℕ × ℕ) → Places
place_map pairs = λ path. lookup (bytes_eq path) pairs
