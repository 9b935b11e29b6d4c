-- believed
-- Paths below a root, and sets of them. The empty path is the root.
use Rattle.std.specs.Prelude.{◌||◌, ◌==◌, ℕ, Bool, false, List, [], ◌∷◌, if◌then◌else◌}
use Rattle.std.specs.List.{list_any}
use Rattle.std.specs.Str.{bytes_eq}
use Rattle.sftp_model.specs.Paths.{slash}

-- The directory of a path: the bytes before its last slash, or the root if it has no slash.
abbrev pub directory_of : List ℕ → List ℕ
directory_of [] = []
directory_of (b ∷ path) = if list_any (λ c. c == slash) path then b ∷ directory_of path else []

-- A set of paths is a test.
abbrev pub Paths : Type 0
Paths = List ℕ → Bool

-- The empty set.
abbrev pub no_path : Paths
no_path = λ path. false

-- The set with another path.
abbrev pub with_path : Paths → List ℕ → Paths
with_path paths more = λ path. paths path || bytes_eq path more
