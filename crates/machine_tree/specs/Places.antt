-- Lookups of names by their number.
use Rattle.std.specs.Prelude.{ℕ, ◌-◌, ◌==◌, Bool, not, List, [], ◌∷◌, Option, Some, None, if◌then◌else◌}
use Rattle.machine_model.specs.Components.{Name}
use Rattle.machine_model.specs.declared.node.Node.{Node}
use Rattle.machine_model.specs.Listing.{is_file}

-- True for a file, or for a directory.
abbrev pub is_of_kind : Bool → Node → Bool
is_of_kind files n = if files then is_file n else not (is_file n)

-- Number k of those of the kind, counted from 0.
abbrev pub nth_of_kind : Bool → List (Name × Node) → ℕ → Option (Name × Node)
nth_of_kind files [] k = None
nth_of_kind files (pair ∷ pairs) k =
    if is_of_kind files pair.1 then (if k == 0 then Some pair else nth_of_kind files pairs (k - 1))
    else nth_of_kind files pairs k
