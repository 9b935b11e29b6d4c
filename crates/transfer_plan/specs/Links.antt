-- Symbolic links that lead out of a tree.
use Rattle.std.specs.Prelude.{
  ◌≡◌,
  ◌≤◌,
  ◌==◌,
  ◌+◌,
  ◌-◌,
  ◌||◌,
  ℕ,
  Bool,
  true,
  false,
  List,
  [],
  ◌∷◌,
  codes,
  drop,
  length,
  take,
  Option,
  Some,
  None,
  if◌then◌else◌,
}
use Rattle.std.specs.Str.{bytes_eq}
use Rattle.sftp_model.specs.Paths.{is_absolute_path}
use Rattle.machine_model.specs.Components.{parts_of}

-- The depth below the root after a component, or None if it leads above the root. An empty component and "." lead
-- nowhere, ".." leads up, and any other one leads down.
abbrev pub depth_after : ℕ → List ℕ → Option ℕ
depth_after depth part =
    if bytes_eq part [] || bytes_eq part (codes ".") then Some depth
    else if bytes_eq part (codes "..") then (if depth == 0 then None else Some (depth - 1))
    else Some (depth + 1)

-- True if these components lead above the root at some point, from a directory at this depth below it.
abbrev pub climbs : Option ℕ → List (List ℕ) → Bool
climbs None parts = true
climbs (Some depth) [] = false
climbs (Some depth) (part ∷ later) = climbs (depth_after depth part) later

-- True if a symbolic link with this text leads out of the tree, from a directory at this depth below the root. The text
-- is empty or absolute, or its components lead above the root at some point.
abbrev pub leads_out : ℕ → List ℕ → Bool
leads_out depth names = length names == 0 || is_absolute_path names || climbs (Some depth) (parts_of names)

-- The components after the slash at the start of a text.
abbrev pub later_parts : List ℕ → List (List ℕ)
later_parts [] = []
later_parts (b ∷ later) = parts_of later

-- The first component of the text ends here.
pub record EndsPart (names : List ℕ) (len : ℕ) : Type 0 where
  pub within : len ≤ length names
  pub first : parts_of names ≡ take len names ∷ later_parts (drop len names)
