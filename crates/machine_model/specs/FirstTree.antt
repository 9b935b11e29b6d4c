-- believed, except may_hold, may_hold_all, differ, stand_apart, leave_room, may_begin
-- The tree that a server starts with, and its conditions.
use Rattle.std.specs.Prelude.{
  ℕ,
  ◌+◌,
  ◌==◌,
  Bool,
  true,
  not,
  ◌&&◌,
  ◌||◌,
  nat_le,
  List,
  [],
  ◌∷◌,
  ◌++◌,
  length,
  map,
  if◌then◌else◌,
}
use Rattle.std.specs.List.{list_all, list_any, sum_by}
use Rattle.machine_model.specs.Components.{Name, components, is_within, parent_of, same_name}
use Rattle.machine_model.specs.FileTree.{FileTree}
use Rattle.machine_model.specs.Limits.{MAX_COMPONENT_LEN, MAX_FILE_LEN, MAX_TOTAL_LEN}
use Rattle.machine_model.specs.declared.node.Node.{Node}
use Rattle.machine_model.specs.declared.node.Node.TheVariants as node

-- ---- Names

-- True if the name exists.
abbrev pub has_name : List (Name × Node) → Name → Bool
has_name names name = list_any (λ pair. same_name pair.0 name) names

-- The names with another directory, unless its name exists.
abbrev pub with_directory : List (Name × Node) → Name → List (Name × Node)
with_directory names name = if has_name names name then names else names ++ (name, node.Directory) ∷ []

-- The names with the directories passed from `at` down these parts, including the last one.
abbrev pub with_way : List (Name × Node) → Name → List (List ℕ) → List (Name × Node)
with_way names at [] = names
with_way names at (part ∷ parts) = with_way (with_directory names (at ++ part ∷ [])) (at ++ part ∷ []) parts

-- The names with these directories, each with its parents.
abbrev pub with_directories : List (Name × Node) → List Name → List (Name × Node)
with_directories names [] = names
with_directories names (name ∷ more) = with_directories (with_way names [] name) more

-- A path of a file, with its bytes.
abbrev pub FirstFile : Type 0
FirstFile = List ℕ × List ℕ

abbrev pub name_of : FirstFile → Name
name_of file = components file.0

-- Names with files, numbered from n on.
abbrev pub numbered_files : ℕ → List FirstFile → List (Name × Node)
numbered_files n [] = []
numbered_files n (file ∷ files) = (name_of file, node.File n) ∷ numbered_files (n + 1) files

-- The directories of these paths and all parents.
abbrev pub first_directories : List FirstFile → List (List ℕ) → List (Name × Node)
first_directories files dirs = with_directories [] (map components dirs ++ map (λ file. parent_of (name_of file)) files)

-- The tree of these files, each a path and its bytes, numbered in their order, of these directories, each a path, and
-- of the parents of all; nothing is open.
abbrev pub first_tree : List FirstFile → List (List ℕ) → FileTree
first_tree files dirs = record {
  names = first_directories files dirs ++ numbered_files 0 files;
  files =
      map (λ file. file.1) files;
  handles = [];
}

-- ---- The files and directories that a server may start with

-- True if the name is not the root, and none of its components is too long.
abbrev pub may_be_named : Name → Bool
may_be_named name = not (length name == 0) && list_all (λ part. nat_le (length part) MAX_COMPONENT_LEN) name

-- True if the file is within the limit of one file.
abbrev pub may_hold : FirstFile → Bool
may_hold file = nat_le (length file.1) MAX_FILE_LEN

-- True if the bytes of all files are within their limit.
abbrev pub may_hold_all : List FirstFile → Bool
may_hold_all files = nat_le (sum_by (λ file. length file.1) files) MAX_TOTAL_LEN

-- True if neither name is the same as the other or lies within it.
abbrev pub are_apart : Name → Name → Bool
are_apart a b = not (is_within a b || is_within b a)

-- True if no two of these names are the same.
abbrev pub differ : List Name → Bool
differ [] = true
differ (name ∷ names) = not (list_any (same_name name) names) && differ names

-- True if each two of these names are apart.
abbrev pub stand_apart : List Name → Bool
stand_apart [] = true
stand_apart (name ∷ names) = list_all (are_apart name) names && stand_apart names

-- True if no directory has a file's name, or lies within it.
abbrev pub leave_room : List Name → List Name → Bool
leave_room files dirs = list_all (λ file. not (list_any (is_within file) dirs)) files

-- True if a server may start with these files and directories. Names and files are within their bounds, no two files
-- and no two directories have one name, and no file has the name of a directory, or of a parent, of one of the others.
abbrev pub may_begin : List FirstFile → List (List ℕ) → Bool
may_begin files dirs =
    list_all may_hold files && may_hold_all files
    && list_all may_be_named (map name_of files) && list_all may_be_named (map components dirs)
    && differ (map components dirs) && stand_apart (map name_of files)
    && leave_room (map name_of files) (map components dirs)
