-- Worked examples of the files and directories that a server may start with, and of its tree, each beside a case that
-- nearly is one.
use Rattle.std.specs.Prelude.{ℕ, ◌≡◌, Bool, true, false, List, [], ◌∷◌, ◌++◌, codes, Some, None, refl, replicate}
use Rattle.machine_model.specs.Components.{components}
use Rattle.machine_model.specs.FirstTree.{FirstFile, first_tree, may_begin}
use Rattle.machine_model.specs.Listing.{dir_at, file_at}
use Rattle.machine_model.specs.declared.node.Node.TheVariants as node

-- ---- Contents

-- Parents are added with their files and directories, each once; a file is numbered by its place.
pub makes_parents : (first_tree ((codes "b/c/x", codes "1") ∷ (codes "/y", codes "2") ∷ [])
    (codes "b/d" ∷ codes "b" ∷ [])).names
    ≡ (codes "b" ∷ [], node.Directory) ∷ (codes "b" ∷ codes "d" ∷ [], node.Directory) ∷
    (codes "b" ∷ codes "c" ∷ [], node.Directory)
    ∷ (codes "b" ∷ codes "c" ∷ codes "x" ∷ [], node.File 0) ∷ (codes "y" ∷ [], node.File 1) ∷ []
unfolding components
makes_parents = refl

-- In the order of the written names: `a-b` comes before `a/b`.
pub lists_by_written_names : file_at (first_tree ((codes "a/b", codes "1") ∷ (codes "a-b", codes "2") ∷ []) []) 0
    ≡ Some (codes "a-b", codes "2")
unfolding components
lists_by_written_names = refl

pub lists_parents : dir_at (first_tree ((codes "a/b", codes "1") ∷ []) []) 0 ≡ Some (codes "a")
unfolding components
lists_parents = refl

pub lists_no_root : dir_at (first_tree ((codes "b", codes "1") ∷ []) []) 0 ≡ None
unfolding components
lists_no_root = refl

-- ---- Conditions

abbrev files : List (List ℕ) → List FirstFile
files [] = []
files (path ∷ paths) = (path, []) ∷ files paths

-- The bounds of sizes hold. True if a server may start with these paths of files and of directories.
abbrev begins : List (List ℕ) → List (List ℕ) → Bool
begins paths dirs = may_begin (files paths) dirs

pub nothing_begins : begins [] [] ≡ true
nothing_begins = refl

pub parents_begin : begins (codes "a/b" ∷ codes "a/c" ∷ []) (codes "a" ∷ codes "a/d" ∷ []) ≡ true
unfolding components
parents_begin = refl

pub two_files_of_one_name : begins (codes "a" ∷ codes "/./a" ∷ []) [] ≡ false
unfolding components
two_files_of_one_name = refl

pub two_directories_of_one_name : begins [] (codes "a" ∷ codes "a/" ∷ []) ≡ false
unfolding components
two_directories_of_one_name = refl

pub file_and_directory_of_one_name : begins (codes "a" ∷ []) (codes "a" ∷ []) ≡ false
unfolding components
file_and_directory_of_one_name = refl

pub file_within_a_file : begins (codes "a" ∷ codes "a/b" ∷ []) [] ≡ false
unfolding components
file_within_a_file = refl

pub file_around_a_file : begins (codes "a/b" ∷ codes "a" ∷ []) [] ≡ false
unfolding components
file_around_a_file = refl

pub directory_within_a_file : begins (codes "a" ∷ []) (codes "a/b" ∷ []) ≡ false
unfolding components
directory_within_a_file = refl

-- `ab` is not within `a`.
pub names_by_components : begins (codes "a" ∷ codes "ab" ∷ []) [] ≡ true
unfolding components
names_by_components = refl

pub root_as_a_file : begins (codes "a/.." ∷ []) [] ≡ false
unfolding components
root_as_a_file = refl

pub root_as_a_directory : begins [] (codes "/" ∷ []) ≡ false
unfolding components
root_as_a_directory = refl

-- 255 bytes of a component, and 256.
pub greatest_component : begins [] (replicate 255 97 ∷ []) ≡ true
unfolding components
greatest_component = refl

pub component_too_long : begins [] (replicate 256 97 ∷ []) ≡ false
unfolding components
component_too_long = refl

pub parent_too_long : begins [] ((replicate 256 97 ++ codes "/b") ∷ []) ≡ false
unfolding components
parent_too_long = refl
