-- Worked examples of trees, each beside a case that nearly is one.
use Rattle.std.specs.Prelude.{ℕ, ◌≡◌, true, false, List, [], ◌∷◌, codes, Some, None, refl}
use Rattle.sftp_model.specs.declared.reply.NameEntry.{NameEntry}
use Rattle.sftp_model.specs.Frames.{no_attributes}
use Rattle.machine_model.specs.Components.{Name}
use Rattle.machine_model.specs.FileTree.{FileTree}
use Rattle.machine_model.specs.Trees.{IsTree, ListOnce}
use Rattle.machine_model.specs.declared.node.Node.{Node}
use Rattle.machine_model.specs.declared.node.Node.TheVariants as node

-- Files and directories by these names, and nothing else.
abbrev named : List (Name × Node) → FileTree
named names = record { names = names; files = [] ∷ []; handles = [] }

abbrev a : Name
a = codes "a" ∷ []

abbrev ab : Name
ab = codes "a" ∷ codes "b" ∷ []

pub nothing_is_a_tree : IsTree (named [])
nothing_is_a_tree = record { once = tt; rootless = refl; parents = refl }

-- A file in a directory; the parent need not come before it.
pub file_in_a_directory : IsTree (named ((ab, node.File 0) ∷ (a, node.Directory) ∷ []))
file_in_a_directory = record { once = (refl, (refl, tt)); rootless = refl; parents = refl }

-- A name twice.
pub twice_is_no_tree : IsTree (named ((a, node.Directory) ∷ (a, node.File 0) ∷ [])) → ⊥
twice_is_no_tree tree = absurd (let both : Some (node.File 0) ≡ None = tree.once.0 in cc)

-- The root among the names.
pub root_is_no_tree : IsTree (named (([], node.Directory) ∷ [])) → ⊥
root_is_no_tree tree = absurd (let both : Some node.Directory ≡ None = tree.rootless in cc)

-- A parent that is missing, and one that is a file.
pub next_due_is_no_tree : IsTree (named ((ab, node.File 0) ∷ [])) → ⊥
next_due_is_no_tree tree = absurd (let both : false ≡ true = tree.parents in cc)

pub in_a_file_is_no_tree : IsTree (named ((a, node.File 0) ∷ (ab, node.Directory) ∷ [])) → ⊥
in_a_file_is_no_tree tree = absurd (let both : false ≡ true = tree.parents in cc)

-- ---- Listings

abbrev entry : List ℕ → NameEntry
entry filename = record { filename = filename; longname = []; attrs = no_attributes }

pub two_filenames : ListOnce (entry (codes "a") ∷ entry (codes "ab") ∷ [])
two_filenames = (refl, (refl, tt))

pub filename_twice : ListOnce (entry (codes "a") ∷ entry (codes "b") ∷ entry (codes "a") ∷ []) → ⊥
filename_twice once = absurd (let both : true ≡ false = once.0 in cc)
