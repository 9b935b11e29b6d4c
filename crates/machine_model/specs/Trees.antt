-- believed
-- Trees in which each name occurs once, and beneath a directory.
use Rattle.std.specs.Prelude.{◌≡◌, ℕ, Bool, true, false, List, [], ◌∷◌, None}
use Rattle.std.specs.List.{list_all, list_any}
use Rattle.std.specs.Str.{bytes_eq}
use Rattle.sftp_model.specs.declared.reply.NameEntry.{NameEntry}
use Rattle.machine_model.specs.Components.{Name, parent_of, same_name}
use Rattle.machine_model.specs.FileTree.{FileTree, value_at_key, is_directory, node_at}
use Rattle.machine_model.specs.declared.node.Node.{Node}

-- Each name occurs once: after a pair there is none with its name.
abbrev pub StandOnce : List (Name × Node) → Type 0
StandOnce [] = Unit {0}
StandOnce (pair ∷ pairs) = (value_at_key same_name pairs pair.0 ≡ None) × StandOnce pairs

-- The parent of this name is a directory.
abbrev pub has_parent : FileTree → Name × Node → Bool
has_parent tree pair = is_directory (node_at tree (parent_of pair.0))

-- Each name occurs once, none is the root's, and the parent of each is a directory.
pub record IsTree (tree : FileTree) : Type 0 where
  pub once : StandOnce tree.names
  pub rootless : value_at_key same_name tree.names [] ≡ None
  pub parents : list_all (has_parent tree) tree.names ≡ true

-- ---- Listings

-- True if an entry has the filename.
abbrev pub has_filename : List NameEntry → List ℕ → Bool
has_filename entries filename = list_any (λ e. bytes_eq e.filename filename) entries

-- Each filename occurs once: after an entry there is none with its filename.
abbrev pub ListOnce : List NameEntry → Type 0
ListOnce [] = Unit {0}
ListOnce (e ∷ entries) = (has_filename entries e.filename ≡ false) × ListOnce entries
