-- Where the bytes of a file are dropped, all else stays.
use Rattle.std.proofs.Common.{◌≡◌, ℕ, Bool, true, false, [], ◌∷◌, Option, Some, None, if◌then◌else◌, refl, ap}
use Rattle.machine_model.specs.declared.node.Node.TheVariants as node
use Rattle.machine_model.proofs.NameLaws.{names_tell}
use Rattle.machine_model.proofs.PairLaws.{found_has}
use Rattle.machine_model.specs.Components.{Name, same_name}
use Rattle.machine_model.specs.FileTree.{FileTree, after_loss, value_at_key, is_file_in_use, node_at, with_bytes}
use Rattle.machine_model.specs.Pairs.{HasEntry}
use Rattle.machine_model.specs.declared.node.Node.{Node}

-- ---- where bytes are dropped, all else stays

pub loss_names : (tree : FileTree) (file : ℕ) → (after_loss tree file).names ≡ tree.names
loss_names tree file = by_test (is_file_in_use tree file)
  where
    by_test : (b : Bool) → (let w : FileTree = if b then tree else with_bytes tree file [] in w).names ≡ tree.names
    by_test true = refl
    by_test false = refl

pub loss_handles : (tree : FileTree) (file : ℕ) → (after_loss tree file).handles ≡ tree.handles
loss_handles tree file = by_test (is_file_in_use tree file)
  where
    by_test : (b : Bool) → (let w : FileTree = if b then tree else with_bytes tree file [] in w).handles ≡ tree.handles
    by_test true = refl
    by_test false = refl

-- ---- what a name has

pub found_at : (tree : FileTree) (name : Name) (file : ℕ) → node_at tree name ≡ Some (node.File file)
    → value_at_key same_name tree.names name ≡ Some (node.File file)
found_at tree [] file e = absurd (let k : is_root (Some node.Directory) ≡ is_root (Some (node.File file)) = ap is_root e
    in cc)
  where
    is_root : Option Node → Bool
    is_root None = false
    is_root (Some node.Directory) = true
    is_root (Some (node.File file)) = false
found_at tree (part ∷ parts) file e = e

pub name_has : (tree : FileTree) (name : Name) (file : ℕ) → node_at tree name ≡ Some (node.File file)
    → HasEntry tree.names (name, node.File file)
name_has tree name file e = found_has same_name names_tell tree.names name (node.File file) (found_at tree name file e)
