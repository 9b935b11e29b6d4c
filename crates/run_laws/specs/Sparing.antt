-- The requests that leave a name, and the bytes of its file, unchanged.
use Rattle.std.specs.Prelude.{◌≡◌, ℕ, false, Some}
use Rattle.sftp_model.specs.declared.request.Request.{Request}
use Rattle.machine_model.specs.Changes.{DenotesName, MovesName, WritesTo}
use Rattle.machine_model.specs.Components.{Name, is_within}
use Rattle.machine_model.specs.FileTree.{FileTree, node_at}
use Rattle.machine_model.specs.declared.node.Node.TheVariants as node

-- The request neither creates nor removes the name's file or directory, nor truncates its file by its path. It moves no
-- name that this one lies within, nor moves one to there.
pub record AvoidsName (name : Name) (r : Request) : Type 0 where
  pub denotes : DenotesName r name → ⊥
  pub moves : (old to : Name) → MovesName r old to → (is_within old name ≡ false) × (is_within to name ≡ false)

-- The request avoids the name, and does not write to its file by a handle.
pub record SparesName (tree : FileTree) (name : Name) (r : Request) : Type 0 where
  pub avoids : AvoidsName name r
  pub writes : (file : ℕ) → node_at tree name ≡ Some (node.File file) → WritesTo tree r file → ⊥
