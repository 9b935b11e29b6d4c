use Rattle.std.proofs.Common.{◌≡◌, ◌≤◌, ◌-◌, ◌++◌, take, drop, length}
use Rattle.machine_model.specs.Components.{same_name}
use Rattle.machine_model.specs.FileTree.{without_key}
use Rattle.machine_tree.proofs.lookups.name_index.Given as goal

-- the key is none of those that were passed
abbrev pub invariant-loop-index : goal.invariant-loop-index
invariant-loop-index l = (l.index ≤ length l.pairs) × (without_key same_name l.pairs l.fn.name ≡ take l.index l.pairs
    ++ without_key same_name (drop l.index l.pairs) l.fn.name)

abbrev pub decreases-loop-index : goal.decreases-loop-index
decreases-loop-index l = length l.pairs - l.index
