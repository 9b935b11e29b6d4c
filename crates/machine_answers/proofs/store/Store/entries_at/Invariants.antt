use Rattle.std.proofs.Common.{◌≡◌, ◌++◌, List, length}
use Rattle.std.specs.Prelude.{map, filter}
use Rattle.machine_model.specs.declared.node.Node.{Node}
use Rattle.machine_model.specs.Components.{Name, is_child}
use Rattle.machine_model.specs.NameRequests.{in_order, entry_of}
use Rattle.machine_answers.proofs.store.Store.entries_at.Given as goal

-- the entries of the names that were passed
abbrev pub invariant-loop-left : goal.invariant-loop-left
invariant-loop-left l = (passed : List (Name × Node)) × ((l.fn.self.tree.names ≡ l.left ++ passed)
    × (l.entries.items ≡ in_order (map (entry_of l.fn.self.tree) (filter (λ pair. is_child l.fn.name pair.0) passed))))

abbrev pub decreases-loop-left : goal.decreases-loop-left
decreases-loop-left l = length l.left
