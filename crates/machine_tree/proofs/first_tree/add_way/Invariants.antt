use Rattle.std.proofs.Common.{◌≡◌, ◌≤◌, ◌-◌, [], take, drop, length}
use Rattle.machine_model.specs.FirstTree.{with_way}
use Rattle.machine_tree.proofs.first_tree.add_way.Given as goal

-- what is still to be passed goes on from what was
abbrev pub invariant-loop-passed : goal.invariant-loop-passed
invariant-loop-passed l = (l.passed ≤ length l.fn.name) × (with_way l.names (take l.passed l.fn.name)
    (drop l.passed l.fn.name) ≡ with_way l.fn.names [] l.fn.name)

abbrev pub decreases-loop-passed : goal.decreases-loop-passed
decreases-loop-passed l = length l.fn.name - l.passed
