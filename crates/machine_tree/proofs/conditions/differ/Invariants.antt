use Rattle.std.proofs.Common.{◌≡◌, length}
use Rattle.machine_model.specs.FirstTree.{differ}
use Rattle.machine_tree.proofs.conditions.differ.Given as goal

abbrev pub invariant-loop-rest : goal.invariant-loop-rest
invariant-loop-rest l = differ l.fn.names ≡ differ l.rest

abbrev pub decreases-loop-rest : goal.decreases-loop-rest
decreases-loop-rest l = length l.rest
