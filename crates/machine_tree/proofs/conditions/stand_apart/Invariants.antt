use Rattle.std.proofs.Common.{◌≡◌, length}
use Rattle.machine_model.specs.FirstTree.{stand_apart}
use Rattle.machine_tree.proofs.conditions.stand_apart.Given as goal

abbrev pub invariant-loop-rest : goal.invariant-loop-rest
invariant-loop-rest l = stand_apart l.fn.names ≡ stand_apart l.rest

abbrev pub decreases-loop-rest : goal.decreases-loop-rest
decreases-loop-rest l = length l.rest
