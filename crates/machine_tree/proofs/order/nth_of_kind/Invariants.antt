use Rattle.std.proofs.Common.{◌≡◌, length}
use Rattle.machine_tree.specs.Places.{nth_of_kind}
use Rattle.machine_tree.proofs.order.nth_of_kind.Given as goal

abbrev pub invariant-loop-rest : goal.invariant-loop-rest
invariant-loop-rest l = nth_of_kind l.files l.pairs l.k ≡ nth_of_kind l.files l.rest l.left

abbrev pub decreases-loop-rest : goal.decreases-loop-rest
decreases-loop-rest l = length l.rest
