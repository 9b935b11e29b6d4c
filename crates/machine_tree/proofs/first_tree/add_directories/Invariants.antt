use Rattle.std.proofs.Common.{◌≡◌, length}
use Rattle.machine_model.specs.FirstTree.{with_directories}
use Rattle.machine_tree.proofs.first_tree.add_directories.Given as goal

abbrev pub invariant-loop-rest : goal.invariant-loop-rest
invariant-loop-rest l = with_directories l.names l.rest ≡ with_directories l.fn.names l.fn.wanted

abbrev pub decreases-loop-rest : goal.decreases-loop-rest
decreases-loop-rest l = length l.rest
