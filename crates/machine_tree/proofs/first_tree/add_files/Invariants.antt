use Rattle.std.proofs.Common.{◌≡◌, ◌+◌, ◌++◌, length}
use Rattle.machine_model.specs.FirstTree.{numbered_files}
use Rattle.machine_tree.proofs.first_tree.add_files.Given as goal

abbrev pub invariant-loop-rest : goal.invariant-loop-rest
invariant-loop-rest l = (l.names ++ numbered_files l.number l.rest ≡ l.fn.names ++ numbered_files 0 l.fn.files)
    × (l.number + length l.rest ≡ length l.fn.files)

abbrev pub decreases-loop-rest : goal.decreases-loop-rest
decreases-loop-rest l = length l.rest
