use Rattle.transfer_plan.specs.Walks.{NoFolder}
use Rattle.transfer_plan.proofs.walk.next_folder.Given as goal

abbrev pub invariant-loop-place : goal.invariant-loop-place
invariant-loop-place l = NoFolder l.found l.fn.at l.place
