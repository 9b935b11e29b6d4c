use Rattle.machine_model.proofs.StayingLaws.{tree_after}
use Rattle.machine_model.proofs.laws.trees_stay_trees.Goals as goal

pub returns : goal.returns
returns c = tree_after
