use Rattle.machine_model.proofs.FirstTrees.{first_is_tree}
use Rattle.machine_model.proofs.laws.first_trees_are_trees.Goals as goal

pub returns : goal.returns
returns c = first_is_tree
