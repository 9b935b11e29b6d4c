use Rattle.machine_model.proofs.FirstFiles.{first_well_formed}
use Rattle.machine_model.proofs.laws.first_trees_are_well_formed.Goals as goal

pub returns : goal.returns
returns c = first_well_formed
