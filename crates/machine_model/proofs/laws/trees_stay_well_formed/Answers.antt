use Rattle.machine_model.proofs.WellFormedLaws.{well_formed_after}
use Rattle.machine_model.proofs.laws.trees_stay_well_formed.Goals as goal

pub returns : goal.returns
returns c = well_formed_after
