use Rattle.machine_model.proofs.FirstFits.{first_fits}
use Rattle.machine_model.proofs.laws.first_trees_are_fit.Goals as goal

pub returns : goal.returns
returns c = first_fits
