use Rattle.machine_model.proofs.FitLaws.{fit_after}
use Rattle.machine_model.proofs.laws.trees_stay_fit.Goals as goal

pub returns : goal.returns
returns c = fit_after
