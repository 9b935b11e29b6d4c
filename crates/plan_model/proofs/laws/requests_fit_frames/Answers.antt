use Rattle.plan_model.proofs.AskedLaws.{asked_fit}
use Rattle.plan_model.proofs.FitLaws.{requests_fit}
use Rattle.plan_model.proofs.laws.requests_fit_frames.Goals as goal

pub returns : goal.returns
returns c = record { asked = asked_fit; ranged = requests_fit }
