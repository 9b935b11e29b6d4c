use Rattle.plan_model.proofs.AskedLaws.{asked_good}
use Rattle.plan_model.proofs.CallLaws.{next_good}
use Rattle.plan_model.proofs.laws.moves_are_good.Goals as goal

pub returns : goal.returns
returns c = record { asked = asked_good; ranged = next_good }
