use Rattle.plan_model.proofs.AskedLaws.{asked_may}
use Rattle.plan_model.proofs.CallLaws.{asks_good}
use Rattle.plan_model.proofs.laws.requests_may_be_asked.Goals as goal

pub returns : goal.returns
returns c = record { asked = asked_may; ranged = asks_good }
