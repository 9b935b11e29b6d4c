use Rattle.plan_model.proofs.AskedLaws.{asked_work}
use Rattle.plan_model.proofs.laws.calls_make_so_many_requests.Goals as goal

pub returns : goal.returns
returns c = asked_work
