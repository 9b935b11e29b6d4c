use Rattle.session_model.proofs.CallsSoFar.{calls_so_far}
use Rattle.session_model.proofs.laws.calls_go_by_their_plans.Goals as goal

pub returns : goal.returns
returns c = calls_so_far
