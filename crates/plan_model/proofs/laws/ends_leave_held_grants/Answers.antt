use Rattle.plan_model.proofs.CallLaws.{done_holds}
use Rattle.plan_model.proofs.laws.ends_leave_held_grants.Goals as goal

pub returns : goal.returns
returns c = done_holds
