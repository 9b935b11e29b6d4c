use Rattle.plan_model.proofs.CancelLaws.{cancelled_holds}
use Rattle.plan_model.proofs.laws.cancelled_calls_leave_held_grants.Goals as goal

pub returns : goal.returns
returns c = cancelled_holds
