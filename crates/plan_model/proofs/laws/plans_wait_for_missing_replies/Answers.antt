use Rattle.plan_model.proofs.CallLaws.{waits_missing}
use Rattle.plan_model.proofs.laws.plans_wait_for_missing_replies.Goals as goal

pub returns : goal.returns
returns c = waits_missing
