use Rattle.plan_runner.proofs.LeftLaws.{left_came}
use Rattle.plan_runner.proofs.laws.cancelled_calls_leave_by_awaited_replies.Goals as goal

pub returns : goal.returns
returns c = left_came
