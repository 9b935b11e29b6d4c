use Rattle.plan_runner.proofs.OwnLaws.{own_leaves}
use Rattle.plan_runner.proofs.laws.own_calls_leave_their_site.Goals as goal

pub returns : goal.returns
returns c = own_leaves
