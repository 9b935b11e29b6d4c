use Rattle.plan_runner.proofs.Asking.{close_asks}
use Rattle.plan_runner.proofs.close_call.close_grant.Goals as goal

pub returns-clause-grants : goal.returns-clause-grants
returns-clause-grants c old has = close_asks c.args.place c.args.grant old has
