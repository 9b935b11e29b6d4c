use Rattle.plan_runner.proofs.Asking.{list_on}
use Rattle.plan_runner.proofs.whole.list_rest.Goals as goal

pub returns-clause-asks : goal.returns-clause-asks
returns-clause-asks c site = list_on c.args.place c.args.grant c.args.got c.args.bound site
