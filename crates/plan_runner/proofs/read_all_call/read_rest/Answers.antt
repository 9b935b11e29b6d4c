use Rattle.plan_runner.proofs.Asking.{read_on}
use Rattle.plan_runner.proofs.read_all_call.read_rest.Goals as goal

pub returns-clause-grants : goal.returns-clause-grants
returns-clause-grants c site opened has = read_on opened c.args.place c.args.slot c.args.left c.min-len.result
    c.args.file c.args.got site has
