use Rattle.std.proofs.Common.{rules}
use Rattle.plan_runner.proofs.Asking.{write_on}
use Rattle.plan_runner.proofs.write_call.write_rest.Goals as goal

pub returns-clause-asks : goal.returns-clause-asks
returns-clause-asks c = record {
  offset = search rules;
  grants = λ site opened has. write_on opened c.args.turn.place c.args.slot c.args.file c.args.done
      c.in_ok-content_of.field-0 site has;
}
