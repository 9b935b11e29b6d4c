use Rattle.std.proofs.Common.{rules}
use Rattle.plan_runner.proofs.Asking.{open_asks}
use Rattle.plan_runner.proofs.open_call.begin_open.Goals as goal

pub returns : goal.returns
returns c = record {
  goes = search rules;
  left = search rules;
  sound = search rules;
  pends = search rules;
  asks = open_asks c.args.turn.place c.args.slot c.flags-flags.result c.new-path.result c.args.site.now
      c.open_request-request.result c.open_request-request.ensures;
}
