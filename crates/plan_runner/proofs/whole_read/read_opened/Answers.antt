use Rattle.std.proofs.Common.{rules, subst}
use Rattle.std.specs.Prelude.{IfOk}
use Rattle.plan_window.specs.Windows.{Window}
use Rattle.plan_runner.specs.Asking.{ReadsOn}
use Rattle.plan_runner.proofs.WindowReplies.{opened_goes}
use Rattle.plan_runner.proofs.whole_read.read_opened.Goals as goal

pub returns-in-Handle : goal.returns-in-Handle
returns-in-Handle c bytes = let on = c.read_on.ensures bytes in record {
  goes = rw c.in-Handle.is (opened_goes c.args.grant c.args.bound c.new.result
      c.in-Handle._handle c.args.turn.place bytes c.args.site.now c.args.turn.facts c.read_on.result c.new.ensures.is
      on.goes);
  left = search rules;
  sound = search rules;
  pends = search rules;
  asks = search rules;
  reads = subst (λ (w : Window). IfOk c.read_on.result
      (ReadsOn c.args.turn.place w.waiting c.args.turn.facts)) c.new.ensures.is on.reads;
}
