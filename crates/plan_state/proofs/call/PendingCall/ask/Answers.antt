use Rattle.std.proofs.Common.{refl}
use Rattle.plan_state.proofs.Keeping.{submitted_holds}
use Rattle.plan_state.proofs.OthersKept.{submitted_keeps}
use Rattle.plan_state.proofs.call.PendingCall.ask.Goals as goal

pub returns-in-Ok-clause-begins : goal.returns-in-Ok-clause-begins
returns-in-Ok-clause-begins g c =
    record {
      under_way = record {
        over = refl;
        held = submitted_holds c.args.core.now c.submit.new.core c.args.asking c.in-Ok.ticket
            (g.M.PlanRunner.meaning.expected c.args.runner)
            c.in-Ok.ensures.ok c.requires.asks.expects;
      };
      runner = refl;
      ticket = c.in-Ok.ticket;
      awaits = refl;
      submitted = c.in-Ok.ensures.ok;
    }

pub returns-in-Ok-clause-keeps : goal.returns-in-Ok-clause-keeps
returns-in-Ok-clause-keeps g c = submitted_keeps c.args.core.now c.submit.new.core c.args.asking c.in-Ok.ticket
    c.in-Ok.ensures.ok
