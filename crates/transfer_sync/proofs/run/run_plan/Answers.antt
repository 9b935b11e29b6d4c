use Rattle.std.proofs.Common.{rules}
use Rattle.transfer_sync.proofs.RunLaws.{did_all}
use Rattle.transfer_sync.specs.Runs.{RunsPlan}
use Rattle.transfer_sync.proofs.run.run_plan.Goals as goal

pub returns-clause-all_done : goal.returns-clause-all_done
returns-clause-all_done g c = λ e.
    let runs : RunsPlan g.H.Hand.done c.args.roots.now c.args.source.now.entries c.args.plan.now.actions.items
    c.args.run.now (g.H.Hand.history c.args.hand.now) (g.H.Hand.history c.carry_out-2.new.hand) c.if-all_done.result =
    search rules in
    did_all g.H.Hand.done c.args.roots.now c.args.source.now.entries c.args.plan.now.actions.items c.args.run.now _ _ _
    runs e
