use Rattle.std.proofs.Common.{◌≡◌, ap, ◌∙◌, refl, sym}
use Rattle.plan_state.specs.declared.stage.Stage.TheVariants.{Asked}
use Rattle.plan_state.specs.Calls.{CallValue}
use Rattle.plan_state.proofs.Going.{sent_by}
use Rattle.plan_state.proofs.Grants.{asked_brings}
use Rattle.plan_state.proofs.Keeping.{submitted_holds, submitted_missing}
use Rattle.plan_state.proofs.OthersKept.{submitted_keeps, submitted_others}
use Rattle.plan_state.proofs.call.PendingCall.send.Goals as goal

pub returns-in-Ok-clause-went : goal.returns-in-Ok-clause-went
returns-in-Ok-clause-went g c = λ w plan answers b.
    sent_by g.M.PlanRunner.meaning w plan answers c.args.core.now c.submit.new.core c.args.self.now.runner c.args.asking
    c.in-Ok.ticket _ c.put.ensures
    (ap (λ (x : CallValue g.row.M.Denot). x.runner) c.self.view_is) b c.requires.asks.cut c.in-Ok.ensures.ok

pub returns-in-Ok-clause-leaves : goal.returns-in-Ok-clause-leaves
returns-in-Ok-clause-leaves g c = λ before none.
    let stands : c.put.new.self ≡ Asked c.in-Ok.ticket = c.put.ensures in
    record {
      held = rw stands (submitted_holds c.args.core.now c.submit.new.core c.args.asking c.in-Ok.ticket _
          c.in-Ok.ensures.ok
          (ap (λ (x : CallValue g.row.M.Denot). g.M.PlanRunner.meaning.expected x.runner) c.self.view_is
          ∙ c.requires.asks.expects));
      over = rw stands refl;
      awaits = (
        c.in-Ok.ticket,
        (
          stands,
          submitted_missing c.args.core.now c.submit.new.core c.args.asking
              c.in-Ok.ticket c.in-Ok.ensures.ok,
        ),
      );
      holds = tt;
      brings = asked_brings c.submit.new.core c.put.new.self c.in-Ok.ticket stands
          (submitted_missing c.args.core.now c.submit.new.core
          c.args.asking c.in-Ok.ticket c.in-Ok.ensures.ok) ∙ sym none;
      keeps = submitted_keeps c.args.core.now c.submit.new.core c.args.asking c.in-Ok.ticket c.in-Ok.ensures.ok;
      others = submitted_others c.args.core.now c.submit.new.core c.args.asking c.in-Ok.ticket before c.put.new.self
          c.in-Ok.ensures.ok stands;
      memory = tt;
    }
