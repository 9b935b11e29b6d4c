use Rattle.std.proofs.Common.{subst, inr, Bool}
use Rattle.sftp_tasks.specs.SessionEvents.{AddsIn}
use Rattle.sftp_tasks.proofs.locked.Locked.submit.Goals as goal

pub returns-in-Ok-clause-submits : goal.returns-in-Ok-clause-submits
returns-in-Ok-clause-submits c =
    let old = c.args.self.now.session in
    let mid = c.push_call.new.self.session in (
      mid,
      (
        subst (λ (b : Bool). AddsIn c.args.lane c.args.call old mid b) c.in-Ok-true.field-0-test
            c.in-Ok-true.ensures.adds,
        (c.in-Ok._event, c.in-Ok.ensures.steps),
      ),
    )

pub returns-in-Err-step-clause-submits : goal.returns-in-Err-step-clause-submits
returns-in-Err-step-clause-submits c =
    let old = c.args.self.now.session in
    let mid = c.push_call.new.self.session in
    inr (
      mid,
      (
        subst (λ (b : Bool). AddsIn c.args.lane c.args.call old mid b) c.in-Ok-true.field-0-test
            c.in-Ok-true.ensures.adds,
        c.in-Err-step.ensures.refused,
      ),
    )
