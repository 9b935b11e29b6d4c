use Rattle.std.proofs.lemmas.Result.{IfOk-weaker, on_err_weaker}
use Rattle.sftp_lanes.proofs.Shown.{failed_left, opened_step, stays}
use Rattle.sftp_lanes.proofs.session.SessionRunsLanes.step.Goals as goal

pub returns-clause-ok : goal.returns-clause-ok
returns-clause-ok c = IfOk-weaker c.step.result _ _ (λ event g. g.did.steps)
    (opened_step c.step.result c.args.lane c.args.self.now c.step.new.self c.requires.open c.step.ensures.steps)

pub returns-clause-goes : goal.returns-clause-goes
returns-clause-goes c = IfOk-weaker c.step.result _ _ (λ event g. record { stays = stays _ _ _ g; later = g.did.later })
    (opened_step c.step.result c.args.lane c.args.self.now c.step.new.self c.requires.open c.step.ensures.steps)

pub returns-clause-work : goal.returns-clause-work
returns-clause-work c = IfOk-weaker c.step.result _ _ (λ event g. g.did.less)
    (opened_step c.step.result c.args.lane c.args.self.now c.step.new.self c.requires.open c.step.ensures.steps)

pub returns-clause-waits : goal.returns-clause-waits
returns-clause-waits c = IfOk-weaker c.step.result _ _ (λ event g. g.did.waits)
    (opened_step c.step.result c.args.lane c.args.self.now c.step.new.self c.requires.open c.step.ensures.steps)

pub returns-clause-left : goal.returns-clause-left
returns-clause-left c = on_err_weaker c.step.result (λ f. failed_left _ _ f) c.step.ensures.left
