use Rattle.std.proofs.lemmas.Result.{IfOk-weaker, on_err_weaker}
use Rattle.sftp_lanes.proofs.Shown.{failed_left, opened_cancel, stays}
use Rattle.sftp_lanes.proofs.session.SessionRunsLanes.cancel.Goals as goal

pub returns-clause-ok : goal.returns-clause-ok
returns-clause-ok c = IfOk-weaker c.cancel.result _ _ (λ event g. g.did.cancels)
    (opened_cancel c.cancel.result c.args.lane c.args.self.now c.cancel.new.self c.requires.open
    c.cancel.ensures.cancels)

pub returns-clause-goes : goal.returns-clause-goes
returns-clause-goes c = IfOk-weaker c.cancel.result _ _ (λ event g. record
    { stays = stays _ _ _ g; later = g.did.later }) (opened_cancel c.cancel.result c.args.lane c.args.self.now
    c.cancel.new.self c.requires.open c.cancel.ensures.cancels)

pub returns-clause-left : goal.returns-clause-left
returns-clause-left c = on_err_weaker c.cancel.result (λ f. failed_left _ _ f) c.cancel.ensures.left
