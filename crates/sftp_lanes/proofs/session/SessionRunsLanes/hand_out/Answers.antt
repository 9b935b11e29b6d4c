use Rattle.std.proofs.lemmas.Result.{IfOk-weaker, on_err_weaker}
use Rattle.sftp_lanes.proofs.Shown.{failed_left, stays}
use Rattle.sftp_lanes.proofs.session.SessionRunsLanes.hand_out.Goals as goal

pub returns-clause-ok : goal.returns-clause-ok
returns-clause-ok c = IfOk-weaker c.hand_out_unsent.result _ _ (λ event g. g.did.hands)
    c.hand_out_unsent.ensures.hands_out

pub returns-clause-stays : goal.returns-clause-stays
returns-clause-stays c = IfOk-weaker c.hand_out_unsent.result _ _ (λ event g. stays _ _ _ g)
    c.hand_out_unsent.ensures.hands_out

pub returns-clause-work : goal.returns-clause-work
returns-clause-work c = IfOk-weaker c.hand_out_unsent.result _ _ (λ event g. g.did.work)
    c.hand_out_unsent.ensures.hands_out

pub returns-clause-left : goal.returns-clause-left
returns-clause-left c = on_err_weaker c.hand_out_unsent.result (λ f. failed_left _ _ f) c.hand_out_unsent.ensures.left
