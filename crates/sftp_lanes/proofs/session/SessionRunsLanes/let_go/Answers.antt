use Rattle.std.proofs.lemmas.Result.{IfOk-weaker, on_err_weaker}
use Rattle.sftp_lanes.proofs.Shown.{failed_left, opened_let_go, stays}
use Rattle.sftp_lanes.proofs.session.SessionRunsLanes.let_go.Goals as goal

pub returns-clause-ok : goal.returns-clause-ok
returns-clause-ok c = IfOk-weaker c.let_go.result _ _ (λ event g. g.did.lets_go)
    (opened_let_go c.let_go.result c.args.lane c.args.self.now c.let_go.new.self c.requires.open
    c.let_go.ensures.lets_go)

pub returns-clause-goes : goal.returns-clause-goes
returns-clause-goes c = IfOk-weaker c.let_go.result _ _ (λ event g. record
    { stays = stays _ _ _ g; later = g.did.later }) (opened_let_go c.let_go.result c.args.lane c.args.self.now
    c.let_go.new.self c.requires.open c.let_go.ensures.lets_go)

pub returns-clause-left : goal.returns-clause-left
returns-clause-left c = on_err_weaker c.let_go.result (λ f. failed_left _ _ f) c.let_go.ensures.left
