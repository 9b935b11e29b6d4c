use Rattle.link_frames.proofs.Joining.{escaped}
use Rattle.sftp_client.proofs.HandleCalling.{file_opened, file_unopened, open_no_id}
use Rattle.sftp_client.proofs.sftp.Sftp.create.Goals as goal

pub returns-in_err-check_start : goal.returns-in_err-check_start
returns-in_err-check_start g c =
    rw (escaped c.from_residual.result c.in_err-check_start.field-0.0 c.from_residual.ensures.1)
    (open_no_id _ _ _ g.L.LinkState.state c.args.self.now c.in_err-check_start.field-0.0 c.in_err-check_start.ensures
    c.requires)

pub returns-in_err-call : goal.returns-in_err-call
returns-in_err-call g c =
    rw (escaped c.from_residual-in_err-call.result c.in_err-call.field-0.0 c.from_residual-in_err-call.ensures.1)
    (file_unopened _ _ g.L.LinkState.state c.args.self.now _ c.in_err-call.field-0.0 c.in_err-call.ensures
    c.in_ok-check_start.ensures.usable)

pub returns : goal.returns
returns g c =
    file_opened _ _ g.L.LinkState.state c.args.self.now _ _ c.in_ok-call.call c.finish.result
    c.in_ok-check_start.ensures.usable c.in_ok-call.ensures
    c.finish.ensures
