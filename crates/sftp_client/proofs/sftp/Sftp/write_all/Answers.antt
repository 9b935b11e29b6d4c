use Rattle.std.proofs.Common.{refl}
use Rattle.link_frames.proofs.Joining.{escaped}
use Rattle.sftp_client.proofs.FileCalling.{file_called, file_no_id, file_refused}
use Rattle.sftp_client.proofs.sftp.Sftp.write_all.Goals as goal

pub returns-in_err-check_start : goal.returns-in_err-check_start
returns-in_err-check_start g c =
    rw (escaped c.from_residual.result c.in_err-check_start.field-0.0 c.from_residual.ensures.1)
    (file_no_id _ _ _ _ g.L.LinkState.state c.args.file.now c.args.self.now c.in_err-check_start.field-0.0
    c.in_err-check_start.ensures
    c.requires.held c.requires.usable)

pub returns-in_err-call : goal.returns-in_err-call
returns-in_err-call g c =
    rw (escaped c.from_residual-in_err-call.result c.in_err-call.field-0.0 c.from_residual-in_err-call.ensures.1)
    (file_refused _ _ _ _ g.L.LinkState.state c.args.file.now _ c.args.self.now _ _ c.in_err-call.field-0.0
    c.in_err-call.ensures.left c.self.view_is c.in_err-call.ensures.starts refl c.requires.held
    c.in_ok-check_start.ensures.usable)

pub returns : goal.returns
returns g c =
    file_called _ _ _ _ g.L.LinkState.state c.args.file.now c.finish_on.new.file c.args.self.now _ _ _ c.in_ok-call.call
    c.finish_on.result c.in_ok-check_start.ensures.usable c.requires.held c.self.view_is c.in_ok-call.ensures.starts
    refl
    (rw (c.in_ok-call.ensures.left) at c.finish_on.ensures)
