use Rattle.std.proofs.Common.{refl}
use Rattle.link_frames.proofs.Joining.{escaped}
use Rattle.sftp_client.proofs.FileCalling.{copy_called, copy_no_id, copy_refused}
use Rattle.sftp_client.proofs.sftp.Sftp.copy_all.Goals as goal

pub returns-in_err-check_start : goal.returns-in_err-check_start
returns-in_err-check_start g c =
    rw (escaped c.from_residual.result c.in_err-check_start.field-0.0 c.from_residual.ensures.1)
    (copy_no_id 0 g.L.LinkState.state c.args.from.now c.args.to.now c.args.self.now c.in_err-check_start.field-0.0
    c.in_err-check_start.ensures c.requires.source c.requires.target c.requires.usable)

pub returns-in_err-call : goal.returns-in_err-call
returns-in_err-call g c =
    rw (escaped c.from_residual-in_err-call.result c.in_err-call.field-0.0 c.from_residual-in_err-call.ensures.1)
    (copy_refused 0 g.L.LinkState.state c.args.from.now _ c.args.to.now c.args.self.now _ _ c.in_err-call.field-0.0
    c.in_err-call.ensures.left c.self.view_is c.in_err-call.ensures.starts refl c.requires.source c.requires.target
    c.in_ok-check_start.ensures.usable)

pub returns : goal.returns
returns g c =
    copy_called 0 g.L.LinkState.state c.args.from.now c.finish_copy.new.from c.args.to.now c.finish_copy.new.to
    c.args.self.now _ _ _ c.in_ok-call.call c.finish_copy.result c.in_ok-check_start.ensures.usable c.requires.source
    c.requires.target
    c.self.view_is c.in_ok-call.ensures.starts refl (rw (c.in_ok-call.ensures.left) at c.finish_copy.ensures)
