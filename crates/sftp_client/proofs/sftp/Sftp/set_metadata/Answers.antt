use Rattle.std.proofs.Common.{refl}
use Rattle.sftp_file.specs.Settles.{settle_meaning}
use Rattle.sftp_fs.specs.SettingPlans.{set_attrs_next}
use Rattle.link_frames.proofs.Joining.{escaped}
use Rattle.sftp_client.proofs.Calling.{path_called, path_no_id, path_refused}
use Rattle.sftp_client.proofs.sftp.Sftp.set_metadata.Goals as goal

pub returns-in_err-check_start : goal.returns-in_err-check_start
returns-in_err-check_start g c =
    rw (escaped c.from_residual.result c.in_err-check_start.field-0.0 c.from_residual.ensures.1)
    (path_no_id settle_meaning (set_attrs_next c.args.path.now c.args.metadata) g.L.LinkState.state
    c.args.self.now c.in_err-check_start.field-0.0 c.in_err-check_start.ensures c.requires)

pub returns-in_err-call : goal.returns-in_err-call
returns-in_err-call g c =
    rw (escaped c.from_residual-in_err-call.result c.in_err-call.field-0.0 c.from_residual-in_err-call.ensures.1)
    (path_refused _ _ g.L.LinkState.state c.args.self.now _ _ c.in_err-call.field-0.0 c.self.view_is
    (rw (c.fs.ensures) at c.in_err-call.ensures) refl c.in_ok-check_start.ensures.usable)

pub returns : goal.returns
returns g c =
    path_called _ _ g.L.LinkState.state c.args.self.now _ _ _ c.in_ok-call.call c.finish.result
    c.in_ok-check_start.ensures.usable
    c.self.view_is (rw (c.fs.ensures) at c.in_ok-call.ensures) refl c.finish.ensures
