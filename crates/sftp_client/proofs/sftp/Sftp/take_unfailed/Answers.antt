use Rattle.std.proofs.Common.{◌<◌, rules}
use Rattle.link_frames.proofs.Joining.{escaped}
use Rattle.sftp_core.specs.Core.{awaited_of}
use Rattle.sftp_client.proofs.Taking.{none_after, took_after}
use Rattle.sftp_client.proofs.sftp.Sftp.take_unfailed.Goals as goal

pub returns-in_err-take_frame : goal.returns-in_err-take_frame
returns-in_err-take_frame g c =
    let due : 0 < awaited_of c.send_rest.new.self.core = search rules in
    rw (escaped c.from_residual-in_err-take_frame.result c.in_err-take_frame.field-0.0
    c.from_residual-in_err-take_frame.ensures.1)
    (none_after g.L.LinkState.state c.args.self.now c.send_rest.new.self c.take_frame.new.self
    c.in_err-take_frame.field-0.0
    c.in_ok-send_rest.ensures due c.in_err-take_frame.ensures)

pub returns : goal.returns
returns g c =
    let due : 0 < awaited_of c.send_rest.new.self.core = search rules in
    took_after g.L.LinkState.state c.args.self.now c.send_rest.new.self c.take_frame.new.self c.in_ok-take_frame.field-0
    c.in_ok-send_rest.ensures due c.in_ok-take_frame.ensures
