use Rattle.std.proofs.Common.{false, if◌then◌else◌}
use Rattle.std.specs.Prelude.{reverse}
use Rattle.sftp_cli.proofs.Linked.{run_stopped}
use Rattle.sftp_cli.proofs.script.FormLinkProgram.reply_over.Goals as goal

pub returns-in-Err : goal.returns-in-Err
returns-in-Err g c =
    let link = c.run_lanes.new.link in
    run_stopped c.args.script.now c.as_slice-lanes.result.now c.as_slice.result.now c.args.link.now.pieces
    (reverse link.pieces) (g.L.LinkState.state c.args.link.now.link).faults (g.L.LinkState.state link.link).faults
    (if link.starved then false else (g.L.LinkState.state link.link).ended) c.in-Err.error c.stop_reply.result
    c.as_slice-lanes.ensures c.as_slice.ensures c.requires.quiet c.requires.unfailed c.in-Err.ensures.stops
    c.in-Err.ensures.caused.cause c.in-Err.ensures.caused.end c.stop_reply.ensures
