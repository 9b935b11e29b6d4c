use Rattle.std.proofs.Common.{rules, ◌<◌}
use Rattle.sftp_serve.specs.Logs.{MAX_FRAMES}
use Rattle.sftp_serve.proofs.Steps.{told_halted}
use Rattle.sftp_serve.proofs.engine.serve_frames.Goals as goal

pub returns-in-Err-clause-log : goal.returns-in-Err-clause-log
returns-in-Err-clause-log g c =
    let some : c.loop.counter < MAX_FRAMES = search rules in
    rw c.status.ensures (told_halted c.in-Err.stop c.args.server.now c.loop.server c.serve_frame.new.server
    c.loop.counter (g.L.LinkState.state c.serve_frame.new.link).ended _ _ _ some c.loop.invariant.served
    c.in-Err.ensures.served.log)
