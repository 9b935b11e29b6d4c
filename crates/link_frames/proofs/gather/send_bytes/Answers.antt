use Rattle.link_frames.proofs.Gathered.{bytes_sent, bytes_unsent}
use Rattle.link_frames.proofs.gather.send_bytes.Goals as goal

pub returns-in-Ok : goal.returns-in-Ok
returns-in-Ok g c = bytes_sent c.args.bytes.now _ _ tt c.in-Ok.ensures.log c.in-Ok.ensures.cause c.in-Ok.ensures.same

pub returns-in-Err : goal.returns-in-Err
returns-in-Err g c = rw c.fault.ensures (bytes_unsent c.args.bytes.now _ _ c.in-Err.e c.in-Err.ensures.log
    c.in-Err.ensures.cause c.in-Err.ensures.same)
