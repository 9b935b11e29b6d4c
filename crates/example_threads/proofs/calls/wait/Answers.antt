use Rattle.std.proofs.Common.{arith}
use Rattle.example_threads.proofs.Seats.{still_ready}
use Rattle.example_threads.proofs.calls.wait.Goals as goal

pub returns-in-Ok : goal.returns-in-Ok
returns-in-Ok g c =
    let same = c.poll_wait.ensures.own.2 in
    still_ready _ c.args.seat.now c.poll_wait.new.seat c.poll_wait.ensures.own.0 (omega (arith, same)) c.requires

pub returns-in-Err : goal.returns-in-Err
returns-in-Err g c =
    let same = c.poll_wait.ensures.own.2 in
    still_ready _ c.args.seat.now c.poll_wait.new.seat c.poll_wait.ensures.own.0 (omega (arith, same)) c.requires
