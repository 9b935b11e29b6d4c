use Rattle.example_threads.proofs.Seats.{still_ready}
use Rattle.example_threads.proofs.calls.cancel.Goals as goal

pub returns-in-Ok : goal.returns-in-Ok
returns-in-Ok g c = still_ready _ c.args.seat.now c.cancel.new.seat c.cancel.ensures.own.0 c.cancel.ensures.own.2
    c.requires

pub returns-in-Err : goal.returns-in-Err
returns-in-Err g c = still_ready _ c.args.seat.now c.cancel.new.seat c.cancel.ensures.own.0 c.cancel.ensures.own.2
    c.requires
