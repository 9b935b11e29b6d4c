use Rattle.example_threads.proofs.Seats.{still_ready}
use Rattle.example_threads.proofs.calls.submit.Goals as goal

pub returns-in-Ok-true : goal.returns-in-Ok-true
returns-in-Ok-true g c = still_ready _ c.args.seat.now c.submit.new.seat c.submit.ensures.own.0 c.submit.ensures.own.2
    c.requires

pub returns-in-Ok-false : goal.returns-in-Ok-false
returns-in-Ok-false g c = still_ready _ c.args.seat.now c.submit.new.seat c.submit.ensures.own.0 c.submit.ensures.own.2
    c.requires

pub returns-in-Err : goal.returns-in-Err
returns-in-Err g c = still_ready _ c.args.seat.now c.submit.new.seat c.submit.ensures.own.0 c.submit.ensures.own.2
    c.requires
