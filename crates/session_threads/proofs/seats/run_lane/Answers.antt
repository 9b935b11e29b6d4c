use Rattle.session_threads.proofs.RunLaws.{ran_on}
use Rattle.session_threads.specs.Running.{moves_none}
use Rattle.session_threads.proofs.seats.run_lane.Goals as goal

pub returns : goal.returns
returns g c = ran_on moves_none _ c.args.seat.now c.finish_lane.new.seat c.stop.new.seat c.finish_lane.ensures
    c.stop.ensures.ran
