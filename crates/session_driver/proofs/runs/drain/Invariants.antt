use Rattle.std.proofs.Common.{Ok}
use Rattle.session_driver.specs.Ongoing.{RunsPart, run_state}
use Rattle.session_driver.proofs.Rounds.{some_drains}
use Rattle.session_driver.proofs.runs.drain.Given as goal

abbrev pub invariant-loop-alloc : goal.invariant-loop-alloc
invariant-loop-alloc g l = RunsPart some_drains (run_state (g.X.RunsLanes.seen l.initial.session)
    (g.L.LinkState.state l.initial.link)) (run_state (g.X.RunsLanes.seen l.session) (g.L.LinkState.state l.link))
    (Ok tt)

abbrev pub decreases-loop-alloc : goal.decreases-loop-alloc
decreases-loop-alloc g l = (g.X.RunsLanes.seen l.session).work
