use Rattle.std.proofs.Common.{Ok}
use Rattle.session_driver.specs.Ongoing.{RunsPart, run_state}
use Rattle.session_driver.proofs.Rounds.{first_go}
use Rattle.session_driver.proofs.runs.let_go_lanes.Given as goal

abbrev pub invariant-loop-lane : goal.invariant-loop-lane
invariant-loop-lane g l = RunsPart (first_go l.lane) (run_state (g.X.RunsLanes.seen l.initial.session)
    (g.L.LinkState.state l.initial.link)) (run_state (g.X.RunsLanes.seen l.session) (g.L.LinkState.state l.link))
    (Ok tt)
