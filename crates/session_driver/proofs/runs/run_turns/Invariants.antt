use Rattle.std.proofs.Common.{Ok}
use Rattle.session_driver.specs.Ongoing.{RunsPart, run_state}
use Rattle.session_driver.proofs.Rounds.{first_turns}
use Rattle.session_driver.proofs.runs.run_turns.Given as goal

abbrev pub invariant-loop-turn : goal.invariant-loop-turn
invariant-loop-turn g l = RunsPart (first_turns l.schedule l.turn-index)
    (run_state (g.X.RunsLanes.seen l.initial.session) (g.L.LinkState.state l.initial.link))
    (run_state (g.X.RunsLanes.seen l.session) (g.L.LinkState.state l.link)) (Ok tt)
