use Rattle.std.proofs.Common.{inl}
use Rattle.session_driver.proofs.Asking.{asked_stops}
use Rattle.link_frames.proofs.Joining.{escaped}
use Rattle.session_driver.proofs.opening.open.Goals as goal

pub returns-in_err-greet-clause-stops : goal.returns-in_err-greet-clause-stops
returns-in_err-greet-clause-stops g c =
    rw (escaped c.from_residual.result c.in_err-greet.field-0.0 c.from_residual.ensures.1)
    (inl c.in_err-greet.ensures.stops)

pub returns-in-true-clause-stops : goal.returns-in-true-clause-stops
returns-in-true-clause-stops g c =
    asked_stops (g.X.RunsLanes.seen c.args.session.now) (g.X.RunsLanes.seen c.greet.new.session)
    (g.X.RunsLanes.seen c.ask_limits.new.session) (g.L.LinkState.state c.args.link.now)
    (g.L.LinkState.state c.greet.new.link) (g.L.LinkState.state c.ask_limits.new.link) c.ask_limits.result
    c.in_ok-greet.ensures.welcomed.same c.in_ok-greet.ensures.log c.ask_limits.ensures.stops
