use Rattle.std.proofs.Common.{rules}
use Rattle.session_driver.specs.Ongoing.{run_state}
use Rattle.sftp_lanes.specs.Seen.{seen_of}
use Rattle.link_frames.proofs.Joining.{escaped}
use Rattle.sftp_view.proofs.ClosingLaws.{close_lost, closed_by, drain_stopped, drained_done, go_stopped}
use Rattle.sftp_view.proofs.close.close_session.Goals as goal

pub returns-in_err-let_go_lanes : goal.returns-in_err-let_go_lanes
returns-in_err-let_go_lanes g c =
    rw (escaped c.from_residual.result c.in_err-let_go_lanes.field-0.0 c.from_residual.ensures.1)
    (go_stopped (run_state (seen_of c.args.session.now) (g.L.LinkState.state c.args.link.now))
    (run_state (seen_of c.let_go_lanes.new.session) (g.L.LinkState.state c.let_go_lanes.new.link))
    c.in_err-let_go_lanes.field-0.0 c.in_err-let_go_lanes.ensures.ongoing)

pub returns-in_err-drain : goal.returns-in_err-drain
returns-in_err-drain g c =
    rw (escaped c.from_residual-in_err-drain.result c.in_err-drain.field-0.0 c.from_residual-in_err-drain.ensures.1)
    (drain_stopped (run_state (seen_of c.args.session.now) (g.L.LinkState.state c.args.link.now))
    (run_state (seen_of c.let_go_lanes.new.session) (g.L.LinkState.state c.let_go_lanes.new.link))
    (run_state (seen_of c.drain.new.session) (g.L.LinkState.state c.drain.new.link)) c.in_err-drain.field-0.0
    c.in_ok-let_go_lanes.ensures.ongoing
    c.in_err-drain.ensures.ongoing)

pub step_idly-requires-clause-done : goal.step_idly-requires-clause-done
step_idly-requires-clause-done g c =
    drained_done (run_state (seen_of c.args.session.now) (g.L.LinkState.state c.args.link.now))
    (run_state (seen_of c.let_go_lanes.new.session) (g.L.LinkState.state c.let_go_lanes.new.link))
    (run_state (seen_of c.drain.new.session) (g.L.LinkState.state c.drain.new.link)) c.requires
    c.in_ok-let_go_lanes.ensures.ongoing c.in_ok-drain.ensures.ongoing

pub returns-in-Ok : goal.returns-in-Ok
returns-in-Ok g c =
    closed_by (run_state (seen_of c.args.session.now) (g.L.LinkState.state c.args.link.now))
    (run_state (seen_of c.let_go_lanes.new.session) (g.L.LinkState.state c.let_go_lanes.new.link)) c.drain.new.session
    c.step_idly.new.session
    (g.L.LinkState.state c.drain.new.link) c.requires c.in_ok-let_go_lanes.ensures.ongoing c.in_ok-drain.ensures.ongoing
    (search rules)

pub returns-in-Err : goal.returns-in-Err
returns-in-Err g c =
    close_lost (run_state (seen_of c.args.session.now) (g.L.LinkState.state c.args.link.now))
    (run_state (seen_of c.let_go_lanes.new.session) (g.L.LinkState.state c.let_go_lanes.new.link)) c.drain.new.session
    c.step_idly.new.session
    (g.L.LinkState.state c.drain.new.link) c.in_ok-let_go_lanes.ensures.ongoing c.in_ok-drain.ensures.ongoing
    (search rules)
