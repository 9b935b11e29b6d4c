use Rattle.link_frames.proofs.Joining.{escaped, same_caused}
use Rattle.sftp_lanes.specs.Complete.{StopsForMemory}
use Rattle.sftp_lanes.specs.Seen.{session_inputs, seen_of}
use Rattle.sftp_lanes.proofs.Reporting.{reported, reported_stops}
use Rattle.session_driver.specs.Session.{SessionInputs}
use Rattle.session_driver.specs.Logs.{EndsSession}
use Rattle.sftp_link.specs.Told.{IfLogged}
use Rattle.std.proofs.Common.{subst}
use Rattle.sftp_lanes.proofs.driver.run_lanes.Goals as goal

pub returns-in_err-run_session-clause-stops : goal.returns-in_err-run_session-clause-stops
returns-in_err-run_session-clause-stops g c =
    rw (escaped c.from_residual.result c.in_err-run_session.field-0.0 c.from_residual.ensures.1)
    (subst (λ (x : SessionInputs). IfLogged (EndsSession x c.args.schedule.now
    (g.L.LinkState.state c.run_session.new.link).ended
    c.in_err-run_session.field-0.0) (g.L.LinkState.state c.args.link.now).log
    (g.L.LinkState.state c.run_session.new.link).log) c.in-Ok.ensures.made_of c.in_err-run_session.ensures.stops)

pub returns-in_err-run_session-clause-caused : goal.returns-in_err-run_session-clause-caused
returns-in_err-run_session-clause-caused g c =
    rw (escaped c.from_residual.result c.in_err-run_session.field-0.0 c.from_residual.ensures.1)
    (same_caused _ _ c.in_err-run_session.field-0.0 c.in_err-run_session.ensures.caused)

pub returns-in-Err-into_report-clause-stops : goal.returns-in-Err-into_report-clause-stops
returns-in-Err-into_report-clause-stops g c =
    reported_stops _ (session_inputs c.args.lanes.now c.args.options.now) (seen_of c.run_session.new.session)
    c.args.schedule.now
    (g.L.LinkState.state c.run_session.new.link).ended
    (g.L.LinkState.state c.args.link.now).log (g.L.LinkState.state c.run_session.new.link).log c.in-Ok.ensures.made_of
    c.in_ok-run_session.ensures.run

pub returns-in-Ok-into_report-clause-run : goal.returns-in-Ok-into_report-clause-run
returns-in-Ok-into_report-clause-run g c =
    let told = c.in-Ok-into_report.ensures in
    reported _ c.args.lanes.now c.args.options.now (seen_of c.run_session.new.session) c.args.schedule.now
    (g.L.LinkState.state c.args.link.now).log (g.L.LinkState.state c.run_session.new.link).log
    c.in-Ok-into_report.report c.in-Ok.ensures.made_of c.in_ok-run_session.ensures.run told.hello told.trace
    told.outcomes

pub returns-in_err-run_session-clause-complete : goal.returns-in_err-run_session-clause-complete
returns-in_err-run_session-clause-complete g c =
    rw (escaped c.from_residual.result c.in_err-run_session.field-0.0 c.from_residual.ensures.1)
    (subst (λ (x : SessionInputs). StopsForMemory x (g.L.LinkState.state c.args.link.now)
    (g.L.LinkState.state c.run_session.new.link) c.in_err-run_session.field-0.0) c.in-Ok.ensures.made_of
    c.in_err-run_session.ensures.complete)
