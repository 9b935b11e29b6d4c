use Rattle.session_driver.specs.Ongoing.{run_state}
use Rattle.sftp_lanes.specs.Seen.{session_inputs, seen_of}
use Rattle.link_frames.proofs.Joining.{escaped}
use Rattle.sftp_view.specs.Doings.{one_lane}
use Rattle.sftp_view.proofs.MemoryLaws.{stops_for_memory}
use Rattle.sftp_view.proofs.ViewLaws.{may_new, stops_as_given}
use Rattle.sftp_view.proofs.run.run_view.Goals as goal

pub drive-requires-clause-may : goal.drive-requires-clause-may
drive-requires-clause-may g c =
    may_new c.args.block c.args.capacity c.args.ops.now c.args.options.now c.in-Ok.view c.in-Ok.ensures c.requires.may

pub returns-in_err-answers-clause-stops : goal.returns-in_err-answers-clause-stops
returns-in_err-answers-clause-stops g c =
    rw (escaped c.from_residual.result c.in_err-answers.field-0.0 c.from_residual.ensures.1)
    (stops_as_given (run_state (seen_of c.in-Ok.view.session) (g.L.LinkState.state c.args.link.now))
    (run_state (seen_of c.drive.new.self.session) (g.L.LinkState.state c.drive.new.link))
    c.in_err-answers.field-0.0 (session_inputs one_lane c.args.options.now) c.in-Ok.ensures.session.made_of
    c.in_err-answers.ensures.left)

pub returns-in_err-answers-clause-complete : goal.returns-in_err-answers-clause-complete
returns-in_err-answers-clause-complete g c =
    rw (escaped c.from_residual.result c.in_err-answers.field-0.0 c.from_residual.ensures.1)
    (stops_for_memory (session_inputs one_lane c.args.options.now) (g.L.LinkState.state c.args.link.now)
    (g.L.LinkState.state c.drive.new.link)
    c.in_err-answers.field-0.0
    (stops_as_given (run_state (seen_of c.in-Ok.view.session) (g.L.LinkState.state c.args.link.now))
    (run_state (seen_of c.drive.new.self.session) (g.L.LinkState.state c.drive.new.link))
    c.in_err-answers.field-0.0 (session_inputs one_lane c.args.options.now) c.in-Ok.ensures.session.made_of
    c.in_err-answers.ensures.left)
    c.in_err-answers.ensures.caused)
