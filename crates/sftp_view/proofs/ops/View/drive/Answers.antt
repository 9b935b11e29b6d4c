use Rattle.std.proofs.Common.{refl}
use Rattle.session_driver.specs.Ongoing.{run_state}
use Rattle.sftp_lanes.specs.Seen.{seen_of}
use Rattle.link_frames.proofs.Joining.{escaped}
use Rattle.sftp_view.proofs.ViewLaws.{close_stopped, may_all, unopened, view_done, view_stopped}
use Rattle.sftp_view.proofs.ops.View.drive.Goals as goal

pub returns-in_err-open : goal.returns-in_err-open
returns-in_err-open g c =
    rw (escaped c.from_residual.result c.in_err-open.field-0.0 c.from_residual.ensures.1)
    (unopened c.args.self.now.block c.args.self.now.cache.capacity c.args.ops.now
    (run_state (seen_of c.args.self.now.session) (g.L.LinkState.state c.args.link.now))
    (run_state (seen_of c.open.new.session) (g.L.LinkState.state c.open.new.link)) c.args.self.now.cache.kept
    c.in_err-open.field-0.0 c.in_err-open.ensures.stops
    c.in_err-open.ensures.caused)

pub run_all-requires : goal.run_all-requires
run_all-requires g c =
    may_all (seen_of c.args.self.now.session).given c.args.ops.now c.args.self.now _
    (g.L.LinkState.state c.args.link.now) (g.L.LinkState.state c.open.new.link)
    c.in_ok-open.field-0 c.requires.count c.in_ok-open.ensures.opened c.requires.lanes c.in_ok-open.ensures.caused refl
    refl c.requires.empty c.requires.may

pub returns-in_err-answers : goal.returns-in_err-answers
returns-in_err-answers g c =
    rw (escaped c.from_residual-in_err-answers.result c.in_err-answers.field-0.0
    c.from_residual-in_err-answers.ensures.1)
    (view_stopped c.args.self.now.block c.args.self.now.cache.capacity c.args.ops.now
    (run_state (seen_of c.args.self.now.session) (g.L.LinkState.state c.args.link.now))
    (run_state (seen_of c.open.new.session) (g.L.LinkState.state c.open.new.link))
    (run_state (seen_of c.run_all.new.self.session) (g.L.LinkState.state c.run_all.new.link))
    c.run_all.new.self.cache.kept c.in_err-answers.field-0.0 c.in_ok-open.ensures.opened c.in_ok-open.ensures.log
    c.in_ok-open.ensures.caused
    c.in_err-answers.ensures.runs.ongoing)

pub returns-in_err-close_session : goal.returns-in_err-close_session
returns-in_err-close_session g c =
    rw (escaped c.from_residual-in_err-close_session.result c.in_err-close_session.field-0.0
    c.from_residual-in_err-close_session.ensures.1)
    (close_stopped c.args.self.now.block c.args.self.now.cache.capacity c.args.ops.now
    (run_state (seen_of c.args.self.now.session) (g.L.LinkState.state c.args.link.now))
    (run_state (seen_of c.open.new.session) (g.L.LinkState.state c.open.new.link))
    (run_state (seen_of c.run_all.new.self.session) (g.L.LinkState.state c.run_all.new.link))
    (run_state (seen_of c.close_session.new.session) (g.L.LinkState.state c.close_session.new.link))
    c.run_all.new.self.cache.kept c.in_err-close_session.field-0.0
    c.in_ok-open.ensures.opened c.in_ok-open.ensures.log c.in_ok-open.ensures.caused
    c.in_ok-answers.ensures.runs.ongoing c.in_err-close_session.ensures)

pub returns : goal.returns
returns g c =
    view_done c.args.ops.now (run_state (seen_of c.args.self.now.session) (g.L.LinkState.state c.args.link.now)) _
    c.run_all.new.self
    (run_state (seen_of c.close_session.new.session) (g.L.LinkState.state c.close_session.new.link))
    (g.L.LinkState.state c.open.new.link)
    (g.L.LinkState.state c.run_all.new.link) c.in_ok-answers.answers c.in_ok-open.ensures.opened c.requires.lanes
    c.in_ok-open.ensures.log
    c.in_ok-open.ensures.caused c.requires.empty c.in_ok-answers.ensures c.in_ok-close_session.ensures c.requires.may
