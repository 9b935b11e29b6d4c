use Rattle.std.proofs.Common.{◌∙◌, ap}
use Rattle.sftp_model.specs.Pieces.{joined_pieces}
use Rattle.session_driver.specs.Ongoing.{MayAsk}
use Rattle.session_driver.specs.Session.{SessionView}
use Rattle.session_driver.proofs.Asking.{ask_here, limits_fail, limits_open, limits_refused, query_fails}
use Rattle.session_driver.proofs.Joining.{stopped_here}
use Rattle.link_frames.proofs.Joining.{escaped}
use Rattle.session_driver.proofs.Stopping.{keeps_on, keeps_sent, keeps_told}
use Rattle.session_driver.proofs.opening.ask_limits.Goals as goal

pub returns-in-Err-clause-stops : goal.returns-in-Err-clause-stops
returns-in-Err-clause-stops g c = stopped_here (MayAsk (g.X.RunsLanes.seen c.args.session.now)) _ _ _
    (ask_here (g.X.RunsLanes.seen c.args.session.now) c.requires.welcomed) c.in-Err.ensures.left

pub returns-in_err-send_pieces-clause-stops : goal.returns-in_err-send_pieces-clause-stops
returns-in_err-send_pieces-clause-stops g c =
    rw (escaped c.from_residual.result c.in_err-send_pieces.field-0.0 c.from_residual.ensures.1)
    (query_fails _ _ _ _ _ _ c.requires.welcomed c.in-Ok.ensures.now
    (ap joined_pieces c.pieces.ensures ∙ c.in-Ok.ensures.ok)
    c.in_err-send_pieces.ensures)

pub returns-in_err-reader-clause-stops : goal.returns-in_err-reader-clause-stops
returns-in_err-reader-clause-stops g c =
    rw (escaped c.from_residual-in_err-reader.result c.in_err-reader.field-0.0 c.from_residual-in_err-reader.ensures.1)
    (rw c.give_back.ensures.same
    (limits_fail _ (g.X.RunsLanes.seen c.query.new.self) _ _ _ _ _ tt c.requires.welcomed c.in-Ok.ensures.now
    c.in-Ok.ensures.later
    (ap joined_pieces c.pieces.ensures ∙ c.in-Ok.ensures.ok) c.in_ok-send_pieces.ensures c.in_err-reader.ensures.stops
    c.in_err-reader.ensures.caused))

pub returns-in-Ok-take_limits-clause-opens : goal.returns-in-Ok-take_limits-clause-opens
returns-in-Ok-take_limits-clause-opens g c = limits_open _ (g.X.RunsLanes.seen c.args.session.now) _ _
    (g.X.RunsLanes.seen c.query.new.self).work c.requires.welcomed (c.give_back.ensures.same ∙ c.in-Ok.ensures.now)
    c.in-Ok-take_limits.ensures.ok c.in-Ok-take_limits.ensures.given c.in-Ok-take_limits.ensures.version

pub returns-in-Ok-take_limits-clause-log : goal.returns-in-Ok-take_limits-clause-log
returns-in-Ok-take_limits-clause-log g c =
    keeps_on (g.X.RunsLanes.seen c.args.session.now).progress.past (g.X.RunsLanes.seen c.query.new.self).progress.past
    (g.X.RunsLanes.seen c.take_limits.new.self).progress.past (g.L.LinkState.state c.args.link.now).log
    (g.L.LinkState.state c.send_pieces.new.link).log (g.L.LinkState.state c.read_frame.new.link).log
    (keeps_sent (g.X.RunsLanes.seen c.args.session.now).progress.past
    (g.X.RunsLanes.seen c.query.new.self).progress.past _
    (g.L.LinkState.state c.args.link.now).log (g.L.LinkState.state c.send_pieces.new.link).log
    (ap (λ (w : SessionView). w.progress.past) c.in-Ok.ensures.now)
    (ap joined_pieces c.pieces.ensures ∙ c.in-Ok.ensures.ok)
    c.in_ok-send_pieces.ensures.log)
    (keeps_told (g.X.RunsLanes.seen c.query.new.self).progress.past
    (g.X.RunsLanes.seen c.take_limits.new.self).progress.past
    c.in-Some.body.now c.in_ok-reader.reader.bytes (g.L.LinkState.state c.send_pieces.new.link).log
    (g.L.LinkState.state c.read_frame.new.link).log (rw c.give_back.ensures.same at
    c.in-Ok-take_limits.ensures.ok.tells) c.in-Some.ensures.spelled.0 c.in-Some.ensures.spelled.1
    c.in_ok-reader.ensures.log)

pub returns-clause-stops : goal.returns-clause-stops
returns-clause-stops g c =
    rw c.refused.ensures.error
    (limits_refused _ (g.X.RunsLanes.seen c.query.new.self) _ _ _ _ _ c.in-Some.body.now _ c.in-Err-take_limits.e tt
    c.requires.welcomed c.in-Ok.ensures.now c.in-Ok.ensures.later
    (ap joined_pieces c.pieces.ensures ∙ c.in-Ok.ensures.ok)
    c.in_ok-send_pieces.ensures c.in_ok-reader.ensures.whole.prefix c.in-Some.ensures.spelled.0
    c.in-Some.ensures.spelled.1 (rw c.give_back.ensures.same at c.in-Err-take_limits.ensures.refused)
    (rw c.give_back.ensures.same at c.in-Err-take_limits.ensures.left) c.in_ok-reader.ensures.log)
