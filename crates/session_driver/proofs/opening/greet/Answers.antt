use Rattle.std.proofs.Common.{◌∙◌, ap}
use Rattle.sftp_model.specs.Pieces.{joined_pieces}
use Rattle.session_driver.proofs.Greeting.{hello_fails, no_hello, shows_hello, version_fails, version_refused}
use Rattle.link_frames.proofs.Joining.{escaped}
use Rattle.session_driver.proofs.opening.greet.Goals as goal

pub returns-in-Err-clause-stops : goal.returns-in-Err-clause-stops
returns-in-Err-clause-stops g c = no_hello _ _ _ c.requires.fresh c.in-Err.ensures.left

pub returns-in_err-send_pieces-clause-stops : goal.returns-in_err-send_pieces-clause-stops
returns-in_err-send_pieces-clause-stops g c =
    rw (escaped c.from_residual.result c.in_err-send_pieces.field-0.0 c.from_residual.ensures.1)
    (hello_fails _ _ _ _ _ _ c.requires.fresh c.in-Ok.ensures.now
    (ap joined_pieces c.pieces.ensures ∙ c.in-Ok.ensures.ok)
    c.in_err-send_pieces.ensures)

pub returns-in_err-reader-clause-stops : goal.returns-in_err-reader-clause-stops
returns-in_err-reader-clause-stops g c =
    rw (escaped c.from_residual-in_err-reader.result c.in_err-reader.field-0.0 c.from_residual-in_err-reader.ensures.1)
    (rw c.give_back.ensures.same
    (version_fails _ (g.X.RunsLanes.seen c.greet.new.self) _ _ _ _ _ tt c.requires.fresh c.in-Ok.ensures.now
    (ap joined_pieces c.pieces.ensures ∙ c.in-Ok.ensures.ok) c.in_ok-send_pieces.ensures c.in_err-reader.ensures.stops
    c.in_err-reader.ensures.caused))

pub returns-clause-stops : goal.returns-clause-stops
returns-clause-stops g c =
    rw c.refused.ensures.error
    (version_refused _ (g.X.RunsLanes.seen c.greet.new.self) _ _ _ _ _ c.in-Some.body.now _ c.in-Err-take_version.e tt
    c.requires.fresh c.in-Ok.ensures.now (ap joined_pieces c.pieces.ensures ∙ c.in-Ok.ensures.ok)
    c.in_ok-send_pieces.ensures
    c.in_ok-reader.ensures.whole.prefix c.in-Some.ensures.spelled.0 c.in-Some.ensures.spelled.1
    c.in-Err-take_version.ensures.refused (rw c.give_back.ensures.same at c.in-Err-take_version.ensures.left)
    c.in_ok-reader.ensures.log)

pub returns-in-Ok-take_version-clause-log : goal.returns-in-Ok-take_version-clause-log
returns-in-Ok-take_version-clause-log g c =
    shows_hello _ c.in-Ok-take_version.asks (g.X.RunsLanes.seen c.take_version.new.self) _ c.in-Some.body.now
    c.in_ok-reader.reader.bytes (g.L.LinkState.state c.args.link.now).log (g.L.LinkState.state c.send_pieces.new.link).log
    (g.L.LinkState.state c.read_frame.new.link).log
    (ap joined_pieces c.pieces.ensures ∙ c.in-Ok.ensures.ok) c.in_ok-send_pieces.ensures.log
    c.in-Ok-take_version.ensures.ok c.in-Some.ensures.spelled.0 c.in-Some.ensures.spelled.1 c.in_ok-reader.ensures.log
