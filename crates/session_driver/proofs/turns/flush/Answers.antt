use Rattle.std.proofs.Common.{refl, ap}
use Rattle.sftp_model.specs.Pieces.{joined_pieces}
use Rattle.session_driver.specs.Ongoing.{flush_part}
use Rattle.session_driver.proofs.Joining.{no_memory}
use Rattle.link_frames.proofs.Joining.{escaped}
use Rattle.session_driver.proofs.Parts.{flush_none, flush_sent, flush_unsent}
use Rattle.session_driver.proofs.turns.flush.Goals as goal

pub returns-in-Ok-None-clause-ongoing : goal.returns-in-Ok-None-clause-ongoing
returns-in-Ok-None-clause-ongoing g c = flush_none _ _ _ tt (rw c.in-Ok-None.field-0-is at c.in-Ok-None.ensures.ok)
    c.in-Ok-None.ensures.stays c.requires.ready

pub returns-in-Err-clause-ongoing : goal.returns-in-Err-clause-ongoing
returns-in-Err-clause-ongoing g c = no_memory flush_part _ _ _ refl c.in-Err.ensures.left

pub returns-in_err-send_pieces-clause-ongoing : goal.returns-in_err-send_pieces-clause-ongoing
returns-in_err-send_pieces-clause-ongoing g c =
    rw (escaped c.from_residual.result c.in_err-send_pieces.field-0.0 c.from_residual.ensures.1)
    (flush_unsent _ (g.X.RunsLanes.seen c.hand_out.new.self) _ _ _ _ _
    (rw c.in-Ok-Some.field-0-is at c.in-Ok-Some.ensures.ok) c.in-Ok-Some.ensures.stays
    (ap joined_pieces c.pieces.ensures)
    c.in_err-send_pieces.ensures)

pub returns-clause-ongoing : goal.returns-clause-ongoing
returns-clause-ongoing g c =
    flush_sent _ (g.X.RunsLanes.seen c.hand_out.new.self) _ _ _ _ _ tt tt c.requires.ready
    (rw c.in-Ok-Some.field-0-is at c.in-Ok-Some.ensures.ok) c.in-Ok-Some.ensures.stays c.give_back.ensures.same
    (ap joined_pieces c.pieces.ensures) c.in_ok-send_pieces.ensures
