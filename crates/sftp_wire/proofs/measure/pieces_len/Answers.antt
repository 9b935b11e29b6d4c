use Rattle.std.proofs.Common.{arith}
use Rattle.sftp_wire.proofs.Lengths.{joined_step, saturated_more}
use Rattle.sftp_wire.proofs.measure.pieces_len.Goals as goal

pub loop-piece-preserved : goal.loop-piece-preserved
loop-piece-preserved c =
    rw c.saturating_add-total.ensures (saturated_more _ _ _ _ _
    (joined_step _ _ _ c.loop-piece-test.true c.piece-item.is) c.loop-piece.invariant
    (omega (arith, c.len.ensures.value, c.len.ensures.bound)))
