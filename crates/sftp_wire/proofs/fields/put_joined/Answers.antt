use Rattle.std.proofs.Common.{◌∙◌, take, append_assoc}
use Rattle.sftp_model.specs.Pieces.{joined_pieces}
use Rattle.sftp_wire.proofs.Lengths.{joined_step}
use Rattle.sftp_wire.proofs.fields.put_joined.Goals as goal

pub loop-piece-preserved : goal.loop-piece-preserved
loop-piece-preserved c =
    rw (joined_step c.args.pieces.now c.loop-piece.piece-index c.piece-item.result c.loop-piece-test.true
    c.piece-item.is)
    (c.in_ok-put_raw.ensures.ok ∙ rw (c.as_slice.ensures, c.loop-piece.invariant)
    (append_assoc c.args.out.now.items (joined_pieces (take c.loop-piece.piece-index c.args.pieces.now))
    c.piece-item.result))
