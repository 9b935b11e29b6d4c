use Rattle.std.proofs.Common.{◌∙◌, arith}
use Rattle.std.proofs.lemmas.List.{take_all, take_more}
use Rattle.link_frames.proofs.Joining.{escaped}
use Rattle.link_frames.proofs.Gathered.{gathers_all, pieces_gathered, pieces_unsent, sends_last, still_counts}
use Rattle.link_frames.proofs.gather.send_gathered.Goals as goal

pub loop-piece-init : goal.loop-piece-init
loop-piece-init g c = gathers_all _ _ _ (search)

pub put_piece-requires : goal.put_piece-requires
put_piece-requires g c = still_counts c.requires c.loop-piece.invariant

pub returns-in_err-put_piece : goal.returns-in_err-put_piece
returns-in_err-put_piece g c =
    rw (escaped c.from_residual.result c.in_err-put_piece.field-0.0 c.from_residual.ensures.1)
    (pieces_unsent c.args.pieces.now c.loop-piece.piece-index _
    (take_more c.args.pieces.now c.loop-piece.piece-index _ c.loop-piece-test.true) c.loop-piece.invariant
    (rw (c.deref.ensures ∙ c.piece-item.is) at c.in_err-put_piece.ensures))

pub loop-piece-preserved : goal.loop-piece-preserved
loop-piece-preserved g c =
    pieces_gathered c.args.pieces.now c.loop-piece.piece-index _
    (take_more c.args.pieces.now c.loop-piece.piece-index _ c.loop-piece-test.true) c.loop-piece.invariant
    (rw (c.deref.ensures ∙ c.piece-item.is) at c.in_ok-put_piece.ensures)

pub flush_gathered-requires : goal.flush_gathered-requires
flush_gathered-requires g c = still_counts c.requires c.loop-piece.invariant

pub returns : goal.returns
returns g c = sends_last c.args.pieces.now c.loop-piece.piece-index
    (take_all c.loop-piece.piece-index c.args.pieces.now (omega (arith, c.loop-piece-test.false)))
    c.loop-piece.invariant c.flush_gathered.ensures.sent
