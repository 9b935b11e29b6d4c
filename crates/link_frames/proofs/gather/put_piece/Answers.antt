use Rattle.link_frames.proofs.Joining.{escaped}
use Rattle.link_frames.proofs.Gathered.{gathers_next, gathers_less}
use Rattle.link_frames.proofs.gather.put_piece.Goals as goal

pub returns-in_err-flush_gathered : goal.returns-in_err-flush_gathered
returns-in_err-flush_gathered g c =
    rw (escaped c.from_residual.result c.in_err-flush_gathered.field-0.0 c.from_residual.ensures.1)
    (gathers_less c.args.gathered.now.items c.args.piece.now c.flush_gathered.new.gathered.items _ _ _
    c.in_err-flush_gathered.ensures.sent)

pub returns : goal.returns
returns g c = gathers_next c.in_ok-flush_gathered.ensures.sent c.send_or_gather.ensures
