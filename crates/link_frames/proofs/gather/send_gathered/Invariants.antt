use Rattle.std.proofs.Common.{Ok, take}
use Rattle.sftp_model.specs.Pieces.{joined_pieces}
use Rattle.link_frames.specs.Gathering.{GathersBytes}
use Rattle.link_frames.proofs.gather.send_gathered.Given as goal

-- the pieces so far were sent, but for what is gathered
abbrev pub invariant-loop-piece : goal.invariant-loop-piece
invariant-loop-piece g l = GathersBytes {T = Unit {0}} (joined_pieces (take l.piece-index l.pieces)) l.gathered.items
    (g.L.LinkState.state l.initial.link) (g.L.LinkState.state l.link) (Ok tt)
