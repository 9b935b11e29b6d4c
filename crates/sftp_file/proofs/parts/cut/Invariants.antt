use Rattle.std.proofs.Common.{◌≡◌, ◌-◌, length, drop, take}
use Rattle.sftp_model.specs.Pieces.{joined_pieces}
use Rattle.sftp_file.specs.Parts.{cut_at}
use Rattle.sftp_file.proofs.parts.cut.Given as goal

abbrev pub invariant-loop-piece : goal.invariant-loop-piece
invariant-loop-piece l =
    (l.parts.items ≡ cut_at l.from l.limit (take l.piece-index l.pieces))
    × (l.before ≡ l.from - length (joined_pieces (take l.piece-index l.pieces)))
    × (l.left ≡ l.limit - length (drop l.from (joined_pieces (take l.piece-index l.pieces))))
