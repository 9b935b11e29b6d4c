use Rattle.std.proofs.Common.{◌≡◌, length, take}
use Rattle.sftp_model.specs.Pieces.{joined_pieces}
use Rattle.sftp_wire.specs.Body.{saturated_length}
use Rattle.sftp_wire.proofs.measure.pieces_len.Given as goal

abbrev pub invariant-loop-piece : goal.invariant-loop-piece
invariant-loop-piece l = l.total ≡ saturated_length (length (joined_pieces (take l.piece-index l.pieces)))
