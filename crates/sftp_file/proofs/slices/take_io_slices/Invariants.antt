use Rattle.std.proofs.Common.{◌≡◌, ◌+◌, length, take}
use Rattle.sftp_model.specs.Pieces.{joined_pieces}
use Rattle.sftp_file.proofs.slices.take_io_slices.Given as goal

abbrev pub invariant-loop-piece : goal.invariant-loop-piece
invariant-loop-piece l =
    (l.whole ≡ l.piece-index) × (length (joined_pieces (take l.piece-index l.bufs)) + l.left ≡ l.limit)
