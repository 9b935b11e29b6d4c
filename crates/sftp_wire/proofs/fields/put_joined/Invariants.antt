use Rattle.std.proofs.Common.{◌≡◌, ◌++◌, take}
use Rattle.sftp_model.specs.Pieces.{joined_pieces}
use Rattle.sftp_wire.proofs.fields.put_joined.Given as goal

abbrev pub invariant-loop-piece : goal.invariant-loop-piece
invariant-loop-piece l = l.out.items ≡ l.initial.out.items ++ joined_pieces (take l.piece-index l.pieces)
