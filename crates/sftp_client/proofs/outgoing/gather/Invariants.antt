use Rattle.std.proofs.Common.{◌≡◌, ◌++◌, take}
use Rattle.sftp_model.specs.Pieces.{joined_pieces}
use Rattle.sftp_client.proofs.outgoing.gather.Given as goal

abbrev pub invariant-loop-piece : goal.invariant-loop-piece
invariant-loop-piece l = l.gathered.items ≡ l.first ++ joined_pieces (take l.piece-index l.later)
