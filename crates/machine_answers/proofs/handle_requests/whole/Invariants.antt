use Rattle.std.proofs.Common.{◌≡◌, ◌++◌, length}
use Rattle.sftp_model.specs.Pieces.{joined_pieces}
use Rattle.machine_answers.proofs.handle_requests.whole.Given as goal

abbrev pub invariant-loop-rest : goal.invariant-loop-rest
invariant-loop-rest l = l.bytes.items ++ joined_pieces l.rest ≡ joined_pieces l.fn.pieces

abbrev pub decreases-loop-rest : goal.decreases-loop-rest
decreases-loop-rest l = length l.rest
