use Rattle.std.proofs.Common.{length}
use Rattle.std.specs.Prelude.{Some}
use Rattle.sftp_client.specs.Outgoing.{IsAt, unsent_from}
use Rattle.sftp_client.proofs.Sending.{SentSoFar}
use Rattle.sftp_client.proofs.outgoing.send_from.Given as goal

abbrev pub invariant-loop-piece : goal.invariant-loop-piece
invariant-loop-piece g l = record {
  at : IsAt (Some l.pieces) l.piece l.offset;
  so : SentSoFar (unsent_from (Some l.pieces) l.initial.piece l.initial.offset)
      (unsent_from (Some l.pieces) l.piece l.offset)
      (g.L.LinkState.state l.initial.link) (g.L.LinkState.state l.link);
}

abbrev pub decreases-loop-piece : goal.decreases-loop-piece
decreases-loop-piece g l = length (unsent_from (Some l.pieces) l.piece l.offset)
