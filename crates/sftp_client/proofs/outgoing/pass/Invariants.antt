use Rattle.std.proofs.Common.{◌≡◌, ◌≤◌, drop, length}
use Rattle.std.specs.Prelude.{Some}
use Rattle.sftp_client.specs.Outgoing.{IsAt, unsent_from}
use Rattle.sftp_client.proofs.outgoing.pass.Given as goal

abbrev pub invariant-loop-left : goal.invariant-loop-left
invariant-loop-left l = record {
  at : IsAt (Some l.pieces) l.piece l.offset;
  passed : drop l.left (unsent_from (Some l.pieces) l.piece l.offset)
      ≡ drop l.sent (unsent_from (Some l.pieces) l.initial.piece l.initial.offset);
  within : l.left ≤ length (unsent_from (Some l.pieces) l.piece l.offset);
}

abbrev pub decreases-loop-left : goal.decreases-loop-left
decreases-loop-left l = l.left
