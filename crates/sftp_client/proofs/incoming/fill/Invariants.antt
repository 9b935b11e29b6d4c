use Rattle.std.proofs.Common.{◌≤◌, ◌-◌, ◌≡◌, length, take}
use Rattle.sftp_client.proofs.Getting.{FilledSoFar}
use Rattle.sftp_client.proofs.incoming.fill.Given as goal

abbrev pub invariant-loop-filled : goal.invariant-loop-filled
invariant-loop-filled g l = record {
  within : l.filled ≤ length l.room;
  same : length l.room ≡ length l.initial.room;
  so : FilledSoFar (take l.initial.filled l.initial.room) (take l.filled l.room) (g.L.LinkState.state l.initial.link)
      (g.L.LinkState.state l.link);
}

abbrev pub decreases-loop-filled : goal.decreases-loop-filled
decreases-loop-filled g l = length l.room - l.filled
