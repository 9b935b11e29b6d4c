use Rattle.std.proofs.Common.{◌≤◌, ◌-◌, length, drop}
use Rattle.link_duplex.proofs.Putting.{PutSoFar}
use Rattle.link_duplex.proofs.write_behind.put_from.Given as goal

abbrev pub invariant-loop-passed : goal.invariant-loop-passed
invariant-loop-passed g l = record {
  within : l.passed ≤ length l.bytes;
  so : PutSoFar l.limit (drop l.initial.passed l.bytes) (drop l.passed l.bytes) l.initial.ahead l.ahead
      (g.W.Wire.state l.initial.wire) (g.W.Wire.state l.wire);
}

abbrev pub decreases-loop-passed : goal.decreases-loop-passed
decreases-loop-passed g l = length l.bytes - l.passed
