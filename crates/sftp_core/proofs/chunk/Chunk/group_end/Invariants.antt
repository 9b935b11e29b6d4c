use Rattle.std.proofs.Common.{◌≤◌, ◌-◌, ℕ, length}
use Rattle.sftp_core.specs.Pieces.{IsPlace}
use Rattle.sftp_core.proofs.chunk.Chunk.group_end.Given as goal

abbrev pub invariant-loop-end : goal.invariant-loop-end
invariant-loop-end l = IsPlace l.self l.end × (l.start.frames ≤ l.end.frames)

abbrev pub decreases-loop-end : goal.decreases-loop-end
decreases-loop-end l = length l.self.counts - l.end.frames
