use Rattle.std.proofs.Common.{length}
use Rattle.sftp_buffered.proofs.Flushing.{SettlesSoFar}
use Rattle.sftp_buffered.proofs.file.TokioCompatFile.settle.Given as goal

abbrev pub invariant-loop-self : goal.invariant-loop-self
invariant-loop-self l = SettlesSoFar l.fn.core l.fn.self l.core l.self

abbrev pub decreases-loop-self : goal.decreases-loop-self
decreases-loop-self l = length l.self.deferred
