use Rattle.std.proofs.Common.{length}
use Rattle.sftp_buffered.proofs.file.TokioCompatFile.let_go.Given as goal

abbrev pub invariant-loop-ticket : goal.invariant-loop-ticket
invariant-loop-ticket l = Unit {0}

abbrev pub decreases-loop-ticket : goal.decreases-loop-ticket
decreases-loop-ticket l = length l.deferred.items
