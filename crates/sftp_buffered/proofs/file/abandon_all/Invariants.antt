use Rattle.std.proofs.Common.{length}
use Rattle.sftp_buffered.proofs.Abandoning.{DropsSoFar}
use Rattle.sftp_buffered.proofs.file.abandon_all.Given as goal

abbrev pub invariant-loop-ticket : goal.invariant-loop-ticket
invariant-loop-ticket l = DropsSoFar l.fn.core l.fn.deferred.items l.core l.deferred.items

abbrev pub decreases-loop-ticket : goal.decreases-loop-ticket
decreases-loop-ticket l = length l.deferred.items
