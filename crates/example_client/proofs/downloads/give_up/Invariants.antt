use Rattle.std.proofs.Common.{deque_len}
use Rattle.example_client.specs.Downloads.{AreReadsHeld}
use Rattle.example_client.proofs.downloads.give_up.Given as goal

abbrev pub invariant-loop-reading : goal.invariant-loop-reading
invariant-loop-reading g l = AreReadsHeld l.sftp.core l.reads.items

abbrev pub decreases-loop-reading : goal.decreases-loop-reading
decreases-loop-reading g l = deque_len l.reads
