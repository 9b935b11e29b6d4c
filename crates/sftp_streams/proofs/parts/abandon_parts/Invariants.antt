use Rattle.std.proofs.Common.{deque_len}
use Rattle.sftp_streams.proofs.CancelLaws.{Abandoning}
use Rattle.sftp_streams.proofs.parts.abandon_parts.Given as goal

abbrev pub invariant-loop-part : goal.invariant-loop-part
invariant-loop-part l = Abandoning l.initial.core l.core l.initial.parts.items l.parts.items

abbrev pub decreases-loop-part : goal.decreases-loop-part
decreases-loop-part l = deque_len l.parts
