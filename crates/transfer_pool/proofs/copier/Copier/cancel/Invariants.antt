use Rattle.std.proofs.Common.{deque_len}
use Rattle.transfer_pool.proofs.TogetherLaws.{Cancelling}
use Rattle.transfer_pool.proofs.copier.Copier.cancel.Given as goal

abbrev pub invariant-loop-copy : goal.invariant-loop-copy
invariant-loop-copy g l = Cancelling l.initial.core l.core l.initial.running.items l.running.items

abbrev pub decreases-loop-copy : goal.decreases-loop-copy
decreases-loop-copy g l = deque_len l.running
