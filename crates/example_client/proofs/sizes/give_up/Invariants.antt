use Rattle.std.proofs.Common.{deque_len}
use Rattle.example_client.specs.Sizes.{AreCallsAwaited}
use Rattle.example_client.proofs.sizes.give_up.Given as goal

abbrev pub invariant-loop-call : goal.invariant-loop-call
invariant-loop-call g l = AreCallsAwaited l.sftp.core l.calls.items

abbrev pub decreases-loop-call : goal.decreases-loop-call
decreases-loop-call g l = deque_len l.calls
