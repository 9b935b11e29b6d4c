use Rattle.std.proofs.Common.{◌≡◌, ◌+◌, length}
use Rattle.plan_model.specs.BufferPlans.{pending_bytes}
use Rattle.plan_runner.proofs.buffer_write.pending_len.Given as goal

-- the bytes of the writes so far, and of those that are left
abbrev pub invariant-loop-rest : goal.invariant-loop-rest
invariant-loop-rest l = l.sum + pending_bytes l.rest ≡ pending_bytes l.writes

abbrev pub decreases-loop-rest : goal.decreases-loop-rest
decreases-loop-rest l = length l.rest
