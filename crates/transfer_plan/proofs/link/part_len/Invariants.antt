use Rattle.std.proofs.Common.{◌≢◌, ◌<◌, ℕ, get_or}
use Rattle.sftp_model.specs.Paths.{slash}
use Rattle.transfer_plan.proofs.link.part_len.Given as goal

abbrev pub invariant-loop-at : goal.invariant-loop-at
invariant-loop-at l = (k : ℕ) → k < l.at → get_or l.names k 0 ≢ slash
