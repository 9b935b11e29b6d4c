use Rattle.std.proofs.Common.{◌≡◌, length, take}
use Rattle.std.specs.List.{sum_by}
use Rattle.sftp_cli.specs.Summary.{capped_at_u64}
use Rattle.sftp_cli.proofs.summary.calls_ended.Given as goal

abbrev pub invariant-loop-outcomes : goal.invariant-loop-outcomes
invariant-loop-outcomes l = l.count ≡ capped_at_u64 (sum_by length (take l.outcomes-index l.lanes))
