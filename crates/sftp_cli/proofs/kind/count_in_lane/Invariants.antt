use Rattle.std.proofs.Common.{◌≡◌, ◌≤◌, take}
use Rattle.std.specs.List.{count_by}
use Rattle.sftp_cli.specs.Summary.{is_of}
use Rattle.sftp_cli.proofs.kind.count_in_lane.Given as goal

abbrev pub invariant-loop-outcome : goal.invariant-loop-outcome
invariant-loop-outcome l = record {
  so_far : l.count ≡ count_by (is_of l.kind) (take l.outcome-index l.outcomes);
  small : l.count ≤ l.outcome-index;
}
