use Rattle.std.proofs.Common.{◌≡◌, take}
use Rattle.sftp_cli.specs.Summary.{count_in}
use Rattle.sftp_cli.proofs.kind.count_in.Given as goal

abbrev pub invariant-loop-outcomes : goal.invariant-loop-outcomes
invariant-loop-outcomes l = l.count ≡ count_in l.kind (take l.outcomes-index l.lanes)
