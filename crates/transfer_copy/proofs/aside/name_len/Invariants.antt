use Rattle.std.proofs.Common.{◌≡◌, ◌≤◌, ◌+◌, length}
use Rattle.transfer_copy.specs.Asides.{name_len_from}
use Rattle.transfer_copy.proofs.aside.name_len.Given as goal

abbrev pub invariant-loop-rest : goal.invariant-loop-rest
invariant-loop-rest l = record {
  same : name_len_from l.len l.rest ≡ name_len_from 0 l.path;
  few : l.len + length l.rest ≤ length l.path;
}

abbrev pub decreases-loop-rest : goal.decreases-loop-rest
decreases-loop-rest l = length l.rest
