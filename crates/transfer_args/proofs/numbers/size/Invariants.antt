use Rattle.std.proofs.Common.{◌≡◌, ◌≤◌, length}
use Rattle.transfer_args.specs.Numbers.{size_behind}
use Rattle.transfer_args.proofs.numbers.size.Given as goal

abbrev pub invariant-loop-rest : goal.invariant-loop-rest
invariant-loop-rest l = record {
  small : l.number ≤ l.most;
  same : size_behind l.most 0 l.word ≡ size_behind l.most l.number l.rest;
}

abbrev pub decreases-loop-rest : goal.decreases-loop-rest
decreases-loop-rest l = length l.rest
