use Rattle.std.proofs.Common.{◌≡◌, sum}
use Rattle.ssh_encoding.proofs.sums.AnyCheckedSumUsize.checked_sum.Given as goal

abbrev pub invariant-loop-n : goal.invariant-loop-n
invariant-loop-n g l = l.total ≡ sum l.yielded
