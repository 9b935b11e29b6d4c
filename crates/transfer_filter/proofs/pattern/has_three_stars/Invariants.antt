use Rattle.std.proofs.Common.{◌≡◌, length}
use Rattle.transfer_filter.specs.Patterns.{has_three_stars}
use Rattle.transfer_filter.proofs.pattern.has_three_stars.Given as goal

abbrev pub invariant-loop-rest : goal.invariant-loop-rest
invariant-loop-rest l = has_three_stars l.rest ≡ has_three_stars l.bytes

abbrev pub decreases-loop-rest : goal.decreases-loop-rest
decreases-loop-rest l = length l.rest
