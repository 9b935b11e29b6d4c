use Rattle.std.proofs.Common.{◌≡◌, ◌≤◌, length}
use Rattle.std.specs.Prelude.{reverse}
use Rattle.session_seats.specs.Wakes.{submitter}
use Rattle.session_seats.proofs.wakes.submitter.Given as goal

abbrev pub invariant-loop-left : goal.invariant-loop-left
invariant-loop-left l = (submitter l.fn.id (reverse l.left) ≡ submitter l.fn.id (reverse l.fn.journal))
    × (length l.left ≤ length l.fn.journal)

abbrev pub decreases-loop-left : goal.decreases-loop-left
decreases-loop-left l = length l.left
