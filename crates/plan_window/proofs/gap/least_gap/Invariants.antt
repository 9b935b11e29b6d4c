use Rattle.std.proofs.Common.{◌≡◌, length}
use Rattle.plan_window.specs.PlainSteps.{least_by, least_of}
use Rattle.plan_window.specs.Tallies.{gap_below}
use Rattle.plan_window.proofs.gap.least_gap.Given as goal

-- the least so far, and that of the offsets that are left
abbrev pub invariant-loop-rest : goal.invariant-loop-rest
invariant-loop-rest l = least_of l.least (least_by (gap_below l.waiting l.limit) l.rest)
    ≡ least_by (gap_below l.waiting l.limit) l.free

abbrev pub decreases-loop-rest : goal.decreases-loop-rest
decreases-loop-rest l = length l.rest
