use Rattle.std.proofs.Common.{◌≡◌, max, length}
use Rattle.plan_window.specs.Windows.{AreInRange}
use Rattle.plan_window.specs.PlainSteps.{greatest_by, read_end}
use Rattle.plan_window.proofs.numbers.waiting_reach.Given as goal

-- the greatest so far, and that of the READs that are left
abbrev pub invariant-loop-rest : goal.invariant-loop-rest
invariant-loop-rest l = (max l.greatest (greatest_by read_end l.rest) ≡ greatest_by read_end l.waiting)
    × AreInRange l.rest

abbrev pub decreases-loop-rest : goal.decreases-loop-rest
decreases-loop-rest l = length l.rest
