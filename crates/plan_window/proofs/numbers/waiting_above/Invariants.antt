use Rattle.std.proofs.Common.{◌≡◌, length}
use Rattle.plan_window.specs.PlainSteps.{waiting_above, least_by, least_of}
use Rattle.plan_window.proofs.numbers.waiting_above.Given as goal

-- the least so far, and that of the READs that are left
abbrev pub invariant-loop-rest : goal.invariant-loop-rest
invariant-loop-rest l = least_of l.least (least_by (waiting_above l.p) l.rest) ≡ least_by (waiting_above l.p) l.waiting

abbrev pub decreases-loop-rest : goal.decreases-loop-rest
decreases-loop-rest l = length l.rest
