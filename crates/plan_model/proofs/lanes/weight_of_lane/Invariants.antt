use Rattle.std.proofs.Common.{◌≡◌, ◌+◌, ◌^◌, min, take}
use Rattle.std.specs.List.{sum_by}
use Rattle.plan_model.specs.Lanes.{weight}
use Rattle.plan_model.proofs.lanes.weight_of_lane.Given as goal

-- the weight of the calls so far
abbrev pub invariant-loop-call : goal.invariant-loop-call
invariant-loop-call l = l.total ≡ min (1 + sum_by weight (take l.call-index l.call-items)) (2 ^ 31)
