use Rattle.std.proofs.Common.{◌≡◌, ◌^◌, min, take}
use Rattle.std.specs.List.{sum_by}
use Rattle.plan_model.specs.Lanes.{lane_weight}
use Rattle.plan_model.proofs.lanes.weight_of_lanes.Given as goal

-- the weight of the lanes so far
abbrev pub invariant-loop-lane : goal.invariant-loop-lane
invariant-loop-lane l = l.total ≡ min (sum_by lane_weight (take l.lane-index l.lanes)) (2 ^ 31)
