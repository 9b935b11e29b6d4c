use Rattle.std.proofs.Common.{◌≡◌}
use Rattle.std.specs.Prelude.{take}
use Rattle.session_work.proofs.lanes.copies_of.Given as goal

abbrev pub invariant-loop-lane : goal.invariant-loop-lane
invariant-loop-lane l = l.copies.items ≡ take l.lane-index l.lanes
