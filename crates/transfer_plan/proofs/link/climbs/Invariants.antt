use Rattle.std.proofs.Common.{◌≡◌, ◌≤◌, ◌+◌, Some, length}
use Rattle.machine_model.specs.Components.{parts_of}
use Rattle.transfer_plan.specs.Links.{climbs}
use Rattle.transfer_plan.proofs.link.climbs.Given as goal

abbrev pub invariant-loop-depth : goal.invariant-loop-depth
invariant-loop-depth l = record {
  same : climbs (Some l.here) (parts_of l.rest) ≡ climbs (Some l.fn.depth) (parts_of l.fn.names);
  few : l.here + length l.rest ≤ l.fn.depth + length l.fn.names;
}

abbrev pub decreases-loop-depth : goal.decreases-loop-depth
decreases-loop-depth l = length l.rest
