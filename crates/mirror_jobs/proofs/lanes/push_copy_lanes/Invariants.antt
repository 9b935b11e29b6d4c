use Rattle.std.proofs.Common.{◌≡◌, ◌++◌, ◌-◌}
use Rattle.mirror_jobs.specs.JobLanes.{copy_lanes}
use Rattle.mirror_jobs.proofs.lanes.push_copy_lanes.Given as goal

-- the lanes that are left complete all of them
abbrev pub invariant-loop-k : goal.invariant-loop-k
invariant-loop-k l = l.lanes.items ++ copy_lanes l.width l.jobs l.k (l.width - l.k) ≡ l.initial.lanes.items
    ++ copy_lanes l.width l.jobs 0 l.width
