use Rattle.std.proofs.Common.{◌≡◌, ◌++◌, drop}
use Rattle.std.specs.List.{flat_map}
use Rattle.mirror_jobs.specs.JobLanes.{calls_of, jobs_of_lane}
use Rattle.mirror_jobs.proofs.lanes.copy_lane.Given as goal

-- the calls of what is left complete those of all
abbrev pub invariant-loop-i : goal.invariant-loop-i
invariant-loop-i l = l.calls.items ++ flat_map calls_of (jobs_of_lane l.width l.k l.i (drop l.i l.jobs))
    ≡ flat_map calls_of (jobs_of_lane l.width l.k 0 l.jobs)
