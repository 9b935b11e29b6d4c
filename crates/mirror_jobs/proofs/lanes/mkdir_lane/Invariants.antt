use Rattle.std.proofs.Common.{◌≡◌, take}
use Rattle.std.specs.Prelude.{map}
use Rattle.mirror_jobs.specs.JobLanes.{mkdir_call}
use Rattle.mirror_jobs.proofs.lanes.mkdir_lane.Given as goal

abbrev pub invariant-loop-directory : goal.invariant-loop-directory
invariant-loop-directory l = l.calls.items ≡ map mkdir_call (take l.directory-index l.directories)
