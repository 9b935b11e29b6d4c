use Rattle.std.proofs.Common.{◌≡◌, ◌++◌, ◌+◌, ◌-◌}
use Rattle.mirror_jobs.specs.JobLanes.{steps_from}
use Rattle.mirror_jobs.proofs.turns.push_steps.Given as goal

-- the turns that are left complete all of them
abbrev pub invariant-loop-k : goal.invariant-loop-k
invariant-loop-k l = l.turns.items ++ steps_from (l.k + 1) (l.width - l.k) ≡ l.initial.turns.items
    ++ steps_from 1 l.width
