use Rattle.std.proofs.Common.{◌≡◌, ◌++◌, ◌-◌}
use Rattle.mirror_jobs.specs.JobLanes.{mkdir_turns, repeat_turn}
use Rattle.mirror_jobs.proofs.turns.push_all_mkdirs.Given as goal

-- the turns that are left complete all of them
abbrev pub invariant-loop-k : goal.invariant-loop-k
invariant-loop-k l = l.turns.items ++ repeat_turn (l.count - l._k) mkdir_turns ≡ l.initial.turns.items
    ++ repeat_turn l.count mkdir_turns
