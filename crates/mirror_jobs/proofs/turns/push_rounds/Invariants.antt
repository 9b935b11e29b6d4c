use Rattle.std.proofs.Common.{◌≡◌, ◌++◌, ◌-◌}
use Rattle.mirror_jobs.specs.JobLanes.{repeat_turn, round}
use Rattle.mirror_jobs.proofs.turns.push_rounds.Given as goal

-- the turns that are left complete all of them
abbrev pub invariant-loop-k : goal.invariant-loop-k
invariant-loop-k l = l.turns.items ++ repeat_turn (l.rounds - l._k) (round l.width) ≡ l.initial.turns.items
    ++ repeat_turn l.rounds (round l.width)
