use Rattle.std.proofs.Common.{◌≡◌, ◌++◌, ◌-◌}
use Rattle.std.specs.Prelude.{replicate}
use Rattle.session_model.specs.declared.turn.Turn.TheVariants as turn
use Rattle.mirror_jobs.proofs.turns.push_takes.Given as goal

-- the turns that are left complete all of them
abbrev pub invariant-loop-k : goal.invariant-loop-k
invariant-loop-k l = l.turns.items ++ replicate (l.width - l._k) turn.Take ≡ l.initial.turns.items
    ++ replicate l.width turn.Take
