use Rattle.mirror_jobs.proofs.TurnLaws.{steps_on}
use Rattle.mirror_jobs.proofs.turns.push_steps.Goals as goal

pub loop-k-preserved : goal.loop-k-preserved
loop-k-preserved c = steps_on c.loop-k.k c.args.width _ _ _ c.loop-k.invariant c.loop-k-test.true
    c.in_ok-push.ensures.items
