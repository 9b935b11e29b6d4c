use Rattle.mirror_jobs.proofs.TurnLaws.{takes_on}
use Rattle.mirror_jobs.proofs.turns.push_takes.Goals as goal

pub loop-k-preserved : goal.loop-k-preserved
loop-k-preserved c = takes_on c.loop-k._k c.args.width _ _ _ c.loop-k.invariant c.loop-k-test.true
    c.in_ok-push.ensures.items
