use Rattle.mirror_jobs.proofs.DealtLaws.{lanes_go_on}
use Rattle.mirror_jobs.proofs.lanes.push_copy_lanes.Goals as goal

pub loop-k-preserved : goal.loop-k-preserved
loop-k-preserved c = lanes_go_on c.args.width c.args.jobs.now c.loop-k.k c.args.width _ _ _ _ c.loop-k.invariant
    c.loop-k-test.true c.in_ok-lane.ensures c.in_ok-push.ensures.items
