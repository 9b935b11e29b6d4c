use Rattle.mirror_jobs.specs.JobLanes.{round}
use Rattle.mirror_jobs.proofs.TurnLaws.{repeated_on}
use Rattle.mirror_jobs.proofs.turns.push_rounds.Goals as goal

pub loop-k-preserved : goal.loop-k-preserved
loop-k-preserved c = repeated_on (round c.args.width) c.loop-k._k c.args.rounds _ _ _ c.loop-k.invariant
    c.loop-k-test.true c.in_ok-push_round.ensures
