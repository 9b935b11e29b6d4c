use Rattle.mirror_jobs.specs.JobLanes.{mkdir_turns}
use Rattle.mirror_jobs.proofs.TurnLaws.{repeated_on}
use Rattle.mirror_jobs.proofs.turns.push_all_mkdirs.Goals as goal

pub loop-k-preserved : goal.loop-k-preserved
loop-k-preserved c = repeated_on mkdir_turns c.loop-k._k c.args.count _ _ _ c.loop-k.invariant c.loop-k-test.true
    c.in_ok-push_mkdir.ensures
