use Rattle.std.proofs.Common.{◌<◌, arith, length}
use Rattle.transfer_sync.proofs.JobLaws.{job_more}
use Rattle.transfer_sync.proofs.jobs.jobs_of.Goals as goal

pub loop-action-preserved : goal.loop-action-preserved
loop-action-preserved c =
    let within : c.loop-action.action-index < length c.args.actions.now = omega arith in
    job_more c.args.roots.now c.args.source.now.entries c.args.phase c.args.actions.now c.loop-action.action-index
    c.action-item.result _ c.loop-action.jobs.items c.add_job.new.jobs.items within
    c.action-item.is c.in_ok-add_job.ensures c.loop-action.invariant
