use Rattle.transfer_pool.specs.Jobs.{jobs_at}
use Rattle.transfer_pool.proofs.JobLaws.{JobsSoFar}
use Rattle.transfer_pool.proofs.jobs.run.Given as goal

abbrev pub invariant-loop : goal.invariant-loop
invariant-loop g l =
    JobsSoFar g.L.LinkState.state g.J.File.LocalFile.done g.J.File.LocalFile.history g.J.CopyJobs.noted
    l.window l.most
    (jobs_at l.initial.sftp l.initial.copier.running (g.J.CopyJobs.history l.initial.jobs))
    (record { session = l.sftp; running = l.copier.running; more = l.more; notes = g.J.CopyJobs.history l.jobs })
