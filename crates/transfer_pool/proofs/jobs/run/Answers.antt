use Rattle.std.proofs.Common.{rules, ◌≡◌, ◌<◌, max, subst, Ok, Err}
use Rattle.transfer_copy.specs.declared.copy_error.CopyError.TheVariants as failure
use Rattle.transfer_pool.specs.Jobs.{JobsDone, jobs_at}
use Rattle.transfer_pool.proofs.JobLaws.{jobs_done, jobs_first, jobs_on, jobs_stopped, jobs_too_long}
use Rattle.transfer_pool.proofs.jobs.run.Goals as goal

pub loop-init : goal.loop-init
loop-init g c = jobs_first g.L.LinkState.state g.J.File.LocalFile.done g.J.File.LocalFile.history g.J.CopyJobs.noted _ _
    (jobs_at c.args.sftp.now c.args.copier.now.running (g.J.CopyJobs.history c.args.jobs.now)) c.requires.going
    c.requires.together

pub returns-in-Over-clause-done : goal.returns-in-Over-clause-done
returns-in-Over-clause-done g c =
    let some : 0 < c.max-most.result = search rules in
    let is : c.max-most.result ≡ max c.args.files 1 = search rules in
    subst (λ most. JobsDone g.L.LinkState.state g.J.File.LocalFile.done g.J.File.LocalFile.history g.J.CopyJobs.noted
    c.args.window most (jobs_at c.args.sftp.now c.args.copier.now.running (g.J.CopyJobs.history c.args.jobs.now))
    c.job_turn.new.sftp c.job_turn.new.copier.running (g.J.CopyJobs.history c.job_turn.new.jobs) (Ok tt)) is
    (jobs_done g.L.LinkState.state g.J.File.LocalFile.done g.J.File.LocalFile.history g.J.CopyJobs.noted c.args.window
    c.max-most.result
    _ _ c.job_turn.new.sftp c.job_turn.new.copier.running _ c.loop.invariant some c.in-Over.ensures)

pub returns-in-Stopped-clause-done : goal.returns-in-Stopped-clause-done
returns-in-Stopped-clause-done g c =
    let is : c.max-most.result ≡ max c.args.files 1 = search rules in
    subst (λ most. JobsDone g.L.LinkState.state g.J.File.LocalFile.done g.J.File.LocalFile.history g.J.CopyJobs.noted
    c.args.window most (jobs_at c.args.sftp.now c.args.copier.now.running (g.J.CopyJobs.history c.args.jobs.now))
    c.job_turn.new.sftp c.job_turn.new.copier.running (g.J.CopyJobs.history c.job_turn.new.jobs) (Err c.in-Stopped.e))
    is
    (jobs_stopped g.L.LinkState.state g.J.File.LocalFile.done g.J.File.LocalFile.history g.J.CopyJobs.noted
    c.args.window c.max-most.result
    _ _ c.job_turn.new.sftp c.job_turn.new.copier.running _ c.in-Stopped.e c.in-Stopped.e c.loop.invariant
    c.in-Stopped.ensures)

pub returns-clause-done : goal.returns-clause-done
returns-clause-done g c =
    let is : c.max-most.result ≡ max c.args.files 1 = search rules in
    subst (λ most. JobsDone g.L.LinkState.state g.J.File.LocalFile.done g.J.File.LocalFile.history g.J.CopyJobs.noted
    c.args.window most (jobs_at c.args.sftp.now c.args.copier.now.running (g.J.CopyJobs.history c.args.jobs.now))
    c.loop.sftp c.loop.copier.running (g.J.CopyJobs.history c.loop.jobs) (Err failure.TooLong)) is
    (jobs_too_long g.L.LinkState.state g.J.File.LocalFile.done g.J.File.LocalFile.history g.J.CopyJobs.noted
    c.args.window c.max-most.result
    _ _ failure.TooLong c.loop.invariant)

pub loop-preserved : goal.loop-preserved
loop-preserved g c =
    jobs_on g.L.LinkState.state g.J.File.LocalFile.done g.J.File.LocalFile.history g.J.CopyJobs.noted c.args.window
    c.max-most.result
    _ _ c.job_turn.new.sftp c.job_turn.new.copier.running _ c.in-On.now c.loop.invariant c.in-On.ensures
