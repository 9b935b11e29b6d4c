use Rattle.std.proofs.Common.{refl, subst, max}
use Rattle.sftp_core.specs.Core.{Core}
use Rattle.sftp_client.specs.Sessions.{with_core}
use Rattle.transfer_pool.specs.Copies.{CopierValue, SparesAll}
use Rattle.transfer_pool.specs.Jobs.{JobsDone, jobs_at}
use Rattle.transfer_pool.proofs.JobLaws.{copied_all, going_spared}
use Rattle.transfer_pool.proofs.jobs.copy_all.Goals as goal

pub returns-clause-going : goal.returns-clause-going
returns-clause-going g c =
    let spares = subst (λ (x : Core). SparesAll c.run-done.new.copier.running x c.cancel.new.core) c.core.ensures.value
    c.cancel.ensures in
    going_spared g.L.LinkState.state c.run-done.new.copier.running c.run-done.new.sftp
    (with_core c.run-done.new.sftp c.cancel.new.core)
    c.run-done.ensures.going spares refl

pub returns-clause-copies : goal.returns-clause-copies
returns-clause-copies g c =
    let did = subst (λ (x : CopierValue _). JobsDone g.L.LinkState.state g.J.File.LocalFile.done
    g.J.File.LocalFile.history
    g.J.CopyJobs.noted c.args.window (max c.args.files 1) (jobs_at c.args.sftp.now x.running
    (g.J.CopyJobs.history c.args.jobs.now))
    c.run-done.new.sftp c.run-done.new.copier.running (g.J.CopyJobs.history c.run-done.new.jobs) c.run-done.result)
    c.new-copier.ensures c.run-done.ensures.done in
    copied_all g.L.LinkState.state g.J.File.LocalFile.done g.J.File.LocalFile.history g.J.CopyJobs.noted c.args.window
    (max c.args.files 1)
    c.args.sftp.now c.run-done.new.sftp c.run-done.new.copier.running _ _ c.run-done.result did
