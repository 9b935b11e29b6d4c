use Rattle.std.proofs.Common.{◌≡◌, ◌⊎◌, subst}
use Rattle.sftp_model.specs.declared.error.Error.TheVariants as error
use Rattle.sftp_model.specs.declared.error.Fault.{Fault}
use Rattle.sftp_tasks.specs.Reported.{EndedByFault}
use Rattle.session_threads.proofs.run.close_stopped.Goals as goal

pub returns-in-Ok : goal.returns-in-Ok
returns-in-Ok g c = subst (λ l. (c.close_failed.result ≡ error.OutOfMemory)
    ⊎ ((c.close_failed.result ≡ c.args.why) × ((fault : Fault) × EndedByFault l fault))) c.in-Ok.ensures
    c.close_failed.ensures
