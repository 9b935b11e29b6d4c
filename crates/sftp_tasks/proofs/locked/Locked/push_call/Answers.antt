use Rattle.sftp_tasks.proofs.SameLocked.{same_counted}
use Rattle.sftp_tasks.proofs.locked.Locked.push_call.Goals as goal

pub returns-in-Ok-clause-rest : goal.returns-in-Ok-clause-rest
returns-in-Ok-clause-rest c = same_counted _ _ _ _ _ _
