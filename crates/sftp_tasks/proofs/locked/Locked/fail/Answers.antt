use Rattle.sftp_tasks.proofs.SameLocked.{same_counted}
use Rattle.sftp_tasks.proofs.locked.Locked.fail.Goals as goal

pub returns-clause-rest : goal.returns-clause-rest
returns-clause-rest c = same_counted _ _ _ _ _ _
