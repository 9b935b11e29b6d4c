use Rattle.sftp_tasks.proofs.SameLocked.{same_counted}
use Rattle.sftp_tasks.proofs.locked.Locked.hand_out.Goals as goal

pub returns-in-Ok-Some-clause-rest : goal.returns-in-Ok-Some-clause-rest
returns-in-Ok-Some-clause-rest c = same_counted _ _ _ _ _ _
