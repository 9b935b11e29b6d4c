use Rattle.sftp_tasks.proofs.SameLocked.{same_counted}
use Rattle.sftp_tasks.proofs.locked.Locked.take.Goals as goal

pub returns-then-not-takes_frames-clause-rest : goal.returns-then-not-takes_frames-clause-rest
returns-then-not-takes_frames-clause-rest c = same_counted _ _ _ _ _ _
