use Rattle.sftp_tasks.proofs.FailedLaws.{given_up_seen}
use Rattle.sftp_tasks.proofs.laws.given_up_is_seen.Goals as goal

pub returns : goal.returns
returns c = given_up_seen
