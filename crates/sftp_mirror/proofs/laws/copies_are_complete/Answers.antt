use Rattle.sftp_mirror.proofs.Completing.{completes}
use Rattle.sftp_mirror.proofs.laws.copies_are_complete.Goals as goal

pub returns : goal.returns
returns g c = completes g.D.Dial.dialled
