use Rattle.sftp_cli.proofs.Completing.{completes}
use Rattle.sftp_cli.proofs.laws.runs_are_complete.Goals as goal

pub returns : goal.returns
returns g c = completes g.D.Dial.dialled
