use Rattle.sftp_mirror.proofs.Causing.{causes}
use Rattle.sftp_mirror.proofs.laws.statuses_have_causes.Goals as goal

pub returns : goal.returns
returns g c = causes g.D.Dial.dialled
