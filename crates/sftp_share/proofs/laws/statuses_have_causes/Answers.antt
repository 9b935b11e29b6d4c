use Rattle.sftp_share.proofs.Causing.{causes}
use Rattle.sftp_share.proofs.laws.statuses_have_causes.Goals as goal

pub returns : goal.returns
returns g c = causes g.P.Out.LinkState.Service g.P.In.LinkState.Service
