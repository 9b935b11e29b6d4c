use Rattle.sftp_share.proofs.Completing.{completes}
use Rattle.sftp_share.proofs.laws.runs_are_complete.Goals as goal

pub returns : goal.returns
returns g c = completes g.P.Out.LinkState.Service g.P.In.LinkState.Service
