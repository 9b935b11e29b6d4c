use Rattle.sftp_view.proofs.Exits.{completes}
use Rattle.sftp_view.proofs.laws.views_are_complete.Goals as goal

pub returns : goal.returns
returns c = completes
