use Rattle.sftp_view.proofs.Exits.{causes}
use Rattle.sftp_view.proofs.laws.statuses_have_causes.Goals as goal

pub returns : goal.returns
returns c = causes
