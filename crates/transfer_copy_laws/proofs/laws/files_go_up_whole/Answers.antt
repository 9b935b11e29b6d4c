use Rattle.transfer_copy_laws.proofs.UpLaws.{go_up}
use Rattle.transfer_copy_laws.proofs.laws.files_go_up_whole.Goals as goal

pub returns : goal.returns
returns g c = go_up g.F.LocalFile.done
