use Rattle.transfer_copy_laws.proofs.DownLaws.{come_down}
use Rattle.transfer_copy_laws.proofs.laws.files_come_down_whole.Goals as goal

pub returns : goal.returns
returns c = come_down
