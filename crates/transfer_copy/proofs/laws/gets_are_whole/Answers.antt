use Rattle.transfer_copy.proofs.WholeGetSteps.{got_whole}
use Rattle.transfer_copy.proofs.laws.gets_are_whole.Goals as goal

pub returns : goal.returns
returns g c = got_whole g.F.LocalFile.done
