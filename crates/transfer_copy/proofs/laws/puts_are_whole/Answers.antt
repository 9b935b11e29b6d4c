use Rattle.transfer_copy.proofs.WholePutSteps.{sent_whole}
use Rattle.transfer_copy.proofs.laws.puts_are_whole.Goals as goal

pub returns : goal.returns
returns g c = sent_whole g.F.LocalFile.done
