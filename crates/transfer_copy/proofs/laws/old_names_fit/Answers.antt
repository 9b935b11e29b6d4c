use Rattle.transfer_copy.proofs.AsideLaws.{old_fits}
use Rattle.transfer_copy.proofs.laws.old_names_fit.Goals as goal

pub returns : goal.returns
returns c = old_fits
