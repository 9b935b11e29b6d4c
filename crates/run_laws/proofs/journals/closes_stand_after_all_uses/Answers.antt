use Rattle.run_laws.proofs.UsedLaws.{closes_stand_last}
use Rattle.run_laws.proofs.journals.closes_stand_after_all_uses.Goals as goal

pub returns : goal.returns
returns c = closes_stand_last
