use Rattle.run_ending_laws.proofs.PlainRunLaws.{names_stay_so}
use Rattle.run_ending_laws.proofs.laws.names_stay.Goals as goal

pub returns : goal.returns
returns c = names_stay_so
