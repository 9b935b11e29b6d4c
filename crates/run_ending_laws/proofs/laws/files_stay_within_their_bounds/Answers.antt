use Rattle.run_ending_laws.proofs.PlainRunLaws.{sizes_stay}
use Rattle.run_ending_laws.proofs.laws.files_stay_within_their_bounds.Goals as goal

pub returns : goal.returns
returns c = sizes_stay
