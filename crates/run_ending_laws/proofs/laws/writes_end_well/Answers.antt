use Rattle.run_ending_laws.proofs.PlainRunLaws.{write_ends}
use Rattle.run_ending_laws.proofs.laws.writes_end_well.Goals as goal

pub returns : goal.returns
returns c = write_ends
