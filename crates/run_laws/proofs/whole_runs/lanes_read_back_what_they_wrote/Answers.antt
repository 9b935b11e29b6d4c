use Rattle.run_laws.proofs.RoundTripLaws.{reads_back}
use Rattle.run_laws.proofs.whole_runs.lanes_read_back_what_they_wrote.Goals as goal

pub returns : goal.returns
returns c = reads_back
