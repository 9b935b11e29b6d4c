use Rattle.run_laws.proofs.RoundTripLaws.{reads_first, refused_first}
use Rattle.run_laws.proofs.whole_runs.lanes_read_back_what_was_there.Goals as goal

pub returns : goal.returns
returns c = record { gives = reads_first; refused = refused_first }
