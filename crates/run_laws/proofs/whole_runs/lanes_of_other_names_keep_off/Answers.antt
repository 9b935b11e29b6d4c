use Rattle.run_laws.proofs.RoundTripLaws.{lane_keeps_off}
use Rattle.run_laws.proofs.whole_runs.lanes_of_other_names_keep_off.Goals as goal

pub returns : goal.returns
returns c = lane_keeps_off
