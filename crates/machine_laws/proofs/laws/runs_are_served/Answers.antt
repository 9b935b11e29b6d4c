use Rattle.machine_laws.proofs.Whole.{version_is_told, run_is_served, stops_for_memory}
use Rattle.machine_laws.proofs.laws.runs_are_served.Goals as goal

pub returns : goal.returns
returns c = record { version = version_is_told; serves = run_is_served; only = stops_for_memory }
