use Rattle.run_laws.proofs.ServedSteps.{run_of}
use Rattle.run_laws.proofs.read_laws.served_journals_are_runs.Goals as goal

pub returns : goal.returns
returns c = run_of
