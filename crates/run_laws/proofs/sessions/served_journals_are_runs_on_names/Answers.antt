use Rattle.run_laws.proofs.NamedLaws.{served_run_on}
use Rattle.run_laws.proofs.sessions.served_journals_are_runs_on_names.Goals as goal

pub returns : goal.returns
returns c = served_run_on
