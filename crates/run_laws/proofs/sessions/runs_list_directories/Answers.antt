use Rattle.run_laws.proofs.ListedLaws.{run_lists}
use Rattle.run_laws.proofs.sessions.runs_list_directories.Goals as goal

pub returns : goal.returns
returns c = run_lists
