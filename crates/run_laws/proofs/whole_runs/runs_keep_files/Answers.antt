use Rattle.run_laws.proofs.KeepsFilesLaws.{run_keeps_files}
use Rattle.run_laws.proofs.whole_runs.runs_keep_files.Goals as goal

pub returns : goal.returns
returns c = run_keeps_files
