use Rattle.run_ending_laws.proofs.PlainRunLaws.{come_first}
use Rattle.run_ending_laws.proofs.laws.directories_come_first.Goals as goal

pub returns : goal.returns
returns c = come_first
