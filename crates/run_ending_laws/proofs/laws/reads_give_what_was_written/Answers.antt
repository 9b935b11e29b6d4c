use Rattle.run_ending_laws.proofs.PlainRunLaws.{read_ends}
use Rattle.run_ending_laws.proofs.laws.reads_give_what_was_written.Goals as goal

pub returns : goal.returns
returns c = read_ends
