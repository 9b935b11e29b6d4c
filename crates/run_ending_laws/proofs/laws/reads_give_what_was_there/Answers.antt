use Rattle.run_ending_laws.proofs.PlainRunLaws.{read_there}
use Rattle.run_ending_laws.proofs.laws.reads_give_what_was_there.Goals as goal

pub returns : goal.returns
returns c = read_there
