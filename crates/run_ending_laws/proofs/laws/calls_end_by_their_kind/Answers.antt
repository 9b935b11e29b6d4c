use Rattle.run_ending_laws.proofs.PlainRunLaws.{call_ends}
use Rattle.run_ending_laws.proofs.laws.calls_end_by_their_kind.Goals as goal

pub returns : goal.returns
returns c = call_ends
