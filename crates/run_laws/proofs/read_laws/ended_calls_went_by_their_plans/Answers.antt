use Rattle.run_laws.proofs.JournalCalls.{ended_calls}
use Rattle.run_laws.proofs.read_laws.ended_calls_went_by_their_plans.Goals as goal

pub returns : goal.returns
returns c = ended_calls
