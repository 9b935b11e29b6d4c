use Rattle.session_model.proofs.AllClosedLaws.{handles_closed, handles_most, over_handles_closed}
use Rattle.session_model.proofs.laws.handles_are_closed.Goals as goal

pub returns : goal.returns
returns c = record { so_far = handles_most; over = over_handles_closed; all = handles_closed }
