use Rattle.run_laws.proofs.BearingLaws.{bears_grant}
use Rattle.run_laws.proofs.journals.requests_bear_held_handles.Goals as goal

pub returns : goal.returns
returns c = bears_grant
