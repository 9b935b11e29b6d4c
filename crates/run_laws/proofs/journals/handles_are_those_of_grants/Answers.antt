use Rattle.run_laws.proofs.UsedLaws.{uses_grant}
use Rattle.run_laws.proofs.journals.handles_are_those_of_grants.Goals as goal

pub returns : goal.returns
returns c = uses_grant
