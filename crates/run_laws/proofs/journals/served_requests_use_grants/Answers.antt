use Rattle.run_laws.proofs.GrantAtLaws.{served_use_grants}
use Rattle.run_laws.proofs.journals.served_requests_use_grants.Goals as goal

pub returns : goal.returns
returns c = served_use_grants
