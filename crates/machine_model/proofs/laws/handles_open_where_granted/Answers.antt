use Rattle.machine_model.proofs.GrantingLaws.{unopened_stays}
use Rattle.machine_model.proofs.laws.handles_open_where_granted.Goals as goal

pub returns : goal.returns
returns c = unopened_stays
