use Rattle.machine_model.proofs.OpenLaws.{none_opens}
use Rattle.machine_model.proofs.laws.files_open_by_opens.Goals as goal

pub returns : goal.returns
returns c = none_opens
