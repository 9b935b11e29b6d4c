use Rattle.machine_model.proofs.ChangeLaws.{apply_leaves}
use Rattle.machine_model.proofs.laws.answers_leave_changes.Goals as goal

pub returns : goal.returns
returns c = apply_leaves
