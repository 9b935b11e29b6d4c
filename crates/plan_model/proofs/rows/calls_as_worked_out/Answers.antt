use Rattle.plan_model.proofs.CallRows.{whole_read}
use Rattle.plan_model.proofs.rows.calls_as_worked_out.Goals as goal

pub returns : goal.returns
returns c = whole_read
