use Rattle.transfer_plan.proofs.TextLaws.{is_text, is_no_text}
use Rattle.transfer_plan.proofs.task.is_text.Goals as goal

pub returns-in-Ok : goal.returns-in-Ok
returns-in-Ok c = is_text c.args.name.now c.in-Ok.ensures.cases.1

pub returns-in-Err : goal.returns-in-Err
returns-in-Err c = is_no_text c.args.name.now c.in-Err.ensures.cases.0
