use Rattle.sftp_model.specs.declared.answers.Expected.TheVariants as expected
use Rattle.plan_state.proofs.OthersKept.{cancelled_drops}
use Rattle.plan_state.proofs.laws.cancelled_opens_are_closed.Goals as goal

pub returns-clause-to_come : goal.returns-clause-to_come
returns-clause-to_come c = λ core ticket. cancelled_drops core ticket expected.Handle
