use Rattle.plan_runner.proofs.GoingLaws.{residual_came, residual_missing, residual_none}
use Rattle.plan_runner.proofs.laws.calls_go_on_by_awaited_replies.Goals as goal

pub returns-clause-missing : goal.returns-clause-missing
returns-clause-missing c = residual_missing

pub returns-clause-came : goal.returns-clause-came
returns-clause-came c = residual_came

pub returns-clause-none : goal.returns-clause-none
returns-clause-none c = residual_none
