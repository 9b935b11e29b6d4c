use Rattle.plan_window.proofs.PlanLaws.{after_asking, after_refusal, after_reply, none_under_way, opened_window, while_missing}
use Rattle.plan_window.proofs.laws.windows_tell_the_plan.Goals as goal

pub returns : goal.returns
returns c = record {
  opened = opened_window;
  asked = after_asking;
  came = after_reply;
  missing = while_missing;
  refusal = after_refusal;
  none = none_under_way;
}
