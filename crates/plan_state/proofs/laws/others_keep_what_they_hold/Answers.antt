use Rattle.plan_state.proofs.OthersKept.{
  polled_keeps_grants,
  cancelled_keeps_grants,
  polled_on,
  cancelled_on,
  released_holds,
  retained_holds,
}
use Rattle.plan_state.proofs.laws.others_keep_what_they_hold.Goals as goal

pub returns : goal.returns
returns c = record {
  polled = polled_keeps_grants;
  cancelled = cancelled_keeps_grants;
  polled_on = polled_on;
  cancelled_on = cancelled_on;
  released = released_holds;
  retained = retained_holds;
}
