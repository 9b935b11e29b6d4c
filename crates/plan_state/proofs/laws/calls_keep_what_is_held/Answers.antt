use Rattle.plan_state.proofs.Keeping.{keeps_submitted, keeps_handed_out, keeps_taken}
use Rattle.plan_state.proofs.laws.calls_keep_what_is_held.Goals as goal

pub returns : goal.returns
returns c = record { submitted = keeps_submitted; handed_out = keeps_handed_out; taken = keeps_taken }
