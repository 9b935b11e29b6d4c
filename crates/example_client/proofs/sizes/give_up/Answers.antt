use Rattle.std.proofs.Common.{List, subst}
use Rattle.sftp_core.specs.Core.{Core}
use Rattle.plan_state.specs.Calls.{CallValue, CancelsAwaited}
use Rattle.sftp_file.specs.declared.short_calls.Telling.{Telling}
use Rattle.example_client.specs.Sizes.{AreCallsAwaited}
use Rattle.example_client.proofs.Asking.{awaited_less}
use Rattle.example_client.proofs.sizes.give_up.Goals as goal

pub loop-call-preserved : goal.loop-call-preserved
loop-call-preserved g c =
    awaited_less c.loop-call.sftp.core c.cancel.new.core c.in-Some.call c.pop_front.new.self.items
    (subst (λ (l : List (CallValue Telling)). AreCallsAwaited c.loop-call.sftp.core l) c.in-Some.ensures.items
    c.loop-call.invariant)
    (subst (λ (k : Core). CancelsAwaited k c.cancel.new.core c.in-Some.call.stage) c.core.ensures.value
    c.cancel.ensures)
