use Rattle.std.proofs.Common.{◌≡◌, ◌∙◌, ◌∷◌, ◌++◌, [], List, ℕ, OnOk, ap, refl, subst, sym}
use Rattle.std.specs.Prelude.{Option}
use Rattle.sftp_core.specs.Core.{Core}
use Rattle.plan_state.specs.declared.poll.Poll.TheVariants.{Pending, Ready}
use Rattle.plan_state.specs.Calls.{CallValue, CancelsAwaited, StepsByPlan}
use Rattle.sftp_file.specs.declared.short_calls.Telling.{Telling}
use Rattle.sftp_file.specs.Tells.{attrs_meaning}
use Rattle.sftp_client.specs.Sessions.{with_core}
use Rattle.example_client.specs.Sizes.{AreCallsAwaited, GoesBySteps, sizes_progress_of}
use Rattle.example_client.proofs.Answered.{where_done}
use Rattle.example_client.proofs.Asking.{awaited_after}
use Rattle.example_client.proofs.Sizing.{awaits_first, flush_leaves, polled_still, round_leaves, take_leaves, tells_first}
use Rattle.example_client.proofs.sizes.hear.Goals as goal

-- ---- the oldest call has answered

pub returns-in_err-answer-in-Ready-clause-awaited : goal.returns-in_err-answer-in-Ready-clause-awaited
returns-in_err-answer-in-Ready-clause-awaited g c =
    let polls = subst (λ (k : Core). StepsByPlan attrs_meaning k c.poll.new.core c.args.call c.poll.new.self
    (Ready c.in-Ready.answer)) c.core.ensures.value
    c.in-Ready.ensures in
    let cancels = subst (λ (k : Core). CancelsAwaited k c.cancel.new.core c.poll.new.self.stage)
    c.core-in-Ready.ensures.value c.cancel.ensures in
    awaited_after c.args.sftp.now.core c.poll.new.core c.cancel.new.core c.args.call c.poll.new.self
    c.args.calls.now.items c.in-Ready.answer
    c.requires.under_way.awaited polls cancels

pub returns-in_ok-answer-in-Ready-clause-awaited : goal.returns-in_ok-answer-in-Ready-clause-awaited
returns-in_ok-answer-in-Ready-clause-awaited g c =
    let polls = subst (λ (k : Core). StepsByPlan attrs_meaning k c.poll.new.core c.args.call c.poll.new.self
    (Ready c.in-Ready.answer)) c.core.ensures.value
    c.in-Ready.ensures in
    let cancels = subst (λ (k : Core). CancelsAwaited k c.cancel.new.core c.poll.new.self.stage)
    c.core-in-Ready.ensures.value c.cancel.ensures in
    awaited_after c.args.sftp.now.core c.poll.new.core c.cancel.new.core c.args.call c.poll.new.self
    c.args.calls.now.items c.in-Ready.answer
    c.requires.under_way.awaited polls cancels

pub returns-in_ok-answer-in-Ready-clause-went : goal.returns-in_ok-answer-in-Ready-clause-went
returns-in_ok-answer-in-Ready-clause-went g c =
    let polls = subst (λ (k : Core). StepsByPlan attrs_meaning k c.poll.new.core c.args.call c.poll.new.self
    (Ready c.in-Ready.answer)) c.core.ensures.value
    c.in-Ready.ensures in
    let told = subst (λ r. StepsByPlan attrs_meaning c.args.sftp.now.core c.poll.new.core c.args.call c.poll.new.self
    (Ready r)) c.in_ok-answer-in-Ready.was
    polls in
    let cancels = subst (λ (k : Core). CancelsAwaited k c.cancel.new.core c.poll.new.self.stage)
    c.core-in-Ready.ensures.value c.cancel.ensures in
    where_done c.push.result (λ done is.
    let pushed = subst (λ r. OnOk r (c.push.new.sizes.items ≡ c.args.sizes.now.items ++ c.len.result ∷ [])) is
    c.push.ensures in
    λ paths. tells_first g.L.LinkState.state c.args.sftp.now (with_core c.args.sftp.now c.cancel.new.core)
    c.poll.new.core c.args.call
    c.poll.new.self c.args.calls.now.items c.in_ok-answer-in-Ready.field-0 paths c.args.sizes.now.items
    c.push.new.sizes.items told cancels refl
    (pushed ∙ ap (λ (s : Option ℕ). c.args.sizes.now.items ++ s ∷ []) c.len.ensures))

-- ---- it has no answer yet

pub returns-in_err-flush-in-Pending-clause-awaited : goal.returns-in_err-flush-in-Pending-clause-awaited
returns-in_err-flush-in-Pending-clause-awaited g c =
    let polls = subst (λ (k : Core). StepsByPlan attrs_meaning k c.poll.new.core c.args.call c.poll.new.self Pending)
    c.core.ensures.value c.in-Pending.ensures in
    let mid = with_core c.args.sftp.now c.poll.new.core in
    let still = polled_still g.L.LinkState.state c.args.sftp.now mid c.args.call c.poll.new.self c.args.calls.now.items
    c.requires.under_way polls in
    subst (λ (l : List (CallValue Telling)). AreCallsAwaited c.flush.new.self.core l)
    (sym c.push_front_reserved.ensures.items)
    (flush_leaves g.L.LinkState.state mid c.flush.new.self (c.poll.new.self ∷ c.args.calls.now.items) _ still
    c.in_err-flush-in-Pending.ensures)

pub returns-in_err-take-in-Pending-clause-awaited : goal.returns-in_err-take-in-Pending-clause-awaited
returns-in_err-take-in-Pending-clause-awaited g c =
    let polls = subst (λ (k : Core). StepsByPlan attrs_meaning k c.poll.new.core c.args.call c.poll.new.self Pending)
    c.core.ensures.value c.in-Pending.ensures in
    let mid = with_core c.args.sftp.now c.poll.new.core in
    let still = polled_still g.L.LinkState.state c.args.sftp.now mid c.args.call c.poll.new.self c.args.calls.now.items
    c.requires.under_way polls in
    subst (λ (l : List (CallValue Telling)). AreCallsAwaited c.take.new.self.core l)
    (sym c.push_front_reserved.ensures.items)
    (take_leaves g.L.LinkState.state mid c.flush.new.self c.take.new.self (c.poll.new.self ∷ c.args.calls.now.items) _
    still
    c.in_ok-flush-in-Pending.ensures c.in_err-take-in-Pending.ensures)

pub returns-in_ok-take-in-Pending-clause-went : goal.returns-in_ok-take-in-Pending-clause-went
returns-in_ok-take-in-Pending-clause-went g c =
    let polls = subst (λ (k : Core). StepsByPlan attrs_meaning k c.poll.new.core c.args.call c.poll.new.self Pending)
    c.core.ensures.value c.in-Pending.ensures in
    let mid = with_core c.args.sftp.now c.poll.new.core in
    λ paths. subst (λ (l : List (CallValue Telling)). GoesBySteps g.L.LinkState.state
    (sizes_progress_of c.args.sftp.now paths (c.args.call ∷ c.args.calls.now.items) c.args.sizes.now.items)
    (sizes_progress_of c.take.new.self paths l c.args.sizes.now.items)) (sym c.push_front_reserved.ensures.items)
    (awaits_first g.L.LinkState.state c.args.sftp.now mid c.take.new.self c.args.call c.poll.new.self
    c.args.calls.now.items paths
    c.args.sizes.now.items polls refl (record {
      mid = c.flush.new.self;
      took = c.in_ok-take-in-Pending.field-0;
      sends = c.in_ok-flush-in-Pending.ensures;
      takes = c.in_ok-take-in-Pending.ensures;
    }))

pub returns-in_ok-take-in-Pending-clause-awaited : goal.returns-in_ok-take-in-Pending-clause-awaited
returns-in_ok-take-in-Pending-clause-awaited g c =
    let polls = subst (λ (k : Core). StepsByPlan attrs_meaning k c.poll.new.core c.args.call c.poll.new.self Pending)
    c.core.ensures.value c.in-Pending.ensures in
    let mid = with_core c.args.sftp.now c.poll.new.core in
    let still = polled_still g.L.LinkState.state c.args.sftp.now mid c.args.call c.poll.new.self c.args.calls.now.items
    c.requires.under_way polls in
    subst (λ (l : List (CallValue Telling)). AreCallsAwaited c.take.new.self.core l)
    (sym c.push_front_reserved.ensures.items)
    (round_leaves g.L.LinkState.state mid c.take.new.self (c.poll.new.self ∷ c.args.calls.now.items) still (record {
      mid = c.flush.new.self;
      took = c.in_ok-take-in-Pending.field-0;
      sends = c.in_ok-flush-in-Pending.ensures;
      takes = c.in_ok-take-in-Pending.ensures;
    }))
