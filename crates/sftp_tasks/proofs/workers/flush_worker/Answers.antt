use Rattle.std.proofs.Common.{rules, ◌≡◌, ◌∙◌, ap, subst, refl, arith, Ok, true, false, Option, ℕ}
use Rattle.std.specs.Prelude.{Result}
use Rattle.session_seats.specs.Holds.{AddsEntries, claim_of}
use Rattle.session_seats.proofs.GrowLaws.{grew_none, grew_on}
use Rattle.session_seats.proofs.RepeatLaws.{repeats_more, repeats_none}
use Rattle.sftp_model.specs.declared.error.Error.{Error}
use Rattle.sftp_tasks.specs.declared.workers.Shift.{Shift}
use Rattle.sftp_tasks.specs.Entries.{by_flush}
use Rattle.sftp_tasks.specs.Workers.{FlushShift, WorkerState, is_over}
use Rattle.sftp_tasks.proofs.WorkLaws.{flush_faults, flush_sees, over_as}
use Rattle.sftp_tasks.proofs.workers.flush_worker.Goals as goal

pub loop-init : goal.loop-init
loop-init g c = (refl, refl, refl, grew_none _ _, repeats_none _ _)

pub flush_shift-requires-clause-count : goal.flush_shift-requires-clause-count
flush_shift-requires-clause-count g c =
    let same = c.loop.invariant.2 in
    let few = c.requires.count in
    omega (arith, same, few)

pub loop-preserved : goal.loop-preserved
loop-preserved g c =
    let i = c.loop.invariant in
    let a : WorkerState g.O.LinkState.Service = (c.loop.seat.inner.me, g.O.LinkState.state c.loop.out) in
    let b : WorkerState g.O.LinkState.Service = (
      c.flush_shift.new.seat.inner.me,
      g.O.LinkState.state c.flush_shift.new.out,
    ) in
    let on : is_over c.in-Ok.shift ≡ false = search rules in
    let did : FlushShift (Ok c.in-Ok.shift) a b = subst (λ (r : Result Shift Error). FlushShift r a b) c.in-Ok.is
    c.flush_shift.ensures.shift in (
      c.flush_shift.ensures.own.0 ∙ i.0,
      c.flush_shift.ensures.own.1 ∙ i.1,
      flush_faults c.in-Ok.shift a b did ∙ i.2,
      grew_on _ _ _ _ i.3 (subst (λ (o : Option ℕ). AddsEntries (by_flush o) (claim_of a.0) (claim_of b.0)) i.1
          c.flush_shift.ensures.only),
      repeats_more _ _ a b i.4 (c.in-Ok.shift, (on, did)),
    )

pub returns-in-Err-clause-only : goal.returns-in-Err-clause-only
returns-in-Err-clause-only g c =
    let i = c.loop.invariant in
    grew_on _ _ _ _ i.3
    (subst (λ (o : Option ℕ). AddsEntries (by_flush o) (claim_of c.loop.seat.inner.me)
    (claim_of c.flush_shift.new.seat.inner.me)) i.1 c.flush_shift.ensures.only)

pub returns-in-Err-clause-rounds : goal.returns-in-Err-clause-rounds
returns-in-Err-clause-rounds g c =
    let i = c.loop.invariant in
    let a : WorkerState g.O.LinkState.Service = (c.loop.seat.inner.me, g.O.LinkState.state c.loop.out) in
    let b : WorkerState g.O.LinkState.Service = (
      c.flush_shift.new.seat.inner.me,
      g.O.LinkState.state c.flush_shift.new.out,
    ) in
    (a, (i.4, subst (λ (r : Result Shift Error). FlushShift r a b) c.in-Err.is c.flush_shift.ensures.shift))

pub returns-then-is_over-clause-only : goal.returns-then-is_over-clause-only
returns-then-is_over-clause-only g c =
    let i = c.loop.invariant in
    grew_on _ _ _ _ i.3
    (subst (λ (o : Option ℕ). AddsEntries (by_flush o) (claim_of c.loop.seat.inner.me)
    (claim_of c.flush_shift.new.seat.inner.me)) i.1 c.flush_shift.ensures.only)

pub returns-then-is_over-clause-rounds : goal.returns-then-is_over-clause-rounds
returns-then-is_over-clause-rounds g c =
    let i = c.loop.invariant in
    let a : WorkerState g.O.LinkState.Service = (c.loop.seat.inner.me, g.O.LinkState.state c.loop.out) in
    let b : WorkerState g.O.LinkState.Service = (
      c.flush_shift.new.seat.inner.me,
      g.O.LinkState.state c.flush_shift.new.out,
    ) in
    let yes : is_over c.in-Ok.shift ≡ true = search rules in
    let is = c.in-Ok.is ∙ ap (λ s. Ok s) (over_as c.in-Ok.shift yes) in
    (a, (i.4, subst (λ (r : Result Shift Error). FlushShift r a b) is c.flush_shift.ensures.shift))

pub returns-then-is_over-clause-stage : goal.returns-then-is_over-clause-stage
returns-then-is_over-clause-stage g c =
    let a : WorkerState g.O.LinkState.Service = (c.loop.seat.inner.me, g.O.LinkState.state c.loop.out) in
    let b : WorkerState g.O.LinkState.Service = (
      c.flush_shift.new.seat.inner.me,
      g.O.LinkState.state c.flush_shift.new.out,
    ) in
    let yes : is_over c.in-Ok.shift ≡ true = search rules in
    let is = c.in-Ok.is ∙ ap (λ s. Ok s) (over_as c.in-Ok.shift yes) in
    flush_sees a b (subst (λ (r : Result Shift Error). FlushShift r a b) is c.flush_shift.ensures.shift)
