use Rattle.std.proofs.Common.{rules, ◌≡◌, ◌∙◌, ap, subst, refl, arith, Ok, true, false, Option, ℕ}
use Rattle.std.specs.Prelude.{Result}
use Rattle.session_seats.specs.Holds.{AddsEntries, claim_of}
use Rattle.session_seats.proofs.GrowLaws.{grew_none, grew_on}
use Rattle.session_seats.proofs.RepeatLaws.{repeats_more, repeats_none}
use Rattle.sftp_model.specs.declared.error.Error.{Error}
use Rattle.sftp_tasks.specs.declared.workers.Shift.{Shift}
use Rattle.sftp_tasks.specs.Entries.{by_read}
use Rattle.sftp_tasks.specs.Workers.{ReadShift, WorkerState, is_over}
use Rattle.sftp_tasks.proofs.WorkLaws.{read_faults, read_sees, over_as}
use Rattle.sftp_tasks.proofs.workers.read_worker.Goals as goal

pub loop-init : goal.loop-init
loop-init g c = (refl, refl, refl, grew_none _ _, repeats_none _ _)

pub read_shift-requires-clause-count : goal.read_shift-requires-clause-count
read_shift-requires-clause-count g c =
    let same = c.loop.invariant.2 in
    let few = c.requires.count in
    omega (arith, same, few)

pub loop-preserved : goal.loop-preserved
loop-preserved g c =
    let i = c.loop.invariant in
    let a : WorkerState g.I.LinkState.Service = (c.loop.seat.inner.me, g.I.LinkState.state c.loop.input) in
    let b : WorkerState g.I.LinkState.Service = (
      c.read_shift.new.seat.inner.me,
      g.I.LinkState.state c.read_shift.new.input,
    ) in
    let on : is_over c.in-Ok.shift ≡ false = search rules in
    let did : ReadShift (Ok c.in-Ok.shift) a b = subst (λ (r : Result Shift Error). ReadShift r a b) c.in-Ok.is
    c.read_shift.ensures.shift in (
      c.read_shift.ensures.own.0 ∙ i.0,
      c.read_shift.ensures.own.1 ∙ i.1,
      read_faults c.in-Ok.shift a b did ∙ i.2,
      grew_on _ _ _ _ i.3 (subst (λ (o : Option ℕ). AddsEntries (by_read o) (claim_of a.0) (claim_of b.0)) i.1
          c.read_shift.ensures.only),
      repeats_more _ _ a b i.4 (c.in-Ok.shift, (on, did)),
    )

pub returns-in-Err-clause-only : goal.returns-in-Err-clause-only
returns-in-Err-clause-only g c =
    let i = c.loop.invariant in
    grew_on _ _ _ _ i.3
    (subst (λ (o : Option ℕ). AddsEntries (by_read o) (claim_of c.loop.seat.inner.me)
    (claim_of c.read_shift.new.seat.inner.me)) i.1 c.read_shift.ensures.only)

pub returns-in-Err-clause-rounds : goal.returns-in-Err-clause-rounds
returns-in-Err-clause-rounds g c =
    let i = c.loop.invariant in
    let a : WorkerState g.I.LinkState.Service = (c.loop.seat.inner.me, g.I.LinkState.state c.loop.input) in
    let b : WorkerState g.I.LinkState.Service = (
      c.read_shift.new.seat.inner.me,
      g.I.LinkState.state c.read_shift.new.input,
    ) in
    (a, (i.4, subst (λ (r : Result Shift Error). ReadShift r a b) c.in-Err.is c.read_shift.ensures.shift))

pub returns-then-is_over-clause-only : goal.returns-then-is_over-clause-only
returns-then-is_over-clause-only g c =
    let i = c.loop.invariant in
    grew_on _ _ _ _ i.3
    (subst (λ (o : Option ℕ). AddsEntries (by_read o) (claim_of c.loop.seat.inner.me)
    (claim_of c.read_shift.new.seat.inner.me)) i.1 c.read_shift.ensures.only)

pub returns-then-is_over-clause-rounds : goal.returns-then-is_over-clause-rounds
returns-then-is_over-clause-rounds g c =
    let i = c.loop.invariant in
    let a : WorkerState g.I.LinkState.Service = (c.loop.seat.inner.me, g.I.LinkState.state c.loop.input) in
    let b : WorkerState g.I.LinkState.Service = (
      c.read_shift.new.seat.inner.me,
      g.I.LinkState.state c.read_shift.new.input,
    ) in
    let yes : is_over c.in-Ok.shift ≡ true = search rules in
    let is = c.in-Ok.is ∙ ap (λ s. Ok s) (over_as c.in-Ok.shift yes) in
    (a, (i.4, subst (λ (r : Result Shift Error). ReadShift r a b) is c.read_shift.ensures.shift))

pub returns-then-is_over-clause-answered : goal.returns-then-is_over-clause-answered
returns-then-is_over-clause-answered g c =
    let a : WorkerState g.I.LinkState.Service = (c.loop.seat.inner.me, g.I.LinkState.state c.loop.input) in
    let b : WorkerState g.I.LinkState.Service = (
      c.read_shift.new.seat.inner.me,
      g.I.LinkState.state c.read_shift.new.input,
    ) in
    let yes : is_over c.in-Ok.shift ≡ true = search rules in
    let is = c.in-Ok.is ∙ ap (λ s. Ok s) (over_as c.in-Ok.shift yes) in
    read_sees a b (subst (λ (r : Result Shift Error). ReadShift r a b) is c.read_shift.ensures.shift)
