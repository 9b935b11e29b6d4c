use Rattle.std.proofs.Common.{◌∙◌, ap, subst, refl, inl, inr, Ok, Bool, ℕ, Option}
use Rattle.std.specs.Prelude.{Result, IfOk, IfErr}
use Rattle.session_seats.specs.Holds.{AddsEntries, claim_of}
use Rattle.session_seats.proofs.GrowLaws.{grew_on}
use Rattle.sftp_model.specs.declared.error.Error.{Error}
use Rattle.sftp_tasks.specs.Calls.{InOneHold}
use Rattle.sftp_tasks.specs.Entries.{by_flush, by_nothing}
use Rattle.sftp_tasks.specs.LockedEvents.{TellsStage}
use Rattle.sftp_tasks.specs.Rounds.{FlushStops, FlushesRound}
use Rattle.sftp_tasks.specs.Workers.{SentNone}
use Rattle.sftp_tasks.proofs.RoundLaws.{nothing_flushes_all}
use Rattle.sftp_tasks.proofs.workers.flush_shift.Goals as goal

pub returns-in-Ok-true-clause-shift : goal.returns-in-Ok-true-clause-shift
returns-in-Ok-true-clause-shift g c =
    let before = g.O.LinkState.state c.args.out.now in
    let after = g.O.LinkState.state c.flush_round.new.out in
    let is = c.in-Ok-true.is ∙ ap (λ o. Ok o) c.in-Ok-true.field-0-test in
    inl (
      refl,
      subst (λ (r : Result Bool Error). IfOk r (λ did. FlushesRound did c.args.seat.now.inner.me
          c.flush_round.new.seat.inner.me before after)) is
          c.flush_round.ensures.flushes,
    )

pub returns-in-Err-clause-shift : goal.returns-in-Err-clause-shift
returns-in-Err-clause-shift g c =
    let before = g.O.LinkState.state c.args.out.now in
    let after = g.O.LinkState.state c.flush_round.new.out in
    inl (subst (λ (r : Result Bool Error). IfErr r (λ e. FlushStops e c.args.seat.now.inner.me
    c.flush_round.new.seat.inner.me before after)) c.in-Err.is
    c.flush_round.ensures.stops)

pub returns-in-Ok-clause-only : goal.returns-in-Ok-clause-only
returns-in-Ok-clause-only g c =
    let lane = c.args.seat.now.lane in
    let mid = c.flush_round.new.seat.inner.me in
    let n = c.stage.new.seat.inner.me in
    grew_on (by_flush lane) _ _ _ c.flush_round.ensures.only
    (nothing_flushes_all lane _ _ (subst (λ (o : Option ℕ). AddsEntries (by_nothing o) (claim_of mid) (claim_of n))
    c.flush_round.ensures.own.1 c.stage.ensures.only))

pub returns-in-Err-stage-clause-only : goal.returns-in-Err-stage-clause-only
returns-in-Err-stage-clause-only g c =
    let lane = c.args.seat.now.lane in
    let mid = c.flush_round.new.seat.inner.me in
    let n = c.stage.new.seat.inner.me in
    grew_on (by_flush lane) _ _ _ c.flush_round.ensures.only
    (nothing_flushes_all lane _ _ (subst (λ (o : Option ℕ). AddsEntries (by_nothing o) (claim_of mid) (claim_of n))
    c.flush_round.ensures.own.1 c.stage.ensures.only))

pub returns-in-Ok-clause-shift : goal.returns-in-Ok-clause-shift
returns-in-Ok-clause-shift g c =
    let m = c.args.seat.now.inner.me in
    let mid = c.flush_round.new.seat.inner.me in
    let n = c.stage.new.seat.inner.me in
    let before = g.O.LinkState.state c.args.out.now in
    let after = g.O.LinkState.state c.flush_round.new.out in
    let is = c.in-Ok-false.is ∙ ap (λ o. Ok o) c.in-Ok-false.field-0-test in
    let none : SentNone (Ok c.in-Ok.stage) (m, before) (n, after) = record {
      mid = mid;
      none = subst (λ (r : Result Bool Error). IfOk r (λ did. FlushesRound did m mid before after)) is
          c.flush_round.ensures.flushes;
      looks = subst (λ (r : Result ℕ Error). InOneHold TellsStage r mid n) c.in-Ok.is c.stage.ensures.looks;
    } in
    inr (c.in-Ok.stage, (c.over_if.ensures, none))

pub returns-in-Err-stage-clause-shift : goal.returns-in-Err-stage-clause-shift
returns-in-Err-stage-clause-shift g c =
    let m = c.args.seat.now.inner.me in
    let mid = c.flush_round.new.seat.inner.me in
    let n = c.stage.new.seat.inner.me in
    let before = g.O.LinkState.state c.args.out.now in
    let after = g.O.LinkState.state c.flush_round.new.out in
    let is = c.in-Ok-false.is ∙ ap (λ o. Ok o) c.in-Ok-false.field-0-test in
    inr record {
      mid = mid;
      none = subst (λ (r : Result Bool Error). IfOk r (λ did. FlushesRound did m mid before after)) is
          c.flush_round.ensures.flushes;
      looks = subst (λ (r : Result ℕ Error). InOneHold TellsStage r mid n) c.in-Err-stage.is c.stage.ensures.looks;
    }
