use Rattle.std.proofs.Common.{◌∙◌, ap, subst, refl, inl, inr, Ok, Bool, ℕ, Option}
use Rattle.std.specs.Prelude.{Result, IfOk, IfErr}
use Rattle.session_seats.specs.Holds.{AddsEntries, claim_of}
use Rattle.session_seats.proofs.GrowLaws.{grew_on}
use Rattle.sftp_model.specs.declared.error.Error.{Error}
use Rattle.sftp_tasks.specs.Calls.{InOneHold}
use Rattle.sftp_tasks.specs.Entries.{by_read, by_nothing}
use Rattle.sftp_tasks.specs.LockedEvents.{SettlesEnd}
use Rattle.sftp_tasks.specs.Rounds.{ReadStops, ReadsRound}
use Rattle.sftp_tasks.specs.Workers.{ReadNone}
use Rattle.sftp_tasks.proofs.RoundLaws.{nothing_reads_all}
use Rattle.sftp_tasks.proofs.workers.read_shift.Goals as goal

pub returns-in-Ok-true-clause-shift : goal.returns-in-Ok-true-clause-shift
returns-in-Ok-true-clause-shift g c =
    let before = g.I.LinkState.state c.args.input.now in
    let after = g.I.LinkState.state c.read_round.new.input in
    let is = c.in-Ok-true.is ∙ ap (λ o. Ok o) c.in-Ok-true.field-0-test in
    inl (
      refl,
      subst (λ (r : Result Bool Error). IfOk r (λ did. ReadsRound did c.args.seat.now.inner.me
          c.read_round.new.seat.inner.me before after)) is
          c.read_round.ensures.reads,
    )

pub returns-in-Err-clause-shift : goal.returns-in-Err-clause-shift
returns-in-Err-clause-shift g c =
    let before = g.I.LinkState.state c.args.input.now in
    let after = g.I.LinkState.state c.read_round.new.input in
    inl (subst (λ (r : Result Bool Error). IfErr r (λ e. ReadStops e c.args.seat.now.inner.me
    c.read_round.new.seat.inner.me before after)) c.in-Err.is
    c.read_round.ensures.stops)

pub returns-in-Ok-clause-only : goal.returns-in-Ok-clause-only
returns-in-Ok-clause-only g c =
    let lane = c.args.seat.now.lane in
    let mid = c.read_round.new.seat.inner.me in
    let n = c.finish.new.seat.inner.me in
    grew_on (by_read lane) _ _ _ c.read_round.ensures.only
    (nothing_reads_all lane _ _ (subst (λ (o : Option ℕ). AddsEntries (by_nothing o) (claim_of mid) (claim_of n))
    c.read_round.ensures.own.1 c.finish.ensures.only))

pub returns-in-Err-finish-clause-only : goal.returns-in-Err-finish-clause-only
returns-in-Err-finish-clause-only g c =
    let lane = c.args.seat.now.lane in
    let mid = c.read_round.new.seat.inner.me in
    let n = c.finish.new.seat.inner.me in
    grew_on (by_read lane) _ _ _ c.read_round.ensures.only
    (nothing_reads_all lane _ _ (subst (λ (o : Option ℕ). AddsEntries (by_nothing o) (claim_of mid) (claim_of n))
    c.read_round.ensures.own.1 c.finish.ensures.only))

pub returns-in-Ok-clause-shift : goal.returns-in-Ok-clause-shift
returns-in-Ok-clause-shift g c =
    let m = c.args.seat.now.inner.me in
    let mid = c.read_round.new.seat.inner.me in
    let n = c.finish.new.seat.inner.me in
    let before = g.I.LinkState.state c.args.input.now in
    let after = g.I.LinkState.state c.read_round.new.input in
    let is = c.in-Ok-false.is ∙ ap (λ o. Ok o) c.in-Ok-false.field-0-test in
    let none : ReadNone (Ok c.in-Ok.all) (m, before) (n, after) = record {
      mid = mid;
      none = subst (λ (r : Result Bool Error). IfOk r (λ did. ReadsRound did m mid before after)) is
          c.read_round.ensures.reads;
      looks = subst (λ (r : Result Bool Error). InOneHold SettlesEnd r mid n) c.in-Ok.is c.finish.ensures.looks;
    } in
    inr (c.in-Ok.all, (c.over_if.ensures, none))

pub returns-in-Err-finish-clause-shift : goal.returns-in-Err-finish-clause-shift
returns-in-Err-finish-clause-shift g c =
    let m = c.args.seat.now.inner.me in
    let mid = c.read_round.new.seat.inner.me in
    let n = c.finish.new.seat.inner.me in
    let before = g.I.LinkState.state c.args.input.now in
    let after = g.I.LinkState.state c.read_round.new.input in
    let is = c.in-Ok-false.is ∙ ap (λ o. Ok o) c.in-Ok-false.field-0-test in
    inr record {
      mid = mid;
      none = subst (λ (r : Result Bool Error). IfOk r (λ did. ReadsRound did m mid before after)) is
          c.read_round.ensures.reads;
      looks = subst (λ (r : Result Bool Error). InOneHold SettlesEnd r mid n) c.in-Err-finish.is c.finish.ensures.looks;
    }
