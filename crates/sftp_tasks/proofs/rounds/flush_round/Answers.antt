use Rattle.std.proofs.Common.{rules, ◌≡◌, ◌∙◌, ap, subst, sym, refl, inl, inr, arith, Ok, true, false, IfOk, IfErr, ℕ, Option, Bool}
use Rattle.std.specs.Prelude.{Result}
use Rattle.session_seats.specs.Holds.{AddsEntries, claim_of, no_allowance}
use Rattle.session_seats.proofs.GrowLaws.{grew_applied}
use Rattle.sftp_model.specs.declared.error.Error.{Error}
use Rattle.sftp_tasks.specs.declared.frames.Handed.{Handed}
use Rattle.sftp_tasks.specs.Entries.{by_failing, by_flush, by_nothing}
use Rattle.sftp_tasks.specs.LockedEvents.{HandingOut, UnlessFault}
use Rattle.sftp_tasks.specs.Rounds.{FlushStops, FlushesOnce, FlushesRound}
use Rattle.sftp_tasks.specs.Shows.{shown_of}
use Rattle.sftp_tasks.proofs.CallLaws.{settled_err, settled_ok}
use Rattle.sftp_tasks.proofs.GroupLaws.{flushed, unsent_part}
use Rattle.sftp_tasks.proofs.HoldLaws.{handed_unwritten}
use Rattle.sftp_tasks.proofs.RoundLaws.{flush_then_failing, flush_then_nothing, hand_refused, handed_none}
use Rattle.sftp_tasks.proofs.rounds.flush_round.Goals as goal

pub returns-in-Ok-None-clause-only : goal.returns-in-Ok-None-clause-only
returns-in-Ok-None-clause-only g c =
    grew_applied shown_of by_flush c.args.seat.now.lane no_allowance c.args.seat.now.inner.me
    c.apply-did.new.self.inner.me c.apply-did.ensures.held

pub returns-in-Ok-None-clause-flushes : goal.returns-in-Ok-None-clause-flushes
returns-in-Ok-None-clause-flushes g c =
    let m = c.args.seat.now.inner.me in
    let n = c.apply-did.new.self.inner.me in
    let before = g.O.LinkState.state c.args.out.now in
    let is = c.in-Ok-None.is ∙ ap (λ o. Ok o) c.in-Ok-None.field-0-is in
    subst (λ (r : Result Bool Error). IfOk r (λ did. FlushesRound did m n before before)) (sym c.settle.ensures)
    (settled_ok false c.apply-did.result.1 (λ did. FlushesRound did m n before before)
    (handed_none m n before c.apply-did.result.0 is c.apply-did.ensures.held))

pub returns-in-Ok-None-clause-stops : goal.returns-in-Ok-None-clause-stops
returns-in-Ok-None-clause-stops g c =
    let m = c.args.seat.now.inner.me in
    let n = c.apply-did.new.self.inner.me in
    let before = g.O.LinkState.state c.args.out.now in
    let is = c.in-Ok-None.is ∙ ap (λ o. Ok o) c.in-Ok-None.field-0-is in
    subst (λ (r : Result Bool Error). IfErr r (λ e. FlushStops e m n before before)) (sym c.settle.ensures)
    (settled_err false c.apply-did.result.1 (λ e. FlushStops e m n before before)
    (inr (inr (refl, (false, handed_none m n before c.apply-did.result.0 is c.apply-did.ensures.held)))))

pub returns-in-Err-clause-only : goal.returns-in-Err-clause-only
returns-in-Err-clause-only g c =
    grew_applied shown_of by_flush c.args.seat.now.lane no_allowance c.args.seat.now.inner.me
    c.apply-did.new.self.inner.me c.apply-did.ensures.held

pub returns-in-Err-clause-stops : goal.returns-in-Err-clause-stops
returns-in-Err-clause-stops g c =
    inl (hand_refused c.args.seat.now.inner.me c.apply-did.new.self.inner.me (g.O.LinkState.state c.args.out.now)
    c.apply-did.result.0 c.in-Err.e (search rules) c.apply-did.ensures.held)

pub returns-clause-only : goal.returns-clause-only
returns-clause-only g c =
    let lane = c.args.seat.now.lane in
    let n = c.apply-did.new.self.inner.me in
    let at = c.send_groups.new.seat.inner.me in
    flush_then_failing lane _ _ _
    (flush_then_nothing lane _ _ _
    (grew_applied shown_of by_flush lane no_allowance c.args.seat.now.inner.me n c.apply-did.ensures.held)
    (subst (λ (l : Option ℕ). AddsEntries (by_nothing l) (claim_of n) (claim_of at)) c.apply-did.ensures.lane
    c.send_groups.ensures.only))
    (subst (λ (l : Option ℕ). AddsEntries (by_failing l) (claim_of at) (claim_of c.stop.new.seat.inner.me))
    (c.send_groups.ensures.own.1 ∙ c.apply-did.ensures.lane) c.stop.ensures.only)

pub returns-clause-stops : goal.returns-clause-stops
returns-clause-stops g c =
    let is = c.in-Ok-Some.is ∙ ap (λ o. Ok o) c.in-Ok-Some.field-0-is in
    inr (inl (unsent_part c.args.seat.now.inner.me c.apply-did.new.self.inner.me c.apply-did.result.0
    c.in-Ok-Some.handed (g.O.LinkState.state c.args.out.now) (g.O.LinkState.state c.send_groups.new.out)
    c.send_groups.new.seat.inner.me c.stop.new.seat.inner.me c.in-Err-send_groups.e _ is c.apply-did.ensures.held
    c.in-Err-send_groups.ensures.sends c.stop.ensures.stops))

pub returns-in-Ok-clause-only : goal.returns-in-Ok-clause-only
returns-in-Ok-clause-only g c =
    let lane = c.args.seat.now.lane in
    let n = c.apply-did.new.self.inner.me in
    flush_then_nothing lane _ _ _
    (grew_applied shown_of by_flush lane no_allowance c.args.seat.now.inner.me n c.apply-did.ensures.held)
    (subst (λ (l : Option ℕ). AddsEntries (by_nothing l) (claim_of n) (claim_of c.send_groups.new.seat.inner.me))
    c.apply-did.ensures.lane c.send_groups.ensures.only)

pub returns-in-Ok-clause-flushes : goal.returns-in-Ok-clause-flushes
returns-in-Ok-clause-flushes g c =
    let m = c.args.seat.now.inner.me in
    let end = c.send_groups.new.seat.inner.me in
    let before = g.O.LinkState.state c.args.out.now in
    let after = g.O.LinkState.state c.send_groups.new.out in
    let is = c.in-Ok-Some.is ∙ ap (λ o. Ok o) c.in-Ok-Some.field-0-is in
    let did : FlushesOnce m end before after = flushed m c.apply-did.new.self.inner.me c.apply-did.result.0
    c.in-Ok-Some.handed before after end is c.apply-did.ensures.held c.in-Ok.ensures.sends in
    subst (λ (r : Result Bool Error). IfOk r (λ did. FlushesRound did m end before after))
    (sym c.settle-in-Ok.ensures)
    (settled_ok true c.apply-did.result.1 (λ did. FlushesRound did m end before after) did)

pub returns-in-Ok-clause-stops : goal.returns-in-Ok-clause-stops
returns-in-Ok-clause-stops g c =
    let m = c.args.seat.now.inner.me in
    let end = c.send_groups.new.seat.inner.me in
    let before = g.O.LinkState.state c.args.out.now in
    let after = g.O.LinkState.state c.send_groups.new.out in
    let is = c.in-Ok-Some.is ∙ ap (λ o. Ok o) c.in-Ok-Some.field-0-is in
    let did : FlushesOnce m end before after = flushed m c.apply-did.new.self.inner.me c.apply-did.result.0
    c.in-Ok-Some.handed before after end is c.apply-did.ensures.held c.in-Ok.ensures.sends in
    subst (λ (r : Result Bool Error). IfErr r (λ e. FlushStops e m end before after))
    (sym c.settle-in-Ok.ensures)
    (settled_err true c.apply-did.result.1 (λ e. FlushStops e m end before after) (inr (inr (refl, (true, did)))))

pub send_groups-requires-clause-unwritten : goal.send_groups-requires-clause-unwritten
send_groups-requires-clause-unwritten g c =
    let h = c.apply-did.ensures.held in
    let is = c.in-Ok-Some.is ∙ ap (λ o. Ok o) c.in-Ok-Some.field-0-is in
    let r = subst (λ (x : Result (Option Handed) Error). UnlessFault HandingOut h.before h.after x) is h.did.does in
    let all = handed_unwritten c.args.seat.now.inner.me c.apply-did.new.self.inner.me h c.in-Ok-Some.handed r in
    let number = r.0.1.0.1.number in
    omega (arith, all, number)
