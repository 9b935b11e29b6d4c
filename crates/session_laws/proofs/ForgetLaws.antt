-- A lane that runs no call drops a ticket that no slot awaits.
use Rattle.std.proofs.Common.{◌≡◌, ◌≢◌, ℕ, true, false, List, [], Option, Some, None, refl, ap, sym, ◌∙◌, subst}
use Rattle.std.specs.Prelude.{length, slice_get, ◌⊎◌, ◌<◌, ◌≤◌, ◌^◌, Bool, ◌∷◌}
use Rattle.sftp_model.specs.declared.reply.Reply.TheVariants as reply
use Rattle.sftp_core.specs.Core.{core_after_abandon, record_at, is_ticket, reply_in, Core}
use Rattle.plan_model.specs.Moves.{Own}
use Rattle.plan_runner.specs.declared.next.Running.{Running}
use Rattle.session_model.specs.declared.entry.Entry.{Entry}
use Rattle.session_model.specs.Readings.{asked_at, count_ended, own}
use Rattle.session_model.specs.Grants.{is_asked_by, is_grant, is_granted}
use Rattle.session_model.proofs.CallLaws.{asker_owns, has_place}
use Rattle.session_laws.specs.Changes.{spent_lane}
use Rattle.session_laws.specs.Lanes.{LaneGoes, LaneTied, LaneValue, ticket_places, Ticketed}
use Rattle.session_laws.specs.Places.{is_in}
use Rattle.session_laws.proofs.CloseLaws.{in_left}
use Rattle.session_laws.proofs.HoldLaws.{ticket_index, ticket_without}
use Rattle.session_laws.proofs.LaneLaws.{dropped_lane, replies_agree, tickets_count}
use Rattle.session_laws.proofs.PlaceLaws.{at_in}
use Rattle.session_laws.proofs.SessionLaws.{each_with}
use Rattle.session_laws.proofs.TurnLaws.{dropped_keeps}
use Rattle.session_laws.specs.Rest.{LaneAsks, AtRest}
use Rattle.session_laws.proofs.AskedLaws.{idle_asks, idle_transfers}
use Rattle.session_laws.proofs.BudgetLaws.{spends_with}
use Rattle.session_laws.proofs.KeptLaws.{kept_abandoned}
use Rattle.session_laws.proofs.CountedLaws.{counted_drop, weigh_drop}
use Rattle.session_laws.proofs.TransferLaws.{transfer_ungranted}
use Rattle.plan_runner.specs.Pending.{slots_times}
use Rattle.plan_runner.specs.Sound.{KeepsSite as Stays}
use Rattle.session_model.specs.Calls.{Setting}
use Rattle.session_laws.specs.Ends.{ForgetsTicket}

-- a lane that runs no call has no request of its next one
unasked : (past : List Entry) (lane p : ℕ) → own past lane (count_ended past lane) ≡ []
    → is_asked_by (asked_at past p) lane (count_ended past lane) ≡ true → ⊥
unasked past lane p none asks =
    (let has : has_place (own past lane (count_ended past lane)) p ≡ true =
    asker_owns past lane (count_ended past lane) p asks in
    let clash : false ≡ true = sym (ap (λ (o : Own). has_place o p) none) ∙ has in cc)

-- A lane that runs no call drops a ticket that no slot awaits.
pub unawaited_forgotten : (s : Setting) (past : List Entry) (core : Core) (lanes : ℕ → LaneValue) (begun : ℕ → Bool)
    (lane k : ℕ) (t : Ticketed) → AtRest s past core lanes begun → lane < length s.lanes → (lanes lane).running ≡ None
    → slice_get (lanes lane).tickets k ≡ Some t → slots_times t.place (lanes lane).site.slots ≡ 0
    → ForgetsTicket s past core lanes begun lane k t
unawaited_forgotten s past core lanes begun lane k t h there idle here unawaited =
    let v : LaneValue = lanes lane in
    let ps : List ℕ = ticket_places v.tickets in
    let b = h.between in
    let a : LaneAsks past lane v = b.asks lane there in
    let l : LaneTied s past lane v [] = b.tied.each lane there in
    let at_k : slice_get ps k ≡ Some t.place = ticket_index v.tickets k t here in
    let plain : is_grant past t.place ≡ false = transfer_ungranted s past t.place b.good.run
    (idle_transfers past lane t.place v idle a (at_in ps k t.place at_k)) in
    let ungranted : (handle : List ℕ) → reply_in (record_at core t.ticket) ≢ Some (reply.Handle handle) =
    λ handle came. (let clash : false ≡ true = sym plain ∙ ap is_granted
    (sym (replies_agree s past core lanes [] lane k t b.tied there here) ∙ came) in absurd cc) in
    let ticket : is_ticket (record_at core t.ticket) ≡ true = tickets_count s past core lanes [] lane k t b.tied there
    here in
    let goes : LaneGoes s past lane None v.site ps = subst (λ (x : Option Running). LaneGoes s past lane x v.site ps)
    idle l.goes in
    let left : LaneValue = spent_lane v k None v.site in
    record {
      rest = record {
        between = record {
          good = b.good;
          due = b.due;
          tied = dropped_keeps s past core lanes [] lane k t None v.site b.tied there here plain
              (λ asks none. unasked past lane t.place goes.runs.0 asks)
              (dropped_lane s past lane k t.place None v.site ps goes at_k unawaited);
          counted = counted_drop past core t.ticket ticket ungranted b.counted;
          spends = spends_with s past past core (core_after_abandon core t.ticket) lanes lane left (λ l lt. refl)
              (sym idle) (kept_abandoned core t.ticket) b.spends;
          asks = each_with (λ w x. LaneAsks past w x) lanes lane left (length s.lanes)
              (idle_asks past lane left refl (λ p has. idle_transfers past lane p v idle a
              (in_left ps k p (ap (is_in p) (sym (ticket_without v.tickets k)) ∙ has))))
              (λ w lt ne. b.asks w lt);
        };
        settled = h.settled;
      };
      work = weigh_drop core t.ticket ticket ungranted;
    }
