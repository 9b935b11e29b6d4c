-- A call is cancelled and has ended: its lane gave up what the call awaited, and the grants that no slot has are due.
use Rattle.std.proofs.Common.{
  ◌≡◌,
  ◌≢◌,
  ◌<◌,
  ◌≤◌,
  ◌+◌,
  ◌==◌,
  ℕ,
  Bool,
  true,
  false,
  List,
  [],
  ◌∷◌,
  ◌++◌,
  Option,
  Some,
  None,
  refl,
  ap,
  sym,
  ◌∙◌,
  subst,
  arith,
  if◌then◌else◌,
}
use Rattle.std.specs.Prelude.{is_some, length, slice_get, ◌⊎◌, ◌^◌}
use Rattle.std.proofs.lemmas.Bool.{eq-eqb, false_from_ne_true}
use Rattle.sftp_model.specs.declared.outcome.Outcome.TheVariants as outcome
use Rattle.sftp_model.specs.declared.reply.Reply.{Reply}
use Rattle.sftp_model.specs.declared.reply.Reply.TheVariants as reply
use Rattle.sftp_model.specs.Slots.{has_grant}
use Rattle.sftp_model.specs.declared.slot.Site.{Site}
use Rattle.sftp_core.specs.Core.{Core, core_after_abandon, after_poll, record_at, reply_in}
use Rattle.plan_runner.specs.declared.next.Running.{Running}
use Rattle.plan_runner.specs.Cancelling.{left_behind}
use Rattle.plan_runner.specs.Runners.{bytes_of}
use Rattle.plan_runner.specs.Pending.{AwaitsNoMore, one, own_place, pends, reads_under, slots_times, with_one, with_reads}
use Rattle.plan_window.specs.declared.window.ReadAt.{ReadAt}
use Rattle.plan_runner.specs.Sound.{KeepsSite as Stays}
use Rattle.plan_model.specs.declared.call.Call.{Call}
use Rattle.session_model.specs.declared.event.Event.TheVariants.{Cancel}
use Rattle.session_model.specs.declared.entry.Entry.{Entry}
use Rattle.session_model.specs.declared.entry.Entry.TheVariants as entry
use Rattle.session_model.specs.Readings.{answer, asked_at, count_ended, own}
use Rattle.session_model.specs.Calls.{Setting, current, has_waited, held_site, site_of}
use Rattle.session_model.specs.Grants.{is_asked_by, is_grant, is_granted, is_unended_asker}
use Rattle.session_model.specs.Journals.{IsJournal, IsNext, is_some_asked}
use Rattle.session_model.specs.Steady.{IsCancellableRun}
use Rattle.session_model.specs.Turns.{begun_but}
use Rattle.session_model.proofs.CallLaws.{cancelled_next, ended_end, may_next}
use Rattle.session_model.proofs.HolderLaws.{slots_owned}
use Rattle.session_model.proofs.PlannedLaws.{held_less}
use Rattle.session_model.proofs.RunLaws.{end_good, wait_more}
use Rattle.session_laws.specs.Changes.{grant_of_ticket, ended_lane, granted_lane, spent_lane, with_lane}
use Rattle.session_laws.specs.Dues.{AreDueGrants, unheld_of}
use Rattle.session_laws.specs.Lanes.{LaneGoes, LaneTied, LaneValue, SessionTied, Ticketed, grant_places, ticket_places, tickets_for}
use Rattle.session_laws.specs.Places.{IsBelow, is_in, without_index}
use Rattle.session_laws.specs.Running.{site_if_cancelled}
use Rattle.session_laws.proofs.CloseLaws.{in_left}
use Rattle.session_laws.proofs.HandleLaws.{handles_are_newer}
use Rattle.session_laws.proofs.HoldLaws.{in_more, places_push, ticket_index, ticket_without}
use Rattle.session_laws.proofs.LaneLaws.{cancelled_lane, dropped_lane, replies_agree, slots_agree, tickets_count}
use Rattle.session_laws.proofs.LetGoTied.{more_due_tied}
use Rattle.session_laws.proofs.OrderLaws.{asked_before}
use Rattle.session_laws.proofs.PlaceLaws.{at_in, push_self, without_self}
use Rattle.session_laws.proofs.ReplyLaws.{cancel_keeps, end_keeps}
use Rattle.session_laws.proofs.RestLaws.{cancel_dues, cancelled_dues, ended_dues}
use Rattle.session_laws.proofs.SessionLaws.{each_with}
use Rattle.session_laws.proofs.TurnLaws.{dropped_keeps, granted_due_keeps}
use Rattle.session_laws.specs.Budgets.{KeepsIdBudget, kept_ids}
use Rattle.session_laws.specs.Ends.{CancelsRunning, Dropped, Kept, Polled, cancelled_past, GivesUp, LeavesSite}
use Rattle.session_laws.specs.Rest.{AtRest, CountsJournal, IsTransferAt, LaneAsks}
use Rattle.session_laws.proofs.AskedLaws.{asks_on, awaits_own, granted_own, idle_asks, none_own, other_transfers}
use Rattle.session_laws.proofs.BudgetLaws.{spending_end, spends_end}
use Rattle.session_laws.proofs.KeptLaws.{kept_abandoned, kept_polled}
use Rattle.session_laws.proofs.CountedLaws.{counted_drop, counted_polled, counted_same}
use Rattle.session_laws.proofs.TransferLaws.{transfer_on, transfer_ungranted}
use Rattle.sftp_model.specs.declared.request.Request.TheVariants as request

-- ---- a lane that changes twice

with_here : (lanes : ℕ → LaneValue) (lane : ℕ) (x : LaneValue) → with_lane lanes lane x lane ≡ x
with_here lanes lane x = ap (λ b. if b then x else lanes lane) (eq-eqb lane lane refl)

with_twice : (lanes : ℕ → LaneValue) (lane : ℕ) (x y : LaneValue) (w : ℕ) → with_lane (with_lane lanes lane x) lane y w
    ≡ with_lane lanes lane y w
with_twice lanes lane x y w = by_test (lane == w)
  where
    by_test : (b : Bool) → (if b then y else (if b then x else lanes w)) ≡ (if b then y else lanes w)
    by_test true = refl
    by_test false = refl

tied_twice : (s : Setting) (past : List Entry) (core : Core) (lanes : ℕ → LaneValue) (lane : ℕ) (x : LaneValue)
    (f : LaneValue → LaneValue) (dues : List ℕ)
    → SessionTied s past core (with_lane (with_lane lanes lane x) lane (f (with_lane lanes lane x lane))) dues
    → SessionTied s past core (with_lane lanes lane (f x)) dues
tied_twice s past core lanes lane x f dues h =
    let same : with_lane (with_lane lanes lane x) lane (f (with_lane lanes lane x lane)) ≡ with_lane lanes lane (f x) =
    λ i w. (ap (λ (v : LaneValue). with_lane (with_lane lanes lane x) lane (f v) w) (with_here lanes lane x)
    ∙ with_twice lanes lane x (f x) w) i in
    subst (λ (l : ℕ → LaneValue). SessionTied s past core l dues) same h

-- ---- what is awaited

more_one : (o : Option ℕ) (q n : ℕ) → n ≤ with_one o q n
more_one None q n = omega arith
more_one (Some p) q n = omega arith

more_reads : (reads : List ReadAt) (q n : ℕ) → n ≤ with_reads reads q n
more_reads [] q n = omega arith
more_reads (r ∷ rest) q n = omega arith

has_one : (tickets : List ℕ) (q : ℕ) → tickets_for tickets q ≤ 1
has_one tickets q = by_test (is_in q tickets)
  where
    by_test : (b : Bool) → (if b then 1 else 0) ≤ 1
    by_test true = omega arith
    by_test false = omega arith

-- no slot awaits what the call awaits
own_alone : (running : Option Running) (site : Site) (tickets : List ℕ) (p : ℕ) → own_place running ≡ Some p
    → pends p running site ≤ tickets_for tickets p → pends p None site ≡ 0
own_alone running site tickets p own le =
    let n : ℕ = slots_times p site.slots in
    let here : one p p ≡ 1 = ap (λ (b : Bool). if b then 1 else 0) (eq-eqb p p refl) in
    let all : ℕ = with_reads (reads_under running) p n in
    let sum : pends p running site ≡ one p p + all = ap (λ (o : Option ℕ). with_one o p all) own in
    let more : n ≤ all = more_reads (reads_under running) p n in
    let top : tickets_for tickets p ≤ 1 = has_one tickets p in
    omega (arith, here, sum, more, top, le)

-- ---- the grants that are due

unheld_push : (site : Site) (p : ℕ) (gs : List ℕ) → has_grant site p ≡ false → unheld_of site (gs ++ p ∷ [])
    ≡ unheld_of site gs ++ p ∷ []
unheld_push site p [] out = ap (λ (b : Bool). if b then [] else p ∷ []) out
unheld_push site p (g ∷ gs) out = by_test (has_grant site g) (unheld_push site p gs out)
  where
    by_test : (b : Bool) → unheld_of site (gs ++ p ∷ []) ≡ unheld_of site gs ++ p ∷ []
        → (if b then unheld_of site (gs ++ p ∷ []) else g ∷ unheld_of site (gs ++ p ∷ []))
        ≡ (if b then unheld_of site gs else g ∷ unheld_of site gs) ++ p ∷ []
    by_test true e = e
    by_test false e = ap (λ (l : List ℕ). g ∷ l) e

-- a slot has no grant of the current call
unslotted : (s : Setting) (past : List Entry) (lane p : ℕ) (v : LaneValue) (dues : List ℕ) → IsJournal s past
    → LaneTied s past lane v dues → is_unended_asker past lane p ≡ true → has_grant v.site p ≡ false
unslotted s past lane p v dues j l mine = false_from_ne_true (has_grant v.site p) (λ has.
    let held : has_grant (held_site s past lane) p ≡ true = slots_agree s past lane v dues p l ∙ has in
    let owned = slots_owned s past lane p j (held_less (current s past lane) (own past lane (count_ended past lane))
    (site_of s past lane) p held) in
    let clash : p < p = asked_before s past lane owned.1.0 (count_ended past lane) p p j owned.1.1.1 mine owned.1.1.0 in
    absurd (omega (arith, clash)))

-- ---- both entries

-- what the lane's call leaves that is cancelled from here
abbrev Leaves : List Entry → Setting → Call → LaneValue → Site → Type 0
Leaves past s c v site = (r : Running) → v.running ≡ Some r → left_behind r (bytes_of c) v.site s.facts [] (answer past)
    ≡ site

-- The call of a lane was cancelled and has ended, and its slots are these; the core and the lane's tickets are as they
-- were.
record Ended (s : Setting) (past : List Entry) (core : Core) (lanes : ℕ → LaneValue) (begun : ℕ → Bool) (lane : ℕ)
    (site : Site) : Type 0 where
  pub first : IsNext s past (entry.Event (Cancel lane))
  pub good : IsCancellableRun s (cancelled_past past lane) (begun_but begun lane)
  pub goes : LaneGoes s (cancelled_past past lane) lane None site (ticket_places (lanes lane).tickets)
  pub mid : SessionTied s (entry.Event (Cancel lane) ∷ past) core lanes []
  pub due : AreDueGrants s (entry.Event (Cancel lane) ∷ past) []
  pub tied : SessionTied s (cancelled_past past lane) core (with_lane lanes lane (ended_lane (lanes lane) site))
      (unheld_of site (grant_places (lanes lane).grants))
  pub spends : (new : Core) (y : LaneValue) → y.running ≡ None → kept_ids new ≤ kept_ids core
      → KeepsIdBudget s (cancelled_past past lane) new (with_lane lanes lane y)

both_entries : (s : Setting) (past : List Entry) (core : Core) (lanes : ℕ → LaneValue) (begun : ℕ → Bool) (lane : ℕ)
    (c : Call) (site : Site) → AtRest s past core lanes begun → lane < length s.lanes → current s past lane ≡ Some c
    → begun lane ≡ true → is_some (lanes lane).running ≡ true → Leaves past s c (lanes lane) site
    → AwaitsNoMore (lanes lane).site site → Stays s.facts (lanes lane).site site
    → Ended s past core lanes begun lane site
both_entries s past core lanes begun lane c site h there is any runs leaves less stays =
    let e : Entry = entry.Event (Cancel lane) in
    let middle : List Entry = e ∷ past in
    let now : List Entry = cancelled_past past lane in
    let v : LaneValue = lanes lane in
    let b = h.between in
    let l : LaneTied s past lane v [] = b.tied.each lane there in
    let first : IsNext s past e = may_next s past e b.good.calm h.settled (
      (λ none. absurd (let clash : ◌≡◌ {A = Option Call} (Some c) None = sym is ∙ none in cc)),
      b.good.cancels lane any,
      b.good.ready,
    ) in
    let run : IsJournal s middle = (first, b.good.run) in
    let goes : LaneGoes s now lane None site (ticket_places v.tickets) =
    cancelled_lane s past lane v [] c outcome.Cancelled site l is run (left v.running refl runs)
    (stays.count ∙ l.goes.sixteen) (stays.limit l.goes.within) (λ q. fewer q (l.goes.awaits q)) in
    let mid : SessionTied s middle core lanes [] = cancel_keeps s past core lanes [] lane b.tied in
    let end : SessionTied s now core (with_lane lanes lane (ended_lane v site))
    (unheld_of (site_of s now lane) (grant_places v.grants)) =
    end_keeps s middle core lanes lane outcome.Cancelled site mid there (cancelled_next s past lane, run) goes in
    record {
      first = first;
      good = end_good s middle begun lane outcome.Cancelled run b.good.ready b.good.unkept
          (λ w begins. wait_more (is_some_asked (own past w (count_ended past w))) _ (has_waited s past w)
          (b.good.cancels w begins)) (cancelled_next s past lane);
      goes = goes;
      mid = mid;
      due = cancel_dues s past [] lane b.due;
      tied = subst (λ (x : Site). SessionTied s now core (with_lane lanes lane (ended_lane v site))
          (unheld_of x (grant_places v.grants))) (sym goes.runs.1) end;
      spends = λ new y idle less. spends_end s past now core new lanes lane c y there is
          (λ l ne. spending_end s middle l lane (count_ended past lane) outcome.Cancelled (lanes l).running ne) refl
          (ended_end middle lane (count_ended past lane) outcome.Cancelled) idle less b.spends;
    }
  where
    left : (x : Option Running) → (lanes lane).running ≡ x → is_some x ≡ true → site
        ≡ site_if_cancelled x c (lanes lane).site s.facts [] (answer past)
    left None running some = absurd cc
    left (Some r) running some = sym (leaves r running)

    fewer : (q : ℕ) → pends q (lanes lane).running (lanes lane).site ≤ tickets_for (ticket_places (lanes lane).tickets)
        q → pends q None site ≤ tickets_for (ticket_places (lanes lane).tickets) q
    fewer q le =
        (let all : ℕ = with_reads (reads_under (lanes lane).running) q (slots_times q (lanes lane).site.slots) in
        let more : all ≤ pends q (lanes lane).running (lanes lane).site =
        more_one (own_place (lanes lane).running) q all in
        let reads : slots_times q (lanes lane).site.slots ≤ all =
        more_reads (reads_under (lanes lane).running) q (slots_times q (lanes lane).site.slots) in
        let slots : slots_times q site.slots ≤ slots_times q (lanes lane).site.slots = less.each q in
        omega (arith, more, reads, slots, le))

-- so it is where the slots stay
same_entries : (s : Setting) (past : List Entry) (core : Core) (lanes : ℕ → LaneValue) (begun : ℕ → Bool) (lane : ℕ)
    (c : Call) → AtRest s past core lanes begun → lane < length s.lanes → current s past lane ≡ Some c → begun lane
    ≡ true → is_some (lanes lane).running ≡ true
    → Leaves past s c (lanes lane) (lanes lane).site → Ended s past core lanes begun lane (lanes lane).site
same_entries s past core lanes begun lane c h there is any runs leaves =
    both_entries s past core lanes begun lane c (lanes lane).site h there is any runs leaves
    (record { each = λ q. omega arith }) (record { count = refl; limit = λ within. within })

-- what stands behind both entries then, where the tickets that are left are those of READs and WRITEs
now_between : (s : Setting) (past : List Entry) (core new : Core) (lanes : ℕ → LaneValue) (begun : ℕ → Bool) (lane : ℕ)
    (site : Site) (y : LaneValue) → AtRest s past core lanes begun → Ended s past core lanes begun lane site → y.running
    ≡ None
    → ((p : ℕ) → is_in p (ticket_places y.tickets) ≡ true → IsTransferAt past p)
    → AreDueGrants s (cancelled_past past lane) (unheld_of y.site (grant_places y.grants))
    → SessionTied s (cancelled_past past lane) new (with_lane lanes lane y)
    (unheld_of y.site (grant_places y.grants)) → CountsJournal past new → kept_ids new ≤ kept_ids core
    → CancelsRunning s past new lanes begun lane y
now_between s past core new lanes begun lane site y h e idle transfers due tied counted less =
    let now : List Entry = cancelled_past past lane in
    let b = h.between in
    record {
      first = e.first;
      second = cancelled_next s past lane;
      between = record {
        good = e.good;
        due = due;
        tied = tied;
        counted = counted_same past now new refl refl counted;
        spends = e.spends new y idle less;
        asks = each_with (λ w x. LaneAsks now w x) lanes lane y (length s.lanes)
            (idle_asks now lane y idle (λ p has. transfer_on past now p (λ q below. refl) (transfers p has)))
            (λ w lt ne. asks_on past now w (lanes w) (λ p below. refl) (b.tied.each w lt).goes.awaits (b.asks w lt));
      };
    }

-- ---- the core gives up what was awaited

-- What both ways to give up a ticket have in common: it is that of the call's own request.
record GivenUp (s : Setting) (past : List Entry) (core : Core) (lanes : ℕ → LaneValue) (begun : ℕ → Bool) (lane : ℕ)
    (k : ℕ) (t : Ticketed) : Type 0 where
  pub rest : AtRest s past core lanes begun
  pub there : lane < length s.lanes
  pub here : slice_get (lanes lane).tickets k ≡ Some t
  pub own : own_place (lanes lane).running ≡ Some t.place
  pub ended : Ended s past core lanes begun lane (lanes lane).site

ticket_in : (v : LaneValue) (k : ℕ) (t : Ticketed) → slice_get v.tickets k ≡ Some t
    → is_in t.place (ticket_places v.tickets) ≡ true
ticket_in v k t here = at_in (ticket_places v.tickets) k t.place (ticket_index v.tickets k t here)

-- no other ticket has a HANDLE,
one_ticket : (s : Setting) (past : List Entry) (core : Core) (lanes : ℕ → LaneValue) (begun : ℕ → Bool) (lane k : ℕ)
    (t : Ticketed) → GivenUp s past core lanes begun lane k t → (q : ℕ) → is_in q (ticket_places (lanes lane).tickets)
    ≡ true → is_grant past q ≡ true → q ≡ t.place
one_ticket s past core lanes begun lane k t g q has grant =
    let b = g.rest.between in
    let mine : own_place (lanes lane).running ≡ Some q = granted_own s past lane q (lanes lane) b.good.run
    (b.asks lane g.there) has grant in
    let both : ◌≡◌ {A = Option ℕ} (Some q) (Some t.place) = sym mine ∙ g.own in cc

-- and READs and WRITEs are left without it
transfers_left : (s : Setting) (past : List Entry) (core : Core) (lanes : ℕ → LaneValue) (begun : ℕ → Bool) (lane k : ℕ)
    (t : Ticketed) → GivenUp s past core lanes begun lane k t → (q : ℕ)
    → is_in q (ticket_places (without_index k (lanes lane).tickets)) ≡ true → IsTransferAt past q
transfers_left s past core lanes begun lane k t g q has =
    let ps : List ℕ = ticket_places (lanes lane).tickets in
    let still : is_in q (without_index k ps) ≡ true = ap (is_in q) (sym (ticket_without (lanes lane).tickets k)) ∙ has
    in
    let gone : is_in t.place (without_index k ps) ≡ false = without_self ps k t.place
    (g.rest.between.tied.each lane g.there).holds.tied_rise (ticket_index (lanes lane).tickets k t g.here) in
    other_transfers past lane q (lanes lane) (g.rest.between.asks lane g.there)
    (λ mine. (let both : ◌≡◌ {A = Option ℕ} (Some q) (Some t.place) = sym mine ∙ g.own in
    let same : q ≡ t.place = cc in
    let clash : false ≡ true = sym gone ∙ (ap (λ (n : ℕ). is_in n (without_index k ps)) (sym same) ∙ still) in
    absurd cc))
    (in_left ps k q still)

-- it is one of the call that is cancelled
asked_it : (s : Setting) (past : List Entry) (core : Core) (lanes : ℕ → LaneValue) (begun : ℕ → Bool) (lane k : ℕ)
    (t : Ticketed) → GivenUp s past core lanes begun lane k t → is_unended_asker past lane t.place ≡ true
asked_it s past core lanes begun lane k t g = awaits_own past lane t.place (lanes lane)
    (g.rest.between.tied.each lane g.there).ends (g.rest.between.asks lane g.there) g.own

-- and the lane goes on without it
goes_without : (s : Setting) (past : List Entry) (core : Core) (lanes : ℕ → LaneValue) (begun : ℕ → Bool) (lane k : ℕ)
    (t : Ticketed) → GivenUp s past core lanes begun lane k t
    → LaneGoes s (cancelled_past past lane) lane None (lanes lane).site
    (without_index k (ticket_places (lanes lane).tickets))
goes_without s past core lanes begun lane k t g =
    let v : LaneValue = lanes lane in
    let ps : List ℕ = ticket_places v.tickets in
    let l : LaneTied s past lane v [] = g.rest.between.tied.each lane g.there in
    dropped_lane s (cancelled_past past lane) lane k t.place None v.site ps g.ended.goes
    (ticket_index v.tickets k t g.here) (own_alone v.running v.site ps t.place g.own (l.goes.awaits t.place))

-- ---- the ticket is dropped

drop_cancels : (s : Setting) (past : List Entry) (core : Core) (lanes : ℕ → LaneValue) (begun : ℕ → Bool) (lane k : ℕ)
    (t : Ticketed) → GivenUp s past core lanes begun lane k t →
    ((handle : List ℕ) → reply_in (record_at core t.ticket) ≢ Some (reply.Handle handle))
    → CancelsRunning s past (core_after_abandon core t.ticket) lanes begun lane
    (ended_lane (spent_lane (lanes lane) k None (lanes lane).site) (lanes lane).site)
drop_cancels s past core lanes begun lane k t g ungranted =
    let middle : List Entry = entry.Event (Cancel lane) ∷ past in
    let now : List Entry = cancelled_past past lane in
    let v : LaneValue = lanes lane in
    let b = g.rest.between in
    let x : LaneValue = ended_lane v v.site in
    let dues : List ℕ = unheld_of v.site (grant_places v.grants) in
    let is_x : with_lane lanes lane x lane ≡ x = with_here lanes lane x in
    let mine : is_unended_asker past lane t.place ≡ true = asked_it s past core lanes begun lane k t g in
    let plain : is_grant past t.place ≡ false = ap is_granted (sym
    (replies_agree s past core lanes [] lane k t b.tied g.there g.here))
    ∙ by_reply (reply_in (record_at core t.ticket)) refl in
    let more : count_ended now lane ≡ count_ended past lane + 1 =
    ended_end middle lane (count_ended past lane) outcome.Cancelled in
    let due : AreDueGrants s now dues = subst (λ (z : Site). AreDueGrants s now (unheld_of z (grant_places v.grants)))
    (sym g.ended.goes.runs.1)
    (ended_dues s middle core lanes lane outcome.Cancelled g.ended.mid g.there (g.ended.first, b.good.run) g.ended.due
    (λ p has. false_from_ne_true (is_grant past p) (λ grant.
    (let same : p ≡ t.place = one_ticket s past core lanes begun lane k t g p has grant in
    let clash : false ≡ true = sym plain ∙ (ap (is_grant past) (sym same) ∙ grant) in absurd cc)))) in
    now_between s past core (core_after_abandon core t.ticket) lanes begun lane v.site
    (ended_lane (spent_lane v k None v.site) v.site) g.rest g.ended refl
    (transfers_left s past core lanes begun lane k t g) due
    (tied_twice s now (core_after_abandon core t.ticket) lanes lane x (λ (z : LaneValue). spent_lane z k None v.site)
    dues
    (dropped_keeps s now core (with_lane lanes lane x) dues lane k t None v.site g.ended.tied g.there
    (ap (λ (z : LaneValue). slice_get z.tickets k) is_x ∙ g.here) plain
    (λ asks none.
    (let later : is_asked_by (asked_at past t.place) lane (count_ended past lane + 1) ≡ true =
    ap (λ (n : ℕ). is_asked_by (asked_at past t.place) lane n) (sym more) ∙ asks in
    let clash : t.place < t.place = asked_before s past lane (count_ended past lane) (count_ended past lane + 1) t.place
    t.place b.good.run mine later (omega arith) in
    absurd (omega (arith, clash))))
    (subst (λ (z : LaneValue). LaneGoes s now lane None v.site (without_index k (ticket_places z.tickets))) (sym is_x)
    (goes_without s past core lanes begun lane k t g))))
    (counted_drop past core t.ticket (tickets_count s past core lanes [] lane k t b.tied g.there g.here) ungranted
    b.counted) (kept_abandoned core t.ticket)
  where
    by_reply : (y : Option Reply) → reply_in (record_at core t.ticket) ≡ y → is_granted y ≡ false
    by_reply None is = refl
    by_reply (Some (reply.Handle handle)) is = absurd (ungranted handle is)
    by_reply (Some other) is = refl

-- ---- the HANDLE is polled

poll_cancels : (s : Setting) (past : List Entry) (core : Core) (lanes : ℕ → LaneValue) (begun : ℕ → Bool) (lane k : ℕ)
    (t : Ticketed) (handle : List ℕ) → GivenUp s past core lanes begun lane k t → reply_in (record_at core t.ticket)
    ≡ Some (reply.Handle handle)
    → CancelsRunning s past (after_poll core t.ticket) lanes begun lane
    (ended_lane (granted_lane (lanes lane) k t handle None (lanes lane).site) (lanes lane).site)
poll_cancels s past core lanes begun lane k t handle g came =
    let middle : List Entry = entry.Event (Cancel lane) ∷ past in
    let now : List Entry = cancelled_past past lane in
    let v : LaneValue = lanes lane in
    let p : ℕ = t.place in
    let b = g.rest.between in
    let l : LaneTied s past lane v [] = b.tied.each lane g.there in
    let x : LaneValue = ended_lane v v.site in
    let before : List ℕ = unheld_of v.site (grant_places v.grants) in
    let dues : List ℕ = unheld_of v.site (grant_places (v.grants ++ grant_of_ticket t handle ∷ [])) in
    let is_x : with_lane lanes lane x lane ≡ x = with_here lanes lane x in
    let has : is_in p (ticket_places v.tickets) ≡ true = ticket_in v k t g.here in
    let mine : is_unended_asker past lane p ≡ true = asked_it s past core lanes begun lane k t g in
    let got : answer past p ≡ Some (reply.Handle handle) = sym
    (replies_agree s past core lanes [] lane k t b.tied g.there g.here) ∙ came in
    let grant : is_grant past p ≡ true = ap is_granted got in
    let newer : IsBelow p (grant_places v.grants) = handles_are_newer s past lane p v [] l b.good.run has grant mine in
    let places : grant_places v.grants ++ p ∷ [] ≡ grant_places (v.grants ++ grant_of_ticket t handle ∷ []) =
    sym (places_push v.grants (grant_of_ticket t handle)) in
    let pushed : before ++ p ∷ [] ≡ dues = sym (unheld_push v.site p (grant_places v.grants)
    (unslotted s past lane p v [] b.good.run l mine)) ∙ ap (unheld_of v.site) places in
    let due : AreDueGrants s now dues = subst (λ (ps : List ℕ). AreDueGrants s now (unheld_of v.site ps)) places
    (subst (λ (z : Site). AreDueGrants s now (unheld_of z (grant_places v.grants ++ p ∷ []))) (sym g.ended.goes.runs.1)
    (cancelled_dues s middle core lanes lane p outcome.Cancelled g.ended.mid g.there (g.ended.first, b.good.run)
    g.ended.due has grant mine (λ q in_it granted. one_ticket s past core lanes begun lane k t g q in_it granted)))
    in
    let tied : SessionTied s now core (with_lane lanes lane x) dues =
    subst (λ (gs : List ℕ). SessionTied s now core (with_lane lanes lane x) gs) pushed
    (more_due_tied s now core (with_lane lanes lane x) before (before ++ p ∷ [])
    (λ q out. false_from_ne_true (is_in q before) (λ e. (let clash : true ≡ false = sym (in_more before p q e) ∙ out
    in absurd cc))) g.ended.tied) in
    now_between s past core (after_poll core t.ticket) lanes begun lane v.site
    (ended_lane (granted_lane v k t handle None v.site) v.site) g.rest g.ended refl
    (transfers_left s past core lanes begun lane k t g) due
    (tied_twice s now (after_poll core t.ticket) lanes lane x (λ (z : LaneValue). granted_lane z k t handle None v.site)
    dues
    (granted_due_keeps s now core (with_lane lanes lane x) dues lane k t handle None v.site due tied g.there
    (ap (λ (z : LaneValue). slice_get z.tickets k) is_x ∙ g.here) came
    (subst (λ (gs : List ℕ). is_in p gs ≡ true) pushed (push_self before p))
    (subst (λ (z : LaneValue). IsBelow p (grant_places z.grants)) (sym is_x) newer)
    (subst (λ (z : LaneValue). LaneGoes s now lane None v.site (without_index k (ticket_places z.tickets))) (sym is_x)
    (goes_without s past core lanes begun lane k t g))))
    (counted_polled past core t.ticket (reply.Handle handle) came b.counted)
    (kept_polled core t.ticket (reply.Handle handle) came).0

-- ---- the tickets are kept

keep_cancels : (s : Setting) (past : List Entry) (core : Core) (lanes : ℕ → LaneValue) (begun : ℕ → Bool) (lane : ℕ)
    (site : Site) → AtRest s past core lanes begun → lane < length s.lanes → own_place (lanes lane).running ≡ None
    → Ended s past core lanes begun lane site → CancelsRunning s past core lanes begun lane
    (ended_lane (lanes lane) site)
keep_cancels s past core lanes begun lane site h there none e =
    let middle : List Entry = entry.Event (Cancel lane) ∷ past in
    let now : List Entry = cancelled_past past lane in
    let v : LaneValue = lanes lane in
    let b = h.between in
    let transfers : (p : ℕ) → is_in p (ticket_places v.tickets) ≡ true → IsTransferAt past p =
    λ p has. other_transfers past lane p v (b.asks lane there) (none_own v.running p none) has in
    let due : AreDueGrants s now (unheld_of site (grant_places v.grants)) =
    subst (λ (z : Site). AreDueGrants s now (unheld_of z (grant_places v.grants))) (sym e.goes.runs.1)
    (ended_dues s middle core lanes lane outcome.Cancelled e.mid there (e.first, b.good.run) e.due
    (λ p has. transfer_ungranted s past p b.good.run (transfers p has))) in
    now_between s past core core lanes begun lane site (ended_lane v site) h e refl transfers due e.tied b.counted
    (omega arith)

-- ---- each way

pub cancels_keep : (s : Setting) (past : List Entry) (core new : Core) (lanes : ℕ → LaneValue) (begun : ℕ → Bool)
    (lane : ℕ) (c : Call) (now : LaneValue) → AtRest s past core lanes begun → lane < length s.lanes
    → current s past lane ≡ Some c
    → begun lane ≡ true → is_some (lanes lane).running ≡ true → LeavesSite past s c (lanes lane) now
    → GivesUp core new (lanes lane) now → CancelsRunning s past new lanes begun lane now
cancels_keep s past core new lanes begun lane c now h there is any runs leaves (Dropped d) =
    let v : LaneValue = lanes lane in
    let ends : Ended s past core lanes begun lane v.site = same_entries s past core lanes begun lane c h there is any
    runs (λ r running. leaves r running ∙ ap (λ (x : LaneValue). x.site) d.lane) in
    subst (λ (x : Core). CancelsRunning s past x lanes begun lane now) (sym d.left)
    (subst (λ (x : LaneValue). CancelsRunning s past (core_after_abandon core d.ticket.ticket) lanes begun lane x)
    (sym d.lane)
    (drop_cancels s past core lanes begun lane d.k d.ticket (record
    { rest = h; there = there; here = d.here; own = d.own; ended = ends }) d.ungranted))
cancels_keep s past core new lanes begun lane c now h there is any runs leaves (Polled d) =
    let v : LaneValue = lanes lane in
    let ends : Ended s past core lanes begun lane v.site = same_entries s past core lanes begun lane c h there is any
    runs (λ r running. leaves r running ∙ ap (λ (x : LaneValue). x.site) d.lane) in
    subst (λ (x : Core). CancelsRunning s past x lanes begun lane now) (sym d.left)
    (subst (λ (x : LaneValue). CancelsRunning s past (after_poll core d.ticket.ticket) lanes begun lane x) (sym d.lane)
    (poll_cancels s past core lanes begun lane d.k d.ticket d.handle
    (record { rest = h; there = there; here = d.here; own = d.own; ended = ends }) d.came))
cancels_keep s past core new lanes begun lane c now h there is any runs leaves (Kept d) =
    subst (λ (x : Core). CancelsRunning s past x lanes begun lane now) (sym d.left)
    (subst (λ (x : LaneValue). CancelsRunning s past core lanes begun lane x) (sym d.lane)
    (keep_cancels s past core lanes begun lane now.site h there d.none
    (both_entries s past core lanes begun lane c now.site h there is any runs leaves d.fewer (d.stays s.facts))))
