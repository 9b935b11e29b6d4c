-- What a lane's runner does, and what the core has for it, from the lane's tie to the journal.
use Rattle.std.proofs.Common.{◌≡◌, ◌<◌, ℕ, true, false, List, [], ◌∷◌, Option, Some, None, refl, ap, sym, ◌∙◌, subst, arith}
use Rattle.std.specs.Prelude.{length, slice_get, ◌≤◌}
use Rattle.sftp_model.specs.declared.reply.Reply.{Reply}
use Rattle.sftp_model.specs.declared.slot.Site.{Site}
use Rattle.sftp_model.specs.Slots.{has_grant}
use Rattle.sftp_core.specs.Core.{Core, record_at, reply_in, is_ticket}
use Rattle.plan_model.specs.Moves.{Own}
use Rattle.plan_runner.specs.Pending.{pends, pends_after, pends_idle}
use Rattle.plan_runner.specs.declared.next.Running.{Running}
use Rattle.plan_model.specs.declared.call.Call.{Call}
use Rattle.session_model.specs.declared.entry.Entry.{Entry}
use Rattle.session_model.specs.Readings.{answer, count_submitted, count_ended}
use Rattle.session_model.specs.Ids.{id_state}
use Rattle.session_model.specs.Calls.{Setting, current, held_by, held_site, site_of, move_of}
use Rattle.session_laws.specs.Lanes.{
  AllOf,
  AtTied,
  LaneGoes,
  LaneTied,
  LaneValue,
  SessionTied,
  Ticketed,
  among,
  grants_of,
  ticket_places,
  tickets_of,
  Held,
  tickets_for,
}
use Rattle.session_laws.specs.Running.{CancelTied, site_if_cancelled}
use Rattle.session_laws.specs.Places.{IsBelow, is_in, without_index}
use Rattle.session_laws.specs.Tables.{place_of}
use Rattle.session_laws.proofs.PollLaws.{among_self, came_answer, grant_counts, missing_answer, ticket_counts}
use Rattle.session_laws.proofs.PlaceLaws.{at_in, different}
use Rattle.session_laws.proofs.PendLaws.{awaited_has, dropped_has}
use Rattle.session_laws.proofs.GoesLaws.{begin_goes, cancelled_goes, reply_goes, unreplied_goes, widen_goes}
use Rattle.session_laws.proofs.CancelLaws.{cancel_idle}
use Rattle.session_laws.proofs.CloseLaws.{grant_index, grant_state}
use Rattle.session_laws.proofs.HeldLaws.{held_grants}
use Rattle.session_laws.proofs.GoneLaws.{held_idle}
use Rattle.session_laws.proofs.OrderLaws.{of_below}
use Rattle.session_laws.proofs.HoldLaws.{of_in, ticket_at, ticket_index}
use Rattle.session_laws.proofs.RunningLaws.{waits}
use Rattle.sftp_model.specs.declared.outcome.Outcome.{Outcome}
use Rattle.sftp_core.specs.declared.id_record.IdRecord.TheVariants.{Granted}
use Rattle.plan_runner.specs.declared.next.Next.{Next}
use Rattle.plan_runner.specs.Runners.{after, awaited_place, bytes_of, idle}
use Rattle.plan_runner.specs.Cancelling.{left_after}
use Rattle.plan_runner.specs.Sound.{AreWithin}
use Rattle.session_model.specs.declared.event.Event.TheVariants.{Cancel, End}
use Rattle.session_model.specs.Journals.{IsJournal}
use Rattle.session_laws.specs.Going.{LaneGoesOn, RunnerStep, RunnerWidens}
use Rattle.sftp_model.specs.declared.reply.Reply.TheVariants as reply
use Rattle.session_model.specs.declared.entry.Entry.TheVariants as entry
use Rattle.plan_model.specs.CallPlans.{site_after_cancel, next}

-- ---- what the core has for a lane

wanted_ticket : (s : Setting) (past : List Entry) (core : Core) (lanes : ℕ → LaneValue) (dues : List ℕ) (lane k : ℕ)
    (t : Ticketed) → SessionTied s past core lanes dues → lane < length s.lanes → slice_get (lanes lane).tickets k
    ≡ Some t
    → among past (tickets_of lanes) t.place ≡ true
wanted_ticket s past core lanes dues lane k t h there at_k =
    let l : LaneTied s past lane (lanes lane) dues = h.each lane there in
    let here : is_in t.place (tickets_of lanes lane) ≡ true = at_in (tickets_of lanes lane) k t.place
    (ticket_index (lanes lane).tickets k t at_k) in
    let mine = of_in past lane (tickets_of lanes lane) t.place l.holds.tied_of here in
    among_self past (tickets_of lanes) lane t.place mine.0 mine.1.0 mine.1.1 ∙ here

-- The reply that the core has for a lane's ticket is the journal's, and it has none where the journal has none.
pub replies_agree : (s : Setting) (past : List Entry) (core : Core) (lanes : ℕ → LaneValue) (dues : List ℕ) (lane k : ℕ)
    (t : Ticketed)
    → SessionTied s past core lanes dues → lane < length s.lanes → slice_get (lanes lane).tickets k ≡ Some t
    → reply_in (record_at core t.ticket) ≡ answer past t.place
replies_agree s past core lanes dues lane k t h there at_k = by_reply (reply_in (record_at core t.ticket)) refl
  where
    borne : place_of (id_state past t.ticket) ≡ Some t.place
    borne = ticket_at past (lanes lane).tickets k t (h.each lane there).holds.tied at_k

    by_reply : (x : Option Reply) → reply_in (record_at core t.ticket) ≡ x → x ≡ answer past t.place
    by_reply None is = sym (missing_answer past (among past (tickets_of lanes)) (among past (grants_of lanes))
        (record_at core)
        t.ticket t.place h.table borne (wanted_ticket s past core lanes dues lane k t h there at_k) is)
    by_reply (Some y) is = sym (came_answer past (among past (tickets_of lanes)) (among past (grants_of lanes))
        (record_at core) t.ticket t.place y h.table borne is).1.1

-- The core counts each ticket of a lane,
pub tickets_count : (s : Setting) (past : List Entry) (core : Core) (lanes : ℕ → LaneValue) (dues : List ℕ) (lane k : ℕ)
    (t : Ticketed)
    → SessionTied s past core lanes dues → lane < length s.lanes → slice_get (lanes lane).tickets k ≡ Some t
    → is_ticket (record_at core t.ticket) ≡ true
tickets_count s past core lanes dues lane k t h there at_k =
    ticket_counts past (among past (tickets_of lanes)) (among past (grants_of lanes)) (record_at core) t.ticket t.place
    h.table
    (ticket_at past (lanes lane).tickets k t (h.each lane there).holds.tied at_k)
    (wanted_ticket s past core lanes dues lane k t h there at_k)

-- and one user of each grant of it.
pub grants_count : (s : Setting) (past : List Entry) (core : Core) (lanes : ℕ → LaneValue) (dues : List ℕ) (lane k : ℕ)
    (g : Held)
    → SessionTied s past core lanes dues → lane < length s.lanes → slice_get (lanes lane).grants k ≡ Some g
    → record_at core g.grant.id ≡ Some (Granted g.grant.handle 1)
grants_count s past core lanes dues lane k g h there got =
    let l : LaneTied s past lane (lanes lane) dues = h.each lane there in
    let here : is_in g.place (grants_of lanes lane) ≡ true = at_in (grants_of lanes lane) k g.place
    (grant_index (lanes lane).grants k g got) in
    let mine = of_in past lane (grants_of lanes lane) g.place l.holds.held_of here in
    let state = grant_state past (lanes lane).grants k g l.holds.held got in
    grant_counts past (among past (tickets_of lanes)) (among past (grants_of lanes)) (record_at core) g.grant.id g.place
    state.0 g.grant.handle h.table state.1
    (among_self past (tickets_of lanes) lane g.place mine.0 mine.1.0 mine.1.1 ∙ l.holds.apart g.place here)
    (among_self past (grants_of lanes) lane g.place mine.0 mine.1.0 mine.1.1 ∙ here)

-- ---- what the lane's runner does

-- the next request bears a place of which the lane has no ticket
new_place : (past : List Entry) (lane : ℕ) (ps : List ℕ) → AllOf past lane ps → is_in (count_submitted past) ps ≡ false
new_place past lane ps all = below_not (count_submitted past) ps (of_below past lane ps all)
  where
    below_not : (p : ℕ) (qs : List ℕ) → IsBelow p qs → is_in p qs ≡ false
    below_not p [] below = refl
    below_not p (h ∷ hs) below = (let lt : h < p = below.0 in rw (different h p (λ e. (omega (arith, e, lt))))
        (below_not p hs below.1))

goes_with : (s : Setting) (past : List Entry) (lane : ℕ) (v : LaneValue) (dues : List ℕ) (x : Option Running)
    → LaneTied s past lane v dues → v.running ≡ x → LaneGoes s past lane x v.site (ticket_places v.tickets)
goes_with s past lane v dues x l is = subst (λ (r : Option Running). LaneGoes s past lane r v.site
    (ticket_places v.tickets)) is l.goes

-- The lane's next call begins.
pub begin_lane : (s : Setting) (past : List Entry) (lane : ℕ) (v : LaneValue) (dues : List ℕ) (c : Call) (site : Site)
    (n : Next) → LaneTied s past lane v dues → current s past lane ≡ Some c → v.running ≡ None
    → RunnerStep s past c (next c v.site s.facts) (site_after_cancel c v.site s.facts) (pends_idle v.site) v.site site n
    → LaneGoesOn s past lane (ticket_places v.tickets) site n
begin_lane s past lane v dues c site n l is none a =
    begin_goes s past lane c v.site site (ticket_places v.tickets) n is (goes_with s past lane v dues None l none)
    (new_place past lane (ticket_places v.tickets) l.holds.tied_of) a

-- A call goes on after the reply that it awaited, whose ticket is spent.
pub reply_lane : (s : Setting) (past : List Entry) (lane k : ℕ) (v : LaneValue) (dues : List ℕ) (c : Call) (r : Running)
    (t : Ticketed) (y : Reply) (site : Site) (n : Next) → LaneTied s past lane v dues → current s past lane ≡ Some c
    → v.running ≡ Some r
    → slice_get v.tickets k ≡ Some t → awaited_place r v.site ≡ Some t.place → answer past t.place ≡ Some y
    → RunnerStep s past c (after r (bytes_of c) v.site s.facts (Some y))
    (left_after r (bytes_of c) v.site s.facts (Some y)) (pends_after r v.site (Some y)) v.site site n
    → LaneGoesOn s past lane (without_index k (ticket_places v.tickets)) site n
reply_lane s past lane k v dues c r t y site n l is running at_k awaits got a =
    reply_goes s past lane k t.place c r y v.site site (ticket_places v.tickets) n is
    (goes_with s past lane v dues (Some r) l running) l.holds.tied_rise (ticket_index v.tickets k t at_k) awaits got
    (new_place past lane (ticket_places v.tickets) l.holds.tied_of) a

-- A call goes on that awaits no reply.
pub unreplied_lane :
    (s : Setting) (past : List Entry) (lane : ℕ) (v : LaneValue) (dues : List ℕ) (c : Call) (r : Running)
    (site : Site) (n : Next) → LaneTied s past lane v dues → current s past lane ≡ Some c → v.running ≡ Some r
    → awaited_place r v.site ≡ None → RunnerStep s past c (after r (bytes_of c) v.site s.facts None)
    (left_after r (bytes_of c) v.site s.facts None) (pends_after r v.site None) v.site site n
    → LaneGoesOn s past lane (ticket_places v.tickets) site n
unreplied_lane s past lane v dues c r site n l is running awaits a =
    unreplied_goes s past lane c r v.site site (ticket_places v.tickets) n is
    (goes_with s past lane v dues (Some r) l running) awaits
    (new_place past lane (ticket_places v.tickets) l.holds.tied_of) a

-- A call answers while the reply that it awaits is missing.
pub widen_lane : (s : Setting) (past : List Entry) (lane p : ℕ) (v : LaneValue) (dues : List ℕ) (c : Call) (r : Running)
    (n : Next) → LaneTied s past lane v dues → current s past lane ≡ Some c → v.running ≡ Some r
    → awaited_place r v.site
    ≡ Some p
    → answer past p ≡ None → RunnerWidens s past c r v.site n →
    LaneGoesOn s past lane (ticket_places v.tickets) v.site n
widen_lane s past lane p v dues c r n l is running awaits none a =
    widen_goes s past lane p c r v.site (ticket_places v.tickets) n is (goes_with s past lane v dues (Some r) l running)
    awaits none (new_place past lane (ticket_places v.tickets) l.holds.tied_of) a

-- The lane has a ticket of the reply that its call awaits; where the reply is missing the lane's move is what the call
-- does meanwhile.
pub missing_waits :
    (s : Setting) (past : List Entry) (lane p : ℕ) (v : LaneValue) (dues : List ℕ) (c : Call) (r : Running)
    → LaneTied s past lane v dues → current s past lane ≡ Some c → v.running ≡ Some r → awaited_place r v.site ≡ Some p
    → (is_in p (ticket_places v.tickets) ≡ true) × (answer past p ≡ None → move_of s past lane
    ≡ Some (idle r (bytes_of c) v.site s.facts [] (answer past)))
missing_waits s past lane p v dues c r l is running at_place =
    let goes : LaneGoes s past lane (Some r) v.site (ticket_places v.tickets) =
    goes_with s past lane v dues (Some r) l running in (
      awaited_has r v.site (ticket_places v.tickets) p goes.awaits at_place,
      λ none. waits s past lane r v.site c p goes.runs.0 is at_place none,
    )

-- The lane's call was cancelled and ends: what its slots hold then is what the call leaves from where it has come.
pub cancelled_lane :
    (s : Setting) (past : List Entry) (lane : ℕ) (v : LaneValue) (dues : List ℕ) (c : Call) (o : Outcome)
    (site : Site) → LaneTied s past lane v dues → current s past lane ≡ Some c
    → IsJournal s (entry.Event (Cancel lane) ∷ past)
    → site ≡ site_if_cancelled v.running c v.site s.facts [] (answer past) → length site.slots ≡ 16
    → AreWithin s.facts site
    → ((q : ℕ) → pends q None site ≤ tickets_for (ticket_places v.tickets) q)
    → LaneGoes s (entry.Event (End lane (count_ended past lane) o) ∷ entry.Event (Cancel lane) ∷ past) lane None site
    (ticket_places v.tickets)
cancelled_lane s past lane v dues c o site l is j left sixteen within awaits =
    cancelled_goes s past lane o v.running v.site site c (ticket_places v.tickets) j (by_running v.running l.goes.runs)
    is left sixteen within awaits
  where
    by_running : (x : Option Running) → AtTied s past lane x v.site → CancelTied s past lane x v.site
    by_running None t = cancel_idle s past lane v.site t.0 t.1
    by_running (Some r) t = t.1

-- A lane goes on without the ticket of a place that it does not await.
pub dropped_lane : (s : Setting) (past : List Entry) (lane k p : ℕ) (running : Option Running) (site : Site)
    (tickets : List ℕ) → LaneGoes s past lane running site tickets → slice_get tickets k ≡ Some p → pends p running site
    ≡ 0
    → LaneGoes s past lane running site (without_index k tickets)
dropped_lane s past lane k p running site tickets l at_k none =
    record {
      sixteen = l.sixteen;
      within = l.within;
      runs = l.runs;
      sound = l.sound;
      awaits =
          dropped_has (λ q. pends q running site) tickets k p at_k none l.awaits;
    }

-- ---- the grants of its slots

pub slots_agree : (s : Setting) (past : List Entry) (lane : ℕ) (v : LaneValue) (dues : List ℕ) (g : ℕ)
    → LaneTied s past lane v dues → has_grant (held_site s past lane) g ≡ has_grant v.site g
slots_agree s past lane v dues g l = by_running v.running l.goes.runs
  where
    by_call : (r : Running) → AtTied s past lane (Some r) v.site → (x : Option Call) → current s past lane ≡ x
        → has_grant (held_site s past lane) g ≡ has_grant v.site g
    by_call r t None is = absurd (t.2 is)
    by_call r t (Some c) is = held_grants s past lane r v.site c g t.1 is

    by_running : (x : Option Running) → AtTied s past lane x v.site → has_grant (held_site s past lane) g
        ≡ has_grant v.site g
    by_running None t =
        ap (λ (x : Site). has_grant x g) (ap (λ (o : Own). held_by (current s past lane) o (site_of s past lane)) t.0
        ∙ (held_idle (current s past lane) (site_of s past lane) ∙ sym t.1))
    by_running (Some r) t = by_call r t (current s past lane) refl
