-- A session behind a reply that was polled, before its runner goes on.
use Rattle.std.proofs.Common.{◌≡◌, ◌<◌, ℕ, Bool, true, false, List, [], ◌∷◌, ◌++◌, Option, Some, None, refl, ap, sym, ◌∙◌, subst}
use Rattle.std.specs.Prelude.{length, slice_get}
use Rattle.sftp_model.specs.Answers.{is_handle}
use Rattle.sftp_model.specs.declared.answers.Expected.{Expected}
use Rattle.sftp_model.specs.declared.reply.Reply.{Reply}
use Rattle.sftp_core.specs.Core.{Core, after_poll, record_at, given_leaves, poll_leaves, reply_in, with_record, without_record as removed}
use Rattle.sftp_core.specs.Table.{handle_in_reply}
use Rattle.sftp_core.specs.declared.id_record.IdRecord.{IdRecord}
use Rattle.sftp_core.specs.declared.id_record.IdRecord.TheVariants.{Answered, Granted, Waiting}
use Rattle.sftp_core.proofs.Elsewhere.{gone_elsewhere, gone_here, put_elsewhere, put_here}
use Rattle.session_model.specs.declared.entry.Entry.{Entry}
use Rattle.session_model.specs.Calls.{Setting}
use Rattle.session_model.specs.Grants.{holds, is_grant, is_granted, is_unended_asker}
use Rattle.session_model.specs.Ids.{id_state}
use Rattle.session_model.specs.Journals.{IsJournal}
use Rattle.session_laws.specs.Changes.{BringsHandle, grant_of_ticket, wants_but, with_lane}
use Rattle.session_laws.specs.Lanes.{Held, LaneHolds, LaneTied, LaneValue, SessionTied, Ticketed, among, grant_places, grants_of, ticket_places, tickets_of}
use Rattle.session_laws.specs.Places.{is_in, with_places, without_index}
use Rattle.session_laws.specs.Tables.{TableMatches, place_of, stand}
use Rattle.session_laws.proofs.CoreLaws.{core_placed, core_removed}
use Rattle.session_laws.proofs.HandleLaws.{handles_are_newer}
use Rattle.session_laws.proofs.HoldLaws.{asker_holds, granted_holds, held_unclosed, of_in, places_push, spent_holds, ticket_at, ticket_index, ticket_without}
use Rattle.session_laws.proofs.PlaceLaws.{at_in}
use Rattle.session_laws.proofs.PollLaws.{among_self, came_answer, granted_tabled, spent_tabled, spent_unwanted}
use Rattle.session_laws.proofs.SessionLaws.{same_places, table_with}
use Rattle.session_laws.proofs.TableLaws.{polled_plain}
use Rattle.session_laws.proofs.TurnLaws.{brings_none}
use Rattle.session_work.specs.Tokens.{grants_with}
use Rattle.session_work.specs.Holding.{HoldsLane}
use Rattle.session_work.proofs.Holding.{holds_with}
use Rattle.sftp_model.specs.declared.reply.Reply.TheVariants as reply

-- a lane whose ticket was polled
abbrev pub polled_lane : LaneValue → ℕ → Ticketed → Reply → LaneValue
polled_lane v k t y = record {
  running = v.running;
  site = v.site;
  tickets = without_index k v.tickets;
  grants =
      grants_with v.grants t.place t.ticket y;
  ended = v.ended;
}

answered_is : (x : Option IdRecord) (y : Reply) → reply_in x ≡ Some y → (e : Expected) × (x ≡ Some (Answered e y))
answered_is None y came = absurd cc
answered_is (Some (Waiting e b w)) y came = absurd cc
answered_is (Some (Answered e z)) y came = (e, ap (λ (r : Reply). Some (Answered e r)) (let same : z ≡ y = cc in same))
answered_is (Some (Granted handle users)) y came = absurd cc

polled_is : (c : Core) (ticket : ℕ) (y : Reply) → reply_in (record_at c ticket) ≡ Some y → after_poll c ticket
    ≡ given_leaves c ticket (handle_in_reply y)
polled_is c ticket y came = ap (poll_leaves c ticket c.fault) (answered_is (record_at c ticket) y came).1

not_in : (b : Bool) → (b ≡ true → ⊥) → b ≡ false
not_in true no_way = absurd (no_way refl)
not_in false no_way = refl

-- a reply without a handle
plain_polled : (s : Setting) (past : List Entry) (c : Core) (lanes : ℕ → LaneValue) (dues : List ℕ) (lane k : ℕ)
    (t : Ticketed) (y : Reply) (v : LaneValue) → SessionTied s past c lanes dues → lane < length s.lanes
    → slice_get (lanes lane).tickets k ≡ Some t
    → reply_in (record_at c t.ticket) ≡ Some y → is_handle y ≡ false → v.tickets ≡ without_index k (lanes lane).tickets
    → v.grants
    ≡ (lanes lane).grants → v.ended ≡ (lanes lane).ended → HoldsLane s past (after_poll c t.ticket)
    (with_lane lanes lane v) lane dues
plain_polled s past c lanes dues lane k t y v h there at_k came plain et eg ee =
    let old : LaneValue = lanes lane in
    let l : LaneTied s past lane old dues = h.each lane there in
    let now : Core = removed c t.ticket in
    let borne : place_of (id_state past t.ticket) ≡ Some t.place = ticket_at past old.tickets k t l.holds.tied at_k in
    let got = came_answer past (among past (tickets_of lanes)) (among past (grants_of lanes)) (record_at c) t.ticket
    t.place y h.table borne came in
    let no_grant : is_grant past t.place ≡ false = ap is_granted got.1.1 ∙ plain in
    let here : slice_get (ticket_places old.tickets) k ≡ Some t.place = ticket_index old.tickets k t at_k in
    let mine = of_in past lane (ticket_places old.tickets) t.place l.holds.tied_of
    (at_in (ticket_places old.tickets) k t.place here) in
    let unwanted : wants_but past lanes lane k t.place ≡ false =
    spent_unwanted past (tickets_of lanes) lane k t.place mine.0 mine.1.0 mine.1.1 l.holds.tied_rise here in
    let ungranted : among past (grants_of lanes) t.place ≡ false =
    among_self past (grants_of lanes) lane t.place mine.0 mine.1.0 mine.1.1
    ∙ not_in (is_in t.place (grants_of lanes lane)) (λ e. (let clash : false ≡ true = sym no_grant
    ∙ (l.holds.holding t.place e).0 in absurd cc)) in
    let stands : record_at now t.ticket ≡ stand (wants_but past lanes lane k) (among past (grants_of lanes))
    (id_state past t.ticket) =
    gone_here c.table t.ticket ∙ sym (ap (stand (wants_but past lanes lane k) (among past (grants_of lanes))) got.1.0
    ∙ polled_plain (wants_but past lanes lane k) (among past (grants_of lanes)) t.place got.0 y unwanted ungranted)
    in
    let table : TableMatches past (wants_but past lanes lane k) (among past (grants_of lanes)) (record_at now) =
    spent_tabled past (tickets_of lanes) (grants_of lanes) lane k t.ticket t.place mine.0 (record_at c) (record_at now)
    mine.1.0
    mine.1.1 l.holds.tied_rise here borne stands (λ i ne. gone_elsewhere c.table t.ticket i ne) h.table in
    let grants_same : grants_of lanes ≡ with_places (grants_of lanes) lane (grants_of lanes lane) =
    λ i w. same_places (grants_of lanes) lane (grants_of lanes lane) refl w i in
    let is : after_poll c t.ticket ≡ now = polled_is c t.ticket y came
    ∙ ap (given_leaves c t.ticket) (brings_none y plain) in
    subst (λ (x : Core). HoldsLane s past x (with_lane lanes lane v) lane dues) (sym is)
    (holds_with s past now lanes lane v dues (core_removed s past c t.ticket h.work)
    (table_with past lanes lane v (without_index k (ticket_places old.tickets)) (grants_of lanes lane) (record_at now)
    (sym (ap ticket_places et ∙ ticket_without old.tickets k)) (sym (ap grant_places eg))
    (subst (λ (g : ℕ → List ℕ). TableMatches past (wants_but past lanes lane k) (among past g) (record_at now))
    grants_same table))
    (ee ∙ l.ends)
    (subst (λ (ts : List Ticketed). LaneHolds s past lane ts v.grants dues) (sym et)
    (subst (λ (gs : List Held). LaneHolds s past lane (without_index k old.tickets) gs dues) (sym eg)
    (spent_holds s past lane k old.tickets old.grants dues t l.holds at_k no_grant
    (λ asks none. (let clash : ◌≡◌ {A = Option Reply} None (Some y) = sym none ∙ got.1.1 in absurd cc)))))
    (λ w lt ne. h.each w lt))

-- a HANDLE for the lane's current call
handle_polled : (s : Setting) (past : List Entry) (c : Core) (lanes : ℕ → LaneValue) (lane k : ℕ) (t : Ticketed)
    (handle : List ℕ) (v : LaneValue) → SessionTied s past c lanes [] → lane < length s.lanes → IsJournal s past
    → slice_get (lanes lane).tickets k ≡ Some t
    → reply_in (record_at c t.ticket) ≡ Some (reply.Handle handle) → is_unended_asker past lane t.place ≡ true
    → v.tickets
    ≡ without_index k (lanes lane).tickets → v.grants ≡ (lanes lane).grants ++ grant_of_ticket t handle ∷ [] → v.ended
    ≡ (lanes lane).ended
    → HoldsLane s past (after_poll c t.ticket) (with_lane lanes lane v) lane []
handle_polled s past c lanes lane k t handle v h there j at_k came asker et eg ee =
    let old : LaneValue = lanes lane in
    let l : LaneTied s past lane old [] = h.each lane there in
    let now : Core = with_record c t.ticket (Granted handle 1) in
    let got = came_answer past (among past (tickets_of lanes)) (among past (grants_of lanes)) (record_at c) t.ticket
    t.place
    (reply.Handle handle) h.table (ticket_at past old.tickets k t l.holds.tied at_k) came in
    let here : slice_get (ticket_places old.tickets) k ≡ Some t.place = ticket_index old.tickets k t at_k in
    let has : is_in t.place (ticket_places old.tickets) ≡ true = at_in (ticket_places old.tickets) k t.place here in
    let mine = of_in past lane (ticket_places old.tickets) t.place l.holds.tied_of has in
    let holder : holds s past t.place lane ≡ true = asker_holds s past t.place lane asker in
    let b : BringsHandle s past lane old.grants [] t handle = record {
      asked = got.0;
      came = got.1.0;
      got = got.1.1;
      unclosed = held_unclosed s past t.place lane j there holder;
      holder = λ out. holder;
      newer = handles_are_newer s past lane t.place old [] l j has (ap is_granted got.1.1) asker;
    } in
    subst (λ (x : Core). HoldsLane s past x (with_lane lanes lane v) lane [])
    (sym (polled_is c t.ticket (reply.Handle handle) came))
    (holds_with s past now lanes lane v [] (core_placed s past c t.ticket (Granted handle 1) h.work)
    (table_with past lanes lane v (without_index k (ticket_places old.tickets))
    (grant_places old.grants ++ t.place ∷ [])
    (record_at now) (sym (ap ticket_places et ∙ ticket_without old.tickets k))
    (sym (ap grant_places eg ∙ places_push old.grants (grant_of_ticket t handle)))
    (granted_tabled past (tickets_of lanes) (grants_of lanes) lane k t.ticket t.place mine.0 b.asked handle
    (record_at c)
    (record_at now) mine.1.0 mine.1.1 l.holds.tied_rise here b.came
    (put_here c.table t.ticket (Granted handle 1)) (λ i ne. put_elsewhere c.table t.ticket (Granted handle 1) i ne)
    h.table))
    (ee ∙ l.ends)
    (subst (λ (ts : List Ticketed). LaneHolds s past lane ts v.grants []) (sym et)
    (subst (λ (gs : List Held). LaneHolds s past lane (without_index k old.tickets) gs []) (sym eg)
    (granted_holds s past lane k old.tickets old.grants [] t handle l.holds at_k b)))
    (λ w lt ne. h.each w lt))

-- whatever the reply
pub polled_holds : (s : Setting) (past : List Entry) (c : Core) (lanes : ℕ → LaneValue) (lane k : ℕ) (t : Ticketed)
    (y : Reply) → SessionTied s past c lanes [] → lane < length s.lanes → IsJournal s past
    → slice_get (lanes lane).tickets k ≡ Some t
    → reply_in (record_at c t.ticket) ≡ Some y → (is_handle y ≡ true → is_unended_asker past lane t.place ≡ true)
    → HoldsLane s past (after_poll c t.ticket) (with_lane lanes lane (polled_lane (lanes lane) k t y)) lane []
polled_holds s past c lanes lane k t (reply.Handle handle) h there j at_k came asker =
    handle_polled s past c lanes lane k t handle (polled_lane (lanes lane) k t (reply.Handle handle)) h there j at_k
    came (asker refl) refl refl refl
polled_holds s past c lanes lane k t y h there j at_k came asker =
    plain_polled s past c lanes [] lane k t y (polled_lane (lanes lane) k t y) h there at_k came refl refl refl refl
