-- The invariant of a session holds behind each of its steps.
use Rattle.std.proofs.lemmas.Bool.Decides.{eqb_tells}
use Rattle.std.proofs.Common.{inl, inr, ◌≡◌, ◌≢◌, ◌<◌, ℕ, Bool, true, false, List, [], ◌∷◌, Option, Some, None, refl, ap, sym, ◌∙◌, subst}
use Rattle.std.specs.Prelude.{length, slice_get, ◌||◌, ◌++◌}
use Rattle.sftp_model.specs.declared.answers.Expected.{Expected}
use Rattle.sftp_model.specs.declared.request.Request.{Request}
use Rattle.sftp_model.specs.declared.reply.Reply.{Reply}
use Rattle.sftp_model.specs.Answers.{expected_of, is_handle}
use Rattle.sftp_model.specs.declared.slot.Site.{Site}
use Rattle.sftp_core.specs.declared.id_record.IdRecord.{IdRecord}
use Rattle.sftp_core.specs.declared.id_record.IdRecord.TheVariants.{Waiting, Answered, Granted}
use Rattle.sftp_core.specs.Core.{
  Core,
  abandon_leaves,
  core_after_abandon,
  after_poll,
  record_at,
  given_leaves,
  handed_out,
  poll_leaves,
  queued_last,
  release_leaves,
  core_after_release,
  reply_in,
  users_of,
  with_record,
  without_record as removed,
}
use Rattle.sftp_core.specs.Grant.{GrantValue}
use Rattle.sftp_core.specs.Table.{handle_in_reply}
use Rattle.sftp_core.proofs.Elsewhere.{gone_elsewhere, gone_here, hand_out_each, put_elsewhere, put_here}
use Rattle.plan_model.specs.Moves.{handle_of}
use Rattle.plan_runner.specs.declared.next.Running.{Running}
use Rattle.session_model.specs.declared.event.Event.TheVariants.{Submit, Send}
use Rattle.session_model.specs.declared.entry.Entry.{Entry}
use Rattle.session_model.specs.Readings.{count_submitted, AskedRequest, answer, asked_at, count_ended}
use Rattle.session_model.specs.Calls.{Setting}
use Rattle.session_model.specs.Grants.{closed_grants, holds, is_one_of, is_grant, is_granted, closes, is_asked_by, is_close, is_unended_asker, next_due}
use Rattle.session_model.specs.Ids.{IdState, Free, Pending, Replied, ReadsId, id_state}
use Rattle.session_model.specs.Journals.{close_of, IsJournal}
use Rattle.session_model.proofs.IdLaws.{reads}
use Rattle.session_laws.specs.Lanes.{
  CoreTied,
  Held,
  LaneGoes,
  LaneTied,
  LaneValue,
  SessionTied,
  Ticketed,
  among,
  grants_of,
  is_of,
  ticket_places,
  tickets_of,
  grant_places,
}
use Rattle.session_laws.specs.Changes.{asking_lane, closed_lane, granted_lane, spent_lane, wants_but, with_lane}
use Rattle.session_laws.specs.Places.{is_in, without_index, IsBelow}
use Rattle.session_laws.specs.Running.{own_request}
use Rattle.session_laws.specs.Tables.{place_of, stand}
use Rattle.session_laws.specs.Dues.{AllDue, IsDue, AreDueGrants, FewerDue}
use Rattle.session_laws.proofs.PollLaws.{among_self, came_answer, grant_counts, spent_unwanted}
use Rattle.session_laws.proofs.PlaceLaws.{at_in}
use Rattle.session_laws.proofs.AskTied.{close_request_tied, request_tied}
use Rattle.session_laws.proofs.CloseLaws.{close_tied, grant_index, grant_state}
use Rattle.session_laws.proofs.CoreLaws.{core_placed, core_queued, core_removed, core_sent}
use Rattle.session_laws.proofs.TableLaws.{dropped_waits, polled_plain}
use Rattle.session_laws.proofs.StepLaws.{granted_tied, spent_tied}
use Rattle.session_laws.proofs.HoldLaws.{of_in, ticket_at, ticket_index, ticket_without, asker_holds, held_unclosed}
use Rattle.session_laws.proofs.SendLaws.{send_tied}
use Rattle.session_laws.proofs.HandleLaws.{handles_are_newer}
use Rattle.sftp_model.specs.declared.request.Request.TheVariants as request
use Rattle.sftp_model.specs.declared.reply.Reply.TheVariants as reply
use Rattle.sftp_core.specs.Core as core
use Rattle.session_model.specs.declared.event.Owner.TheVariants as owner
use Rattle.session_model.specs.declared.entry.Entry.TheVariants as entry

-- ---- what stands under a ticket or a grant

answered_is : (x : Option IdRecord) (y : Reply) → reply_in x ≡ Some y → (e : Expected) × (x ≡ Some (Answered e y))
answered_is None y came = absurd cc
answered_is (Some (Waiting e b w)) y came = absurd cc
answered_is (Some (Answered e z)) y came = (e, ap (λ (r : Reply). Some (Answered e r)) (let same : z ≡ y = cc in same))
answered_is (Some (Granted handle users)) y came = absurd cc

-- a reply was polled
polled_is : (c : Core) (ticket : ℕ) (y : Reply) → reply_in (record_at c ticket) ≡ Some y → after_poll c ticket
    ≡ given_leaves c ticket (handle_in_reply y)
polled_is c ticket y came = ap (poll_leaves c ticket c.fault) (answered_is (record_at c ticket) y came).1

pub brings_none : (y : Reply) → is_handle y ≡ false → handle_in_reply y ≡ None
brings_none (reply.Handle handle) plain = absurd cc
brings_none other plain = refl

-- ---- a lane's ticket

-- the lane asked for what it has a ticket of
asked_it : (s : Setting) (past : List Entry) (lane k : ℕ) (v : LaneValue) (dues : List ℕ) (t : Ticketed)
    → LaneTied s past lane v dues → slice_get v.tickets k ≡ Some t → (a : AskedRequest)
    × ((asked_at past t.place ≡ Some a) × (is_of a.by lane ≡ true))
asked_it s past lane k v dues t l at_k = of_in past lane (ticket_places v.tickets) t.place l.holds.tied_of
    (at_in (ticket_places v.tickets) k t.place (ticket_index v.tickets k t at_k))

-- it is wanted no more, and no grant
now_unwanted : (s : Setting) (past : List Entry) (c : Core) (lanes : ℕ → LaneValue) (dues : List ℕ) (lane k : ℕ)
    (t : Ticketed) → SessionTied s past c lanes dues → lane < length s.lanes → slice_get (lanes lane).tickets k ≡ Some t
    → is_grant past t.place ≡ false
    → (wants_but past lanes lane k t.place ≡ false) × (among past (grants_of lanes) t.place ≡ false)
now_unwanted s past c lanes dues lane k t h there at_k plain =
    let l : LaneTied s past lane (lanes lane) dues = h.each lane there in
    let mine = asked_it s past lane k (lanes lane) dues t l at_k in (
      spent_unwanted past (tickets_of lanes) lane k t.place mine.0 mine.1.0 mine.1.1 l.holds.tied_rise
          (ticket_index (lanes lane).tickets k t at_k),
      among_self past (grants_of lanes) lane t.place mine.0 mine.1.0 mine.1.1
          ∙ not_in (is_in t.place (grants_of lanes lane)) (λ e. (let clash : false ≡ true = sym plain
          ∙ (l.holds.holding t.place e).0 in absurd cc)),
    )
  where
    not_in : (b : Bool) → (b ≡ true → ⊥) → b ≡ false
    not_in true no_way = absurd (no_way refl)
    not_in false no_way = refl

-- A reply that brings no handle was polled, and the lane goes on with this.
pub polled_keeps : (s : Setting) (past : List Entry) (core : Core) (lanes : ℕ → LaneValue) (dues : List ℕ) (lane k : ℕ)
    (t : Ticketed) (y : Reply) (running : Option Running) (site : Site)
    → SessionTied s past core lanes dues → lane < length s.lanes → slice_get (lanes lane).tickets k ≡ Some t
    → reply_in (record_at core t.ticket) ≡ Some y → is_handle y ≡ false
    → LaneGoes s past lane running site (without_index k (ticket_places (lanes lane).tickets))
    → SessionTied s past (after_poll core t.ticket) (with_lane lanes lane (spent_lane (lanes lane) k running site))
    dues
polled_keeps s past c lanes dues lane k t y running site h there at_k came plain goes =
    let old : LaneValue = lanes lane in
    let l : LaneTied s past lane old dues = h.each lane there in
    let got = came_answer past (among past (tickets_of lanes)) (among past (grants_of lanes)) (record_at c) t.ticket
    t.place y
    h.table (ticket_at past old.tickets k t l.holds.tied at_k) came in
    let no_grant : is_grant past t.place ≡ false = ap is_granted got.1.1 ∙ plain in
    let away = now_unwanted s past c lanes dues lane k t h there at_k no_grant in
    let is : after_poll c t.ticket ≡ removed c t.ticket = polled_is c t.ticket y came
    ∙ ap (given_leaves c t.ticket) (brings_none y plain) in
    subst (λ (x : Core). SessionTied s past x (with_lane lanes lane (spent_lane old k running site)) dues) (sym is)
    (spent_tied s past c (removed c t.ticket) lanes dues lane k t running site h there at_k (ap place_of got.1.0)
    no_grant (λ asks none. (let clash : ◌≡◌ {A = Option Reply} None (Some y) = sym none ∙ got.1.1 in absurd cc))
    (core_removed s past c t.ticket h.work)
    (gone_here c.table t.ticket ∙ sym (ap (stand (wants_but past lanes lane k) (among past (grants_of lanes))) got.1.0
    ∙ polled_plain (wants_but past lanes lane k) (among past (grants_of lanes)) t.place got.0 y away.0 away.1))
    (λ i ne. gone_elsewhere c.table t.ticket i ne) (subst (λ (x : List ℕ). LaneGoes s past lane running site x)
    (sym (ticket_without old.tickets k)) goes))

-- a HANDLE was polled: the lane holds it, or it is due
handle_keeps : (s : Setting) (past : List Entry) (c : Core) (lanes : ℕ → LaneValue) (dues : List ℕ) (lane k : ℕ)
    (t : Ticketed) (handle : List ℕ) (running : Option Running) (site : Site) → SessionTied s past c lanes dues
    → lane < length s.lanes
    → slice_get (lanes lane).tickets k ≡ Some t → reply_in (record_at c t.ticket) ≡ Some (reply.Handle handle)
    → is_one_of (closed_grants s past) t.place ≡ false → (is_in t.place dues ≡ false → holds s past t.place lane ≡ true)
    → IsBelow t.place (grant_places (lanes lane).grants)
    → LaneGoes s past lane running site (without_index k (ticket_places (lanes lane).tickets))
    → SessionTied s past (after_poll c t.ticket) (with_lane lanes lane
    (granted_lane (lanes lane) k t handle running site)) dues
handle_keeps s past c lanes dues lane k t handle running site h there at_k came unclosed holder newer goes =
    let old : LaneValue = lanes lane in
    let l : LaneTied s past lane old dues = h.each lane there in
    let got = came_answer past (among past (tickets_of lanes)) (among past (grants_of lanes)) (record_at c) t.ticket
    t.place
    (reply.Handle handle) h.table (ticket_at past old.tickets k t l.holds.tied at_k) came in
    subst (λ (x : Core). SessionTied s past x (with_lane lanes lane (granted_lane old k t handle running site)) dues)
    (sym (polled_is c t.ticket (reply.Handle handle) came))
    (granted_tied s past c (with_record c t.ticket (Granted handle 1)) lanes dues lane k t handle running site h there
    at_k
    (record { asked = got.0; came = got.1.0; got = got.1.1; unclosed = unclosed; holder = holder; newer = newer })
    (core_placed s past c t.ticket (Granted handle 1) h.work)
    (put_here c.table t.ticket (Granted handle 1)) (λ i ne. put_elsewhere c.table t.ticket (Granted handle 1) i ne)
    (subst (λ (x : List ℕ). LaneGoes s past lane running site x) (sym (ticket_without old.tickets k)) goes))

-- A HANDLE was polled for the lane's current call, and is a grant of the lane.
pub granted_keeps : (s : Setting) (past : List Entry) (core : Core) (lanes : ℕ → LaneValue) (dues : List ℕ) (lane k : ℕ)
    (t : Ticketed) (handle : List ℕ) (running : Option Running) (site : Site)
    → IsJournal s past → SessionTied s past core lanes dues → lane < length s.lanes → slice_get (lanes lane).tickets k
    ≡ Some t → reply_in (record_at core t.ticket) ≡ Some (reply.Handle handle)
    → is_unended_asker past lane t.place ≡ true
    → LaneGoes s past lane running site (without_index k (ticket_places (lanes lane).tickets))
    → SessionTied s past (after_poll core t.ticket) (with_lane lanes lane
    (granted_lane (lanes lane) k t handle running site)) dues
granted_keeps s past c lanes dues lane k t handle running site j h there at_k came mine goes =
    let old : LaneValue = lanes lane in
    let l : LaneTied s past lane old dues = h.each lane there in
    let got = came_answer past (among past (tickets_of lanes)) (among past (grants_of lanes)) (record_at c) t.ticket
    t.place
    (reply.Handle handle) h.table (ticket_at past old.tickets k t l.holds.tied at_k) came in
    let has : is_in t.place (ticket_places old.tickets) ≡ true =
    at_in (ticket_places old.tickets) k t.place (ticket_index old.tickets k t at_k) in
    let newer : IsBelow t.place (grant_places old.grants) = handles_are_newer s past lane t.place old dues l j has
    (ap is_granted got.1.1) mine in
    let holder : holds s past t.place lane ≡ true = asker_holds s past t.place lane mine in
    handle_keeps s past c lanes dues lane k t handle running site h there at_k came
    (held_unclosed s past t.place lane j there holder) (λ out. holder) newer goes

-- A HANDLE was polled that is due for its CLOSE: its call was cancelled and has ended.
pub granted_due_keeps :
    (s : Setting) (past : List Entry) (core : Core) (lanes : ℕ → LaneValue) (dues : List ℕ) (lane k : ℕ)
    (t : Ticketed) (handle : List ℕ) (running : Option Running) (site : Site)
    → AreDueGrants s past dues → SessionTied s past core lanes dues → lane < length s.lanes
    → slice_get (lanes lane).tickets k
    ≡ Some t → reply_in (record_at core t.ticket) ≡ Some (reply.Handle handle)
    → is_in t.place dues ≡ true → IsBelow t.place (grant_places (lanes lane).grants)
    → LaneGoes s past lane running site (without_index k (ticket_places (lanes lane).tickets))
    → SessionTied s past (after_poll core t.ticket) (with_lane lanes lane
    (granted_lane (lanes lane) k t handle running site)) dues
granted_due_keeps s past c lanes dues lane k t handle running site d h there at_k came due newer goes =
    handle_keeps s past c lanes dues lane k t handle running site h there at_k came
    (due_in dues t.place d.unheld due).unclosed (λ out. absurd (let clash : true ≡ false = sym due ∙ out in cc))
    newer goes
  where
    due_in : (gs : List ℕ) (g : ℕ) → AllDue s past gs → is_in g gs ≡ true → IsDue s past g
    due_in [] g all e = absurd cc
    due_in (x ∷ xs) g all e = elim (eqb_tells x g) [
      | inl u ↦ subst (λ (n : ℕ). IsDue s past n) u.1 all.0
      | inr u ↦
          due_in xs g all.1 (rw u.0 at e)
    ]

-- A ticket was dropped whose request is no unanswered one of the current call, and brought no handle.
pub dropped_keeps : (s : Setting) (past : List Entry) (core : Core) (lanes : ℕ → LaneValue) (dues : List ℕ) (lane k : ℕ)
    (t : Ticketed) (running : Option Running) (site : Site)
    → SessionTied s past core lanes dues → lane < length s.lanes → slice_get (lanes lane).tickets k ≡ Some t
    → is_grant past t.place ≡ false
    → (is_asked_by (asked_at past t.place) lane (count_ended past lane) ≡ true → answer past t.place ≡ None → ⊥)
    → LaneGoes s past lane running site (without_index k (ticket_places (lanes lane).tickets))
    → SessionTied s past (core_after_abandon core t.ticket) (with_lane lanes lane
    (spent_lane (lanes lane) k running site))
    dues
dropped_keeps s past c lanes dues lane k t running site h there at_k plain done goes =
    by_state (id_state past t.ticket) refl (reads past t.ticket) borne
  where
    l : LaneTied s past lane (lanes lane) dues
    l = h.each lane there

    borne : place_of (id_state past t.ticket) ≡ Some t.place
    borne = ticket_at past (lanes lane).tickets k t l.holds.tied at_k

    wants : ℕ → Bool
    wants = wants_but past lanes lane k

    grants : ℕ → Bool
    grants = among past (grants_of lanes)

    away : (wants t.place ≡ false) × (grants t.place ≡ false)
    away = now_unwanted s past c lanes dues lane k t h there at_k plain

    wanted : among past (tickets_of lanes) t.place ≡ true
    wanted = (let mine = asked_it s past lane k (lanes lane) dues t l at_k in
        among_self past (tickets_of lanes) lane t.place mine.0 mine.1.0 mine.1.1
        ∙ at_in (tickets_of lanes lane) k t.place (ticket_index (lanes lane).tickets k t at_k))

    spent : (now : Core) → CoreTied s past now → record_at now t.ticket ≡ stand wants grants (id_state past t.ticket)
        → ((i : ℕ) → i ≢ t.ticket → record_at now i ≡ record_at c i) → SessionTied s past now
        (with_lane lanes lane (spent_lane (lanes lane) k running site)) dues
    spent now work here elsewhere =
        spent_tied s past c now lanes dues lane k t running site h there at_k borne plain done work here elsewhere
        (subst (λ (x : List ℕ). LaneGoes s past lane running site x) (sym (ticket_without (lanes lane).tickets k))
        goes)

    by_state : (x : IdState) → id_state past t.ticket ≡ x → ReadsId past t.ticket x → place_of x ≡ Some t.place
        → SessionTied s past (core_after_abandon c t.ticket) (with_lane lanes lane
        (spent_lane (lanes lane) k running site)) dues
    by_state Free is read at_place = absurd cc
    by_state (Pending p a b) is read at_place =
        let same : p ≡ t.place = cc in
        let e : Expected = expected_of a.request in
        let stands : record_at c t.ticket ≡ Some (Waiting e b (among past (tickets_of lanes) p)) = h.table t.ticket
        ∙ ap (stand (among past (tickets_of lanes)) grants) is in
        subst (λ (x : Core). SessionTied s past x (with_lane lanes lane (spent_lane (lanes lane) k running site)) dues)
        (sym (ap (abandon_leaves c t.ticket) stands))
        (spent (with_record c t.ticket (Waiting e b false)) (core_placed s past c t.ticket (Waiting e b false) h.work)
        (put_here c.table t.ticket (Waiting e b false) ∙ sym (ap (stand wants grants) is
        ∙ dropped_waits wants grants p a b (ap wants same ∙ away.0)))
        (λ i ne. put_elsewhere c.table t.ticket (Waiting e b false) i ne))
    by_state (Replied p a y) is read at_place =
        let same : p ≡ t.place = cc in
        let e : Expected = expected_of a.request in
        let was : among past (tickets_of lanes) p ≡ true = ap (among past (tickets_of lanes)) same ∙ wanted in
        let stands : record_at c t.ticket ≡ Some (Answered e y) = h.table t.ticket
        ∙ (ap (stand (among past (tickets_of lanes)) grants) is ∙ rw was refl) in
        let no_handle : is_handle y ≡ false = ap is_granted (sym read.1 ∙ ap (answer past) same) ∙ plain in
        let left : core_after_abandon c t.ticket ≡ removed c t.ticket = ap (abandon_leaves c t.ticket) stands
        ∙ ap (core.core_after_drop c t.ticket) (brings_none y no_handle) in
        subst (λ (x : Core). SessionTied s past x (with_lane lanes lane (spent_lane (lanes lane) k running site)) dues)
        (sym left)
        (spent (removed c t.ticket) (core_removed s past c t.ticket h.work)
        (gone_here c.table t.ticket ∙ sym (ap (stand wants grants) is
        ∙ polled_plain wants grants p a y (ap wants same ∙ away.0) (ap grants same ∙ away.1)))
        (λ i ne. gone_elsewhere c.table t.ticket i ne))

-- ---- requests

pub request_keeps : (s : Setting) (past : List Entry) (core : Core) (lanes : ℕ → LaneValue) (lane id : ℕ) (r : Request)
    (running : Running) (site : Site)
    → SessionTied s past core lanes [] → lane < length s.lanes → IsJournal s (own_request past lane id r ∷ past)
    → is_close r ≡ false → record_at core id ≡ None
    → LaneGoes s (own_request past lane id r ∷ past) lane (Some running) site
    (ticket_places (lanes lane).tickets ++ count_submitted past ∷ [])
    → SessionTied s (own_request past lane id r ∷ past) (queued_last core id r true)
    (with_lane lanes lane (asking_lane (lanes lane) (count_submitted past) id (lanes lane).grants running site)) []
request_keeps s past c lanes lane id r running site h there j plain free goes =
    request_tied s past c (queued_last c id r true) lanes lane id r running site h there j plain
    (core_queued s past c (owner.Call lane (count_ended past lane)) id r true h.work) free
    (put_here c.table id (Waiting (expected_of r) false true))
    (λ i ne. put_elsewhere c.table id (Waiting (expected_of r) false true) i ne) goes

-- a lane's grant stands with one user
one_user : (s : Setting) (past : List Entry) (c : Core) (lanes : ℕ → LaneValue) (dues : List ℕ) (lane g k : ℕ)
    (grant : GrantValue) → SessionTied s past c lanes dues → lane < length s.lanes → slice_get (lanes lane).grants k
    ≡ Some (record { place = g; grant = grant })
    → core_after_release c grant ≡ queued_last c grant.id (request.Close grant.handle) true
one_user s past c lanes dues lane g k grant h there got =
    let l : LaneTied s past lane (lanes lane) dues = h.each lane there in
    let it : Held = record { place = g; grant = grant } in
    let gs : List ℕ = grants_of lanes lane in
    let here : is_in g gs ≡ true = at_in gs k g (grant_index (lanes lane).grants k it got) in
    let mine = of_in past lane gs g l.holds.held_of here in
    let state = grant_state past (lanes lane).grants k it l.holds.held got in
    let stands : record_at c grant.id ≡ Some (Granted grant.handle 1) =
    grant_counts past (among past (tickets_of lanes)) (among past (grants_of lanes)) (record_at c) grant.id g state.0
    grant.handle h.table state.1
    (among_self past (tickets_of lanes) lane g mine.0 mine.1.0 mine.1.1 ∙ l.holds.apart g here)
    (among_self past (grants_of lanes) lane g mine.0 mine.1.0 mine.1.1 ∙ here) in
    ap (λ p. release_leaves c grant (users_of p)) stands

-- The lane's runner asked the CLOSE of a grant, which the lane released.
pub close_request_keeps : (s : Setting) (past : List Entry) (core : Core) (lanes : ℕ → LaneValue) (lane g k : ℕ)
    (grant : GrantValue) (running : Running) (site : Site)
    → SessionTied s past core lanes [] → lane < length s.lanes
    → IsJournal s (own_request past lane grant.id (request.Close grant.handle) ∷ past)
    → closes s past (closed_grants s past) (owner.Call lane (count_ended past lane)) ≡ Some g
    → slice_get (lanes lane).grants k
    ≡ Some (record { place = g; grant = grant })
    → LaneGoes s (own_request past lane grant.id (request.Close grant.handle) ∷ past) lane (Some running) site
    (ticket_places (lanes lane).tickets ++ count_submitted past ∷ [])
    → SessionTied s (own_request past lane grant.id (request.Close grant.handle) ∷ past) (core_after_release core grant)
    (with_lane lanes lane (asking_lane (lanes lane) (count_submitted past) grant.id
    (without_index k (lanes lane).grants) running site))
    []
close_request_keeps s past c lanes lane g k grant running site h there j is got goes =
    let r : Request = request.Close grant.handle in
    let new : LaneValue = asking_lane (lanes lane) (count_submitted past) grant.id (without_index k (lanes lane).grants)
    running site in
    subst (λ (x : Core). SessionTied s (own_request past lane grant.id r ∷ past) x (with_lane lanes lane new) [])
    (sym (one_user s past c lanes [] lane g k grant h there got))
    (close_request_tied s past c (queued_last c grant.id r true) lanes lane grant.id g k grant.handle r running site h
    there j refl is got (core_queued s past c (owner.Call lane (count_ended past lane)) grant.id r true h.work)
    (put_here c.table grant.id (Waiting (expected_of r) false true))
    (λ i ne. put_elsewhere c.table grant.id (Waiting (expected_of r) false true) i ne) goes)

-- the session's own CLOSE: queued, and its ticket dropped at once
abbrev pub closing_core : Core → ℕ → List ℕ → Core
closing_core c id handle = with_record (queued_last c id (request.Close handle) true) id
    (Waiting (expected_of (request.Close handle)) false false)

pub closing_is : (s : Setting) (past : List Entry) (c : Core) (lanes : ℕ → LaneValue) (dues : List ℕ) (lane g k : ℕ)
    (grant : GrantValue) → SessionTied s past c lanes dues → lane < length s.lanes → slice_get (lanes lane).grants k
    ≡ Some (record { place = g; grant = grant })
    → core_after_abandon (core_after_release c grant) grant.id ≡ closing_core c grant.id grant.handle
closing_is s past c lanes dues lane g k grant h there got =
    ap (λ (x : Core). core_after_abandon x grant.id) (one_user s past c lanes dues lane g k grant h there got)
    ∙ ap (abandon_leaves (queued_last c grant.id (request.Close grant.handle) true) grant.id)
    (put_here c.table grant.id (Waiting (expected_of (request.Close grant.handle)) false true))

pub closing_work : (s : Setting) (past : List Entry) (c : Core) (lanes : ℕ → LaneValue) (dues : List ℕ) (lane g k : ℕ)
    (grant : GrantValue) → SessionTied s past c lanes dues → lane < length s.lanes → slice_get (lanes lane).grants k
    ≡ Some (record { place = g; grant = grant })
    → CoreTied s (close_of past g grant.id ∷ past) (closing_core c grant.id grant.handle)
closing_work s past c lanes dues lane g k grant h there got =
    let l : LaneTied s past lane (lanes lane) dues = h.each lane there in
    let state = grant_state past (lanes lane).grants k (record { place = g; grant = grant }) l.holds.held got in
    let same : handle_of (answer past g) ≡ grant.handle = ap handle_of
    (subst (ReadsId past grant.id) state.1 (reads past grant.id)).1 in
    subst (λ (x : List ℕ). CoreTied s (entry.Event (Submit owner.Close grant.id (request.Close x)) ∷ past)
    (closing_core c grant.id grant.handle)) (sym same)
    (core_placed s (entry.Event (Submit owner.Close grant.id (request.Close grant.handle)) ∷ past)
    (queued_last c grant.id (request.Close grant.handle) true) grant.id
    (Waiting (expected_of (request.Close grant.handle)) false false)
    (core_queued s past c owner.Close grant.id (request.Close grant.handle) true h.work))

pub closing_elsewhere : (c : Core) (id : ℕ) (handle : List ℕ) (i : ℕ) → i ≢ id → record_at (closing_core c id handle) i
    ≡ record_at c i
closing_elsewhere c id handle i ne =
    put_elsewhere (queued_last c id (request.Close handle) true).table id
    (Waiting (expected_of (request.Close handle)) false false) i ne
    ∙ put_elsewhere c.table id (Waiting (expected_of (request.Close handle)) false true) i ne

-- The session closed the grant of a lane that is due next.
pub closed_keeps : (s : Setting) (past : List Entry) (core : Core) (lanes : ℕ → LaneValue) (dues rest : List ℕ)
    (lane g k : ℕ) (grant : GrantValue)
    → SessionTied s past core lanes dues → lane < length s.lanes → IsJournal s (close_of past g grant.id ∷ past)
    → next_due s past ≡ Some g → FewerDue g dues rest
    → slice_get (lanes lane).grants k ≡ Some (record { place = g; grant = grant })
    → SessionTied s (close_of past g grant.id ∷ past) (core_after_abandon (core_after_release core grant) grant.id)
    (with_lane lanes lane (closed_lane (lanes lane) k)) rest
closed_keeps s past c lanes dues rest lane g k grant h there j due fewer got =
    subst (λ (x : Core). SessionTied s (close_of past g grant.id ∷ past) x
    (with_lane lanes lane (closed_lane (lanes lane) k)) rest)
    (sym (closing_is s past c lanes dues lane g k grant h there got))
    (close_tied s past c (closing_core c grant.id grant.handle) lanes dues rest g grant.id k lane grant.handle h j due
    fewer there got (closing_work s past c lanes dues lane g k grant h there got)
    (put_here (queued_last c grant.id (request.Close grant.handle) true).table grant.id
    (Waiting (expected_of (request.Close grant.handle)) false false)) (closing_elsewhere c grant.id grant.handle))

-- What was queued is sent.
pub sent_keeps : (s : Setting) (past : List Entry) (core : Core) (lanes : ℕ → LaneValue) (dues : List ℕ)
    → SessionTied s past core lanes dues → SessionTied s (entry.Event Send ∷ past) (handed_out core) lanes dues
sent_keeps s past c lanes dues h = send_tied s past c (handed_out c) lanes dues (core_sent s past c h.work)
    (hand_out_each c) h
