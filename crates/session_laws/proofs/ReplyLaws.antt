-- The invariant of a session holds behind a reply that was taken, behind ends, and as a lane is let go.
use Rattle.std.proofs.Common.{◌≡◌, ◌==◌, ℕ, Bool, true, false, List, [], ◌∷◌, Some, refl, ap, sym, ◌∙◌, subst}
use Rattle.sftp_model.specs.declared.answers.Expected.{Expected}
use Rattle.sftp_model.specs.declared.request.Request.{Request}
use Rattle.sftp_model.specs.declared.reply.Reply.{Reply}
use Rattle.sftp_model.specs.Answers.{expected_of, is_handle}
use Rattle.sftp_core.specs.declared.id_record.IdRecord.TheVariants.{Waiting, Answered}
use Rattle.sftp_core.specs.Core.{Core, record_at, queued_last, with_record, without_record as removed, core_after_abandon, core_after_release}
use Rattle.sftp_core.specs.Take.{take_leaves}
use Rattle.sftp_core.proofs.Elsewhere.{gone_elsewhere, gone_here, put_elsewhere, put_here}
use Rattle.plan_model.specs.Moves.{handle_of}
use Rattle.session_model.specs.declared.event.Event.TheVariants.{Cancel, End, Submit, Take}
use Rattle.session_model.specs.declared.entry.Entry.{Entry}
use Rattle.session_model.specs.Readings.{AskedRequest, answer, count_ended}
use Rattle.session_model.specs.Calls.{Setting, site_of}
use Rattle.session_model.specs.Ids.{Pending, ReadsId, id_state}
use Rattle.session_model.specs.Journals.{close_of, IsJournal}
use Rattle.session_model.proofs.IdLaws.{reads}
use Rattle.session_model.proofs.RequestLaws.{answer_new}
use Rattle.session_laws.specs.Lanes.{CoreTied, LaneValue, SessionTied, among, grant_places, grants_of, tickets_of, LaneGoes, ticket_places}
use Rattle.session_laws.specs.Changes.{closed_lane, with_lane, ended_lane, let_go_lane}
use Rattle.session_laws.specs.Tables.{place_of, stand}
use Rattle.session_laws.specs.Places.{without_index}
use Rattle.session_laws.proofs.SessionLaws.{added_tied, cancel_tied, end_tied}
use Rattle.session_laws.proofs.TurnLaws.{brings_none, closing_core, closing_elsewhere, closing_is, closing_work}
use Rattle.session_laws.proofs.CloseLaws.{close_unheld_tied, out_more}
use Rattle.session_laws.proofs.CoreLaws.{core_on, core_placed, core_queued, core_removed}
use Rattle.session_laws.proofs.LetGoTied.{let_go_close_tied, let_go_tied}
use Rattle.session_laws.proofs.LettingLaws.{letting_start}
use Rattle.session_laws.proofs.TakeDues.{pending_ungranted}
use Rattle.session_laws.proofs.TakeHolds.{place_taken, take_tied}
use Rattle.sftp_model.specs.declared.request.Request.TheVariants as request
use Rattle.sftp_model.specs.declared.reply.Reply.TheVariants as reply
use Rattle.sftp_core.specs.Core as core
use Rattle.session_model.specs.declared.event.Owner.TheVariants as owner
use Rattle.session_model.specs.declared.entry.Entry.TheVariants as entry
use Rattle.std.specs.Prelude.{◌<◌, ◌||◌, ◌++◌, length, None, slice_get}
use Rattle.std.specs.List.{list_any}
use Rattle.sftp_model.specs.declared.outcome.Outcome.{Outcome}
use Rattle.sftp_model.specs.declared.slot.Site.{Site}
use Rattle.sftp_model.specs.declared.slot.Slot.{Slot}
use Rattle.sftp_model.specs.Slots.{grant_of, slot_has}
use Rattle.sftp_core.specs.Grant.{GrantValue}
use Rattle.plan_model.specs.declared.call.Call.{Call}
use Rattle.session_model.specs.Grants.{closed_grants, is_one_of, next_due}
use Rattle.session_laws.specs.Dues.{unheld_of}
use Rattle.session_laws.specs.Letting.{ReleasesSlots}

-- ---- replies

-- what stands under a request that waits
waiting_is : (s : Setting) (past : List Entry) (c : Core) (lanes : ℕ → LaneValue) (dues : List ℕ) (id p : ℕ)
    (a : AskedRequest)
    (b : Bool) → SessionTied s past c lanes dues → id_state past id ≡ Pending p a b
    → record_at c id ≡ Some (Waiting (expected_of a.request) b (among past (tickets_of lanes) p))
waiting_is s past c lanes dues id p a b h is = h.table id ∙ ap
    (stand (among past (tickets_of lanes)) (among past (grants_of lanes))) is

-- A reply was taken: a HANDLE only for a call that waits for it.
pub taken_keeps :
    (s : Setting) (past : List Entry) (core : Core) (lanes : ℕ → LaneValue) (id p : ℕ) (a : AskedRequest) (b : Bool)
    (r : Reply)
    → SessionTied s past core lanes [] → IsJournal s past → id_state past id ≡ Pending p a b
    → (is_handle r ≡ true → among past (tickets_of lanes) p ≡ true)
    → SessionTied s (entry.Event (Take id r) ∷ past) (take_leaves core id r (record_at core id)) lanes []
taken_keeps s past c lanes id p a b r h j is wanted = by_wanted (among past (tickets_of lanes) p) refl
  where
    now : List Entry
    now = entry.Event (Take id r) ∷ past

    e : Expected
    e = expected_of a.request

    no_grant : among past (grants_of lanes) p ≡ false
    no_grant = pending_ungranted s past c lanes [] p j (subst (ReadsId past id) is (reads past id)).1 h

    plain : (x : Bool) → is_handle r ≡ x → among past (tickets_of lanes) p ≡ false → is_handle r ≡ false
    plain true e none = absurd (let clash : false ≡ true = sym none ∙ wanted e in cc)
    plain false e none = e

    by_wanted : (w : Bool) → among past (tickets_of lanes) p ≡ w
        → SessionTied s now (take_leaves c id r (record_at c id)) lanes []
    by_wanted true w =
        subst (λ (x : Core). SessionTied s now x lanes []) (sym (ap (take_leaves c id r)
        (waiting_is s past c lanes [] id p a b h is ∙ ap (λ (x : Bool). Some (Waiting e b x)) w)))
        (take_tied s past c (with_record c id (Answered e r)) lanes [] id p a b r j is h
        (core_placed s now c id (Answered e r) (core_on s past now c refl h.work))
        (put_here c.table id (Answered e r) ∙ sym (rw w refl)) (λ i ne. put_elsewhere c.table id (Answered e r) i ne))
    by_wanted false w =
        subst (λ (x : Core). SessionTied s now x lanes [])
        (sym (ap (take_leaves c id r) (waiting_is s past c lanes [] id p a b h is
        ∙ ap (λ (x : Bool). Some (Waiting e b x)) w) ∙ ap (core.core_after_drop c id)
        (brings_none r (plain (is_handle r) refl w))))
        (take_tied s past c (removed c id) lanes [] id p a b r j is h
        (core_removed s now c id (core_on s past now c refl h.work))
        (gone_here c.table id ∙ sym (rw (w, no_grant) refl)) (λ i ne. gone_elsewhere c.table id i ne))

-- A HANDLE was taken that no lane wants, and its CLOSE was queued.
pub unwanted_keeps : (s : Setting) (past : List Entry) (core : Core) (lanes : ℕ → LaneValue) (id p : ℕ)
    (a : AskedRequest)
    (b : Bool) (handle : List ℕ)
    → SessionTied s past core lanes [] → IsJournal s (close_of (entry.Event (Take id (reply.Handle handle)) ∷ past) p id
    ∷ entry.Event (Take id (reply.Handle handle)) ∷ past) → id_state past id ≡ Pending p a b
    → among past (tickets_of lanes) p ≡ false → next_due s (entry.Event (Take id (reply.Handle handle)) ∷ past) ≡ Some p
    → SessionTied s (close_of (entry.Event (Take id (reply.Handle handle)) ∷ past) p id ∷ entry.Event
    (Take id (reply.Handle handle)) ∷ past) (take_leaves core id (reply.Handle handle) (record_at core id)) lanes []
unwanted_keeps s past c lanes id p a b handle h j is unwanted due =
    let r : Reply = reply.Handle handle in
    let mid : List Entry = entry.Event (Take id r) ∷ past in
    let read = subst (ReadsId past id) is (reads past id) in
    let e : Expected = expected_of a.request in
    let close : Request = request.Close handle in
    let no_grant : among past (grants_of lanes) p ≡ false = pending_ungranted s past c lanes [] p j.1.1 read.1 h in
    let taken : SessionTied s mid (removed c id) lanes (p ∷ []) =
    take_tied s past c (removed c id) lanes (p ∷ []) id p a b r j.1.1 is h
    (core_removed s mid c id (core_on s past mid c refl h.work))
    (gone_here c.table id ∙ sym (rw (unwanted, no_grant) refl)) (λ i ne. gone_elsewhere c.table id i ne) in
    let same : handle_of (answer mid p) ≡ handle = ap handle_of (answer_new past id p r read.0) in
    let left : take_leaves c id r (record_at c id) ≡ queued_last c id close false =
    ap (take_leaves c id r) (waiting_is s past c lanes [] id p a b h is
    ∙ ap (λ (x : Bool). Some (Waiting e b x)) unwanted) in
    subst (λ (x : Core). SessionTied s (close_of mid p id ∷ mid) x lanes []) (sym left)
    (close_unheld_tied s mid (removed c id) (queued_last c id close false) lanes (p ∷ []) [] p id taken j due
    (λ q ne out. out_more p q [] ne refl) (place_taken r (id == id) (id_state past id) ∙ ap place_of is) unwanted
    no_grant
    (subst (λ (x : List ℕ). CoreTied s (entry.Event (Submit owner.Close id (request.Close x)) ∷ mid)
    (queued_last c id close false)) (sym same) (core_queued s mid c owner.Close id close false
    (core_on s past mid c refl h.work)))
    (put_here c.table id (Waiting (expected_of close) false false))
    (λ i ne. put_elsewhere c.table id (Waiting (expected_of close) false false) i ne
    ∙ sym (gone_elsewhere c.table id i ne)))

-- ---- ends

pub cancel_keeps : (s : Setting) (past : List Entry) (core : Core) (lanes : ℕ → LaneValue) (dues : List ℕ) (lane : ℕ)
    → SessionTied s past core lanes dues → SessionTied s (entry.Event (Cancel lane) ∷ past) core lanes dues
cancel_keeps s past c lanes dues lane h = cancel_tied s past c lanes dues lane
    (core_on s past (entry.Event (Cancel lane) ∷ past) c refl h.work) h

-- The lane's call ended, by its plan or after its Cancel: the grants that no slot of the lane has any more are due.
pub end_keeps : (s : Setting) (past : List Entry) (core : Core) (lanes : ℕ → LaneValue) (lane : ℕ) (o : Outcome)
    (site : Site)
    → SessionTied s past core lanes [] → lane < length s.lanes
    → IsJournal s (entry.Event (End lane (count_ended past lane) o) ∷ past)
    → LaneGoes s (entry.Event (End lane (count_ended past lane) o) ∷ past) lane None site
    (ticket_places (lanes lane).tickets)
    → SessionTied s (entry.Event (End lane (count_ended past lane) o) ∷ past) core
    (with_lane lanes lane (ended_lane (lanes lane) site))
    (unheld_of (site_of s (entry.Event (End lane (count_ended past lane) o) ∷ past) lane)
    (grant_places (lanes lane).grants))
end_keeps s past c lanes lane o site h there j goes = end_tied s past c lanes lane o site h there j
    (core_on s past (entry.Event (End lane (count_ended past lane) o) ∷ past) c refl h.work) goes

-- A call was added to a lane.
pub added_keeps : (s : Setting) (past : List Entry) (core : Core) (lanes : ℕ → LaneValue) (dues : List ℕ) (lane : ℕ)
    (c : Call) → SessionTied s past core lanes dues → IsJournal s past
    → SessionTied s (entry.Added lane c ∷ past) core lanes dues
added_keeps s past c lanes dues lane call h j = added_tied s past c lanes dues lane call j
    (core_on s past (entry.Added lane call ∷ past) c refl h.work) h

-- ---- a lane is let go

pub let_go_keeps : (s : Setting) (past : List Entry) (core : Core) (lanes : ℕ → LaneValue) (lane : ℕ)
    → SessionTied s past core lanes [] → lane < length s.lanes → IsJournal s (entry.LetGo lane ∷ past)
    → SessionTied s (entry.LetGo lane ∷ past) core (with_lane lanes lane (let_go_lane (lanes lane)))
    (grant_places (lanes lane).grants) × ReleasesSlots s (entry.LetGo lane ∷ past) (site_of s past lane)
    (site_of s past lane).slots
let_go_keeps s past c lanes lane h there j = (
  let_go_tied s past c lanes lane h there j
      (core_on s past (entry.LetGo lane ∷ past) c refl h.work),
  letting_start s past lane,
)

-- The grant of the next slot has its CLOSE, where no later slot has it and it has none; and the slot is passed.
pub let_go_closed_keeps : (s : Setting) (past : List Entry) (core : Core) (lanes : ℕ → LaneValue) (lane g k : ℕ)
    (grant : GrantValue) (site : Site) (slot : Slot) (rest : List Slot)
    → SessionTied s past core lanes (grant_places (lanes lane).grants) → lane < length s.lanes
    → IsJournal s (close_of past g grant.id ∷ past)
    → ReleasesSlots s past site (slot ∷ rest) → grant_of slot ≡ Some g
    → (list_any (slot_has g) rest || is_one_of (closed_grants s past) g) ≡ false → slice_get (lanes lane).grants k
    ≡ Some (record { place = g; grant = grant })
    → SessionTied s (close_of past g grant.id ∷ past) (core_after_abandon (core_after_release core grant) grant.id)
    (with_lane lanes lane (closed_lane (lanes lane) k)) (grant_places (without_index k (lanes lane).grants))
    × ReleasesSlots s (close_of past g grant.id ∷ past) site rest
let_go_closed_keeps s past c lanes lane g k grant site slot rest h there j l is unheld got =
    let both = let_go_close_tied s past c (closing_core c grant.id grant.handle) lanes lane g grant.id k grant.handle
    site slot rest h j l is unheld there got
    (closing_work s past c lanes (grants_of lanes lane) lane g k grant h there got)
    (put_here (queued_last c grant.id (request.Close grant.handle) true).table grant.id
    (Waiting (expected_of (request.Close grant.handle)) false false)) (closing_elsewhere c grant.id grant.handle) in (
      subst (λ (x : Core). SessionTied s (close_of past g grant.id ∷ past) x
          (with_lane lanes lane (closed_lane (lanes lane) k)) (grant_places (without_index k (lanes lane).grants)))
          (sym (closing_is s past c lanes (grants_of lanes lane) lane g k grant h there got)) both.0,
      both.1,
    )
