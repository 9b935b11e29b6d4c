-- A session on runners, as a lane's runner asks: a plain request, or the CLOSE of a grant.
use Rattle.std.proofs.Common.{◌≡◌, ◌≢◌, ◌<◌, ℕ, Bool, true, false, List, [], ◌∷◌, ◌++◌, Some, None, refl, ap, sym, ◌∙◌, subst}
use Rattle.std.specs.Prelude.{length, slice_get}
use Rattle.sftp_model.specs.Answers.{expected_of}
use Rattle.sftp_model.specs.declared.request.Request.{Request}
use Rattle.sftp_model.specs.declared.slot.Site.{Site}
use Rattle.sftp_core.specs.Core.{Core, record_at}
use Rattle.sftp_core.specs.declared.id_record.IdRecord.TheVariants.{Waiting}
use Rattle.plan_runner.specs.declared.next.Running.{Running}
use Rattle.session_model.specs.declared.entry.Entry.{Entry}
use Rattle.session_model.specs.Readings.{count_submitted, bearer, count_ended}
use Rattle.session_model.specs.Calls.{Setting}
use Rattle.session_model.specs.Grants.{closed_grants, closes, is_close, is_one_of}
use Rattle.session_model.specs.Ids.{ReadsId, id_state}
use Rattle.session_model.specs.Journals.{IsJournal}
use Rattle.session_model.proofs.IdLaws.{reads}
use Rattle.session_laws.specs.Lanes.{
  AllOf,
  CoreTied,
  Held,
  LaneGoes,
  LaneTied,
  LaneValue,
  SessionTied,
  among,
  grant_places,
  grants_of,
  ticket_places,
  tickets_of,
}
use Rattle.session_laws.specs.Changes.{IsBare, asking_lane, with_lane}
use Rattle.session_laws.specs.Places.{is_in, without_index}
use Rattle.session_laws.specs.Running.{own_request}
use Rattle.session_laws.specs.Tables.{place_of}
use Rattle.session_laws.proofs.StepLaws.{ask_tied}
use Rattle.session_laws.proofs.PlaceLaws.{at_in, without_other, without_self}
use Rattle.session_laws.proofs.FreeLaws.{borne_bare, free_bare, free_bare_grants}
use Rattle.session_laws.proofs.AskLaws.{close_left, closed_one, closed_plain, plain_left, still_unclosed}
use Rattle.session_laws.proofs.CloseLaws.{grant_index, grant_state, grant_without, one_more}
use Rattle.session_laws.proofs.HoldLaws.{of_in, one_lane}
use Rattle.session_laws.proofs.OtherLaws.{other_ask}
use Rattle.session_model.specs.declared.event.Owner.TheVariants as owner

-- no ticket and no grant of a lane bears an id under which the core has nothing
ticket_bare : (s : Setting) (past : List Entry) (core : Core) (lanes : ℕ → LaneValue) (dues : List ℕ) (id w : ℕ)
    → SessionTied s past core lanes dues → record_at core id ≡ None → w < length s.lanes
    → IsBare past id (tickets_of lanes w)
ticket_bare s past core lanes dues id w h none lt = free_bare past (tickets_of lanes) (among past (grants_of lanes))
    (record_at core) id w h.table none (h.each w lt).holds.tied_of

grant_bare : (s : Setting) (past : List Entry) (core : Core) (lanes : ℕ → LaneValue) (dues : List ℕ) (id w : ℕ)
    → SessionTied s past core lanes dues → record_at core id ≡ None → w < length s.lanes
    → IsBare past id (grants_of lanes w)
grant_bare s past core lanes dues id w h none lt =
    let l : LaneTied s past w (lanes w) dues = h.each w lt in
    free_bare_grants past (tickets_of lanes) (grants_of lanes) (record_at core) id w h.table none l.holds.held_of
    (λ g e. (l.holds.holding g e).0) l.holds.apart

-- A plain request of a lane's runner, under an id under which the core had nothing.
pub request_tied : (s : Setting) (past : List Entry) (core now : Core) (lanes : ℕ → LaneValue) (lane id : ℕ)
    (q : Request) (r : Running) (site : Site) → SessionTied s past core lanes [] → lane < length s.lanes
    → IsJournal s (own_request past lane id q ∷ past) → is_close q ≡ false
    → CoreTied s (own_request past lane id q ∷ past) now
    → record_at core id ≡ None → record_at now id ≡ Some (Waiting (expected_of q) false true)
    → ((i : ℕ) → i ≢ id → record_at now i ≡ record_at core i)
    → LaneGoes s (own_request past lane id q ∷ past) lane (Some r) site
    (ticket_places (lanes lane).tickets ++ count_submitted past ∷ [])
    → SessionTied s (own_request past lane id q ∷ past) now (with_lane lanes lane
    (asking_lane (lanes lane) (count_submitted past) id (lanes lane).grants r site)) []
request_tied s past core now lanes lane id q r site h there j plain work none here elsewhere goes =
    let v : LaneValue = lanes lane in
    let same : closed_grants s (own_request past lane id q ∷ past) ≡ closed_grants s past =
    closed_plain s past lane id q plain in
    ask_tied s past core now lanes lane id q v.grants r site h there j work here elsewhere
    (ticket_bare s past core lanes [] id lane h none there) (grant_bare s past core lanes [] id lane h none there)
    (λ p ne. refl) (plain_left s past lane id q v.tickets v.grants j plain (h.each lane there).holds) goes
    (λ w lt ne. (let o : LaneTied s past w (lanes w) [] = h.each w lt in
    other_ask s past lane w id q (lanes w) j ne o (ticket_bare s past core lanes [] id w h none lt)
    (grant_bare s past core lanes [] id w h none lt)
    (λ g e. ap (λ c. is_one_of c g) same ∙ (o.holds.holding g e).1.0) (λ g e. still_unclosed s past lane id g q e)))

-- The CLOSE that a lane's runner asks, under the id of the grant that it closes.
pub close_request_tied : (s : Setting) (past : List Entry) (core now : Core) (lanes : ℕ → LaneValue) (lane id g k : ℕ)
    (handle : List ℕ) (q : Request) (r : Running) (site : Site) → SessionTied s past core lanes []
    → lane < length s.lanes
    → IsJournal s (own_request past lane id q ∷ past) → is_close q ≡ true
    → closes s past (closed_grants s past) (owner.Call lane (count_ended past lane)) ≡ Some g
    → slice_get (lanes lane).grants k ≡ Some (record { place = g; grant = record { id = id; handle = handle } })
    → CoreTied s (own_request past lane id q ∷ past) now
    → record_at now id ≡ Some (Waiting (expected_of q) false true)
    → ((i : ℕ) → i ≢ id → record_at now i ≡ record_at core i)
    → LaneGoes s (own_request past lane id q ∷ past) lane (Some r) site
    (ticket_places (lanes lane).tickets ++ count_submitted past ∷ [])
    → SessionTied s (own_request past lane id q ∷ past) now (with_lane lanes lane
    (asking_lane (lanes lane) (count_submitted past) id (without_index k (lanes lane).grants) r site)) []
close_request_tied s past core now lanes lane id g k handle q r site h there j close is got work here elsewhere goes =
    let v : LaneValue = lanes lane in
    let it : Held = record { place = g; grant = record { id = id; handle = handle } } in
    let l : LaneTied s past lane v [] = h.each lane there in
    let gs : List ℕ = grant_places v.grants in
    let at_k : slice_get gs k ≡ Some g = grant_index v.grants k it got in
    let mine : is_in g gs ≡ true = at_in gs k g at_k in
    let state = grant_state past v.grants k it l.holds.held got in
    let borne : place_of (id_state past id) ≡ Some g = ap place_of state.1 in
    let bears : bearer past id ≡ Some g = (subst (ReadsId past id) state.1 (reads past id)).0 in
    let left : grant_places (without_index k v.grants) ≡ without_index k gs = grant_without v.grants k in
    let more : closed_grants s (own_request past lane id q ∷ past) ≡ Some g ∷ closed_grants s past =
    closed_one s past lane id g q close is in
    let other : (w : ℕ) → lane ≢ w → (ps : List ℕ) → AllOf past w ps → is_in g ps ≡ false = λ w ne ps all.
    never (is_in g ps) (λ e. ne (one_lane past g lane w (of_in past lane gs g l.holds.held_of mine)
    (of_in past w ps g all e))) in
    ask_tied s past core now lanes lane id q (without_index k v.grants) r site h there j work here elsewhere
    (borne_bare past id g (ticket_places v.tickets) borne (l.holds.apart g mine))
    (borne_bare past id g (grant_places (without_index k v.grants)) borne
    (ap (is_in g) left ∙ without_self gs k g l.holds.held_rise at_k))
    (λ p ne. ap (is_in p) left ∙ without_other gs k g p at_k (λ e. ne (bears ∙ ap (λ (n : ℕ). Some n) (sym e))))
    (close_left s past lane id g k q v.tickets v.grants j more l.holds at_k) goes
    (λ w lt ne. (let o : LaneTied s past w (lanes w) [] = h.each w lt in
    let away : is_in g (grant_places (lanes w).grants) ≡ false =
    other w ne (grant_places (lanes w).grants) o.holds.held_of in
    other_ask s past lane w id q (lanes w) j ne o (borne_bare past id g (ticket_places (lanes w).tickets) borne
    (other w ne (ticket_places (lanes w).tickets) o.holds.tied_of))
    (borne_bare past id g (grant_places (lanes w).grants) borne away)
    (λ p e. ap (λ c. is_one_of c p) more ∙ one_more g p (closed_grants s past)
    (λ same. (let clash : false ≡ true = sym away ∙ (ap (λ (n : ℕ). is_in n (grant_places (lanes w).grants))
    (sym same) ∙ e) in absurd cc)) (o.holds.holding p e).1.0)
    (λ p e. still_unclosed s past lane id p q e)))
  where
    never : (b : Bool) → (b ≡ true → ⊥) → b ≡ false
    never true h = absurd (h refl)
    never false h = refl
