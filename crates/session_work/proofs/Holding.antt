-- A session between two states of a lane's runner: its reply was polled, its request submitted, its call ended.
use Rattle.std.proofs.Common.{
  ◌≡◌,
  ◌≢◌,
  ◌<◌,
  ◌+◌,
  ◌==◌,
  ℕ,
  Bool,
  true,
  false,
  List,
  [],
  ◌∷◌,
  ◌++◌,
  Some,
  None,
  refl,
  ap,
  sym,
  ◌∙◌,
  subst,
  arith,
  inl,
  inr,
  if◌then◌else◌,
}
use Rattle.std.specs.Prelude.{length}
use Rattle.std.proofs.lemmas.Bool.Decides.{eqb_tells}
use Rattle.sftp_model.specs.Answers.{expected_of}
use Rattle.sftp_model.specs.declared.outcome.Outcome.{Outcome}
use Rattle.sftp_model.specs.declared.request.Request.{Request}
use Rattle.sftp_model.specs.declared.slot.Site.{Site}
use Rattle.sftp_core.specs.Core.{Core, record_at, queued_last}
use Rattle.sftp_core.specs.declared.id_record.IdRecord.TheVariants.{Waiting}
use Rattle.sftp_core.proofs.Elsewhere.{put_elsewhere, put_here}
use Rattle.plan_runner.specs.declared.next.Running.{Running}
use Rattle.session_model.specs.declared.event.Owner.{Owner}
use Rattle.session_model.specs.declared.event.Event.TheVariants.{End}
use Rattle.session_model.specs.declared.entry.Entry.{Entry}
use Rattle.session_model.specs.Readings.{count_submitted, bearer, count_ended, own}
use Rattle.session_model.specs.Calls.{Setting, call_at, site_of}
use Rattle.session_model.specs.Grants.{closed_grants, is_close, is_one_of}
use Rattle.session_model.specs.Journals.{IsJournal}
use Rattle.session_model.proofs.CallLaws.{ended_end, ended_other, site_other}
use Rattle.session_model.proofs.RequestLaws.{asked_new}
use Rattle.session_laws.specs.Changes.{IsBare, asking_lane, ended_lane, with_lane}
use Rattle.session_laws.specs.Dues.{unheld_of}
use Rattle.session_laws.specs.Lanes.{
  CoreTied,
  Held,
  LaneGoes,
  LaneHolds,
  LaneTied,
  LaneValue,
  SessionTied,
  Ticketed,
  among,
  grant_places,
  grants_of,
  is_of,
  ticket_places,
  tickets_of,
}
use Rattle.session_laws.specs.Places.{is_in, with_places}
use Rattle.session_laws.specs.Running.{own_request}
use Rattle.session_laws.specs.Tables.{TableMatches}
use Rattle.session_laws.proofs.AskHolds.{ask_holds}
use Rattle.session_laws.proofs.AskLaws.{closed_plain, plain_left, still_unclosed}
use Rattle.session_laws.proofs.CloseLaws.{among_below}
use Rattle.session_laws.proofs.CoreLaws.{core_on, core_queued}
use Rattle.session_laws.proofs.EndHolds.{end_holds}
use Rattle.session_laws.proofs.EndLaws.{holds_other}
use Rattle.session_laws.proofs.FreeLaws.{free_bare, free_bare_grants}
use Rattle.session_laws.proofs.HoldLaws.{ticket_push}
use Rattle.session_laws.proofs.OtherLaws.{other_ask}
use Rattle.session_laws.proofs.PlaceLaws.{push_other, push_self}
use Rattle.session_laws.proofs.PollLaws.{among_other, among_self, now_places}
use Rattle.session_laws.proofs.SameLaws.{Same, lane_same}
use Rattle.session_laws.proofs.SessionLaws.{table_kept, table_with}
use Rattle.session_laws.proofs.TableLaws.{ask_tabled}
use Rattle.session_work.specs.Holding.{HoldsLane}
use Rattle.session_model.specs.declared.event.Owner.TheVariants as owner
use Rattle.session_model.specs.declared.entry.Entry.TheVariants as entry

-- ---- one lane of a session

pub with_here : (lanes : ℕ → LaneValue) (lane : ℕ) (v : LaneValue) → with_lane lanes lane v lane ≡ v
with_here lanes lane v = elim (eqb_tells lane lane) [ inl t ↦ rw t.0 refl | inr t ↦ absurd (t.1 refl) ]

with_there : (lanes : ℕ → LaneValue) (lane : ℕ) (v : LaneValue) (w : ℕ) → lane ≢ w → with_lane lanes lane v w ≡ lanes w
with_there lanes lane v w ne = elim (eqb_tells lane w) [ inl t ↦ absurd (ne t.1) | inr t ↦ rw t.0 refl ]

-- the later value of a lane is the one that counts
pub with_again : (lanes : ℕ → LaneValue) (lane : ℕ) (u v : LaneValue) → with_lane (with_lane lanes lane u) lane v
    ≡ with_lane lanes lane v
with_again lanes lane u v = λ i w. by_test (lane == w) w i
  where
    by_test : (b : Bool) (w : ℕ) → (if b then v else if b then u else lanes w) ≡ (if b then v else lanes w)
    by_test true w = refl
    by_test false w = refl

-- what a lane goes on with is left out,
pub holds_of : (s : Setting) (past : List Entry) (core : Core) (lanes : ℕ → LaneValue) (lane : ℕ) (dues : List ℕ)
    → SessionTied s past core lanes dues → lane < length s.lanes → HoldsLane s past core lanes lane dues
holds_of s past core lanes lane dues h there = (let l : LaneTied s past lane (lanes lane) dues = h.each lane there in
    record { work = h.work; table = h.table; ends = l.ends; holds = l.holds; others = λ w lt ne. h.each w lt })

-- and comes back
pub tied_of : (s : Setting) (past : List Entry) (core : Core) (lanes : ℕ → LaneValue) (lane : ℕ) (dues : List ℕ)
    → HoldsLane s past core lanes lane dues → LaneGoes s past lane (lanes lane).running (lanes lane).site
    (ticket_places (lanes lane).tickets)
    → SessionTied s past core lanes dues
tied_of s past core lanes lane dues h goes =
    record {
      work = h.work;
      table = h.table;
      each = λ w lt. elim (eqb_tells lane w) [
        | inl t ↦ subst (λ (n : ℕ). LaneTied s past n (lanes n) dues) t.1
            (record { ends = h.ends; holds = h.holds; goes = goes })
        | inr t ↦ h.others w lt t.1
      ];
    }

-- one lane has another value
pub holds_with : (s : Setting) (now : List Entry) (core : Core) (lanes : ℕ → LaneValue) (lane : ℕ) (v : LaneValue)
    (dues : List ℕ) → CoreTied s now core
    → TableMatches now (among now (tickets_of (with_lane lanes lane v)))
    (among now (grants_of (with_lane lanes lane v)))
    (record_at core) → v.ended ≡ count_ended now lane → LaneHolds s now lane v.tickets v.grants dues
    → ((w : ℕ) → w < length s.lanes → lane ≢ w → LaneTied s now w (lanes w) dues)
    → HoldsLane s now core (with_lane lanes lane v) lane dues
holds_with s now core lanes lane v dues work table ends holds others =
    record {
      work = work;
      table = table;
      ends = ap (λ (x : LaneValue). x.ended) (with_here lanes lane v) ∙ ends;
      holds = subst (λ (x : LaneValue). LaneHolds s now lane x.tickets x.grants dues) (sym (with_here lanes lane v))
          holds;
      others = λ w lt ne. subst (λ (x : LaneValue). LaneTied s now w x dues) (sym (with_there lanes lane v w ne))
          (others w lt ne);
    }

-- its runner is elsewhere
pub holds_set : (s : Setting) (past : List Entry) (core : Core) (lanes : ℕ → LaneValue) (lane : ℕ) (v : LaneValue)
    (dues : List ℕ) → HoldsLane s past core lanes lane dues → v.tickets ≡ (lanes lane).tickets → v.grants
    ≡ (lanes lane).grants → v.ended ≡ (lanes lane).ended
    → HoldsLane s past core (with_lane lanes lane v) lane dues
holds_set s past core lanes lane v dues h et eg ee =
    holds_with s past core lanes lane v dues h.work (table_kept past lanes lane v (record_at core) (ap ticket_places et)
    (ap grant_places eg) h.table) (ee ∙ h.ends)
    (subst (λ (ts : List Ticketed). LaneHolds s past lane ts v.grants dues) (sym et)
    (subst (λ (gs : List Held). LaneHolds s past lane (lanes lane).tickets gs dues) (sym eg) h.holds)) h.others

-- ---- a request

-- no ticket and no grant of a lane bears an id under which the core has nothing
bare_tickets : (past : List Entry) (core : Core) (lanes : ℕ → LaneValue) (s : Setting) (id w : ℕ)
    → TableMatches past (among past (tickets_of lanes)) (among past (grants_of lanes)) (record_at core)
    → record_at core id ≡ None
    → LaneHolds s past w (lanes w).tickets (lanes w).grants [] → IsBare past id (tickets_of lanes w)
bare_tickets past core lanes s id w table none l = free_bare past (tickets_of lanes) (among past (grants_of lanes))
    (record_at core) id w table none l.tied_of

bare_grants : (past : List Entry) (core : Core) (lanes : ℕ → LaneValue) (s : Setting) (id w : ℕ)
    → TableMatches past (among past (tickets_of lanes)) (among past (grants_of lanes)) (record_at core)
    → record_at core id ≡ None
    → LaneHolds s past w (lanes w).tickets (lanes w).grants [] → IsBare past id (grants_of lanes w)
bare_grants past core lanes s id w table none l = free_bare_grants past (tickets_of lanes) (grants_of lanes)
    (record_at core)
    id w table none l.held_of (λ g e. (l.holding g e).0) l.apart

-- the lane's runner asked something else than a CLOSE
pub request_holds : (s : Setting) (past : List Entry) (core : Core) (lanes : ℕ → LaneValue) (lane id : ℕ) (q : Request)
    (r : Running) (site : Site) → HoldsLane s past core lanes lane [] → IsJournal s (own_request past lane id q ∷ past)
    → is_close q ≡ false → record_at core id ≡ None
    → HoldsLane s (own_request past lane id q ∷ past) (queued_last core id q true)
    (with_lane lanes lane (asking_lane (lanes lane) (count_submitted past) id (lanes lane).grants r site)) lane []
request_holds s past core lanes lane id q r site h j plain none =
    let o : Owner = owner.Call lane (count_ended past lane) in
    let e : List Entry = own_request past lane id q ∷ past in
    let v : LaneValue = lanes lane in
    let new : Ticketed = record { place = count_submitted past; ticket = id } in
    let ps : List ℕ = ticket_places v.tickets ++ count_submitted past ∷ [] in
    let v_now : ℕ → Bool = among e (with_places (tickets_of lanes) lane ps) in
    let g_now : ℕ → Bool = among e (with_places (grants_of lanes) lane (grant_places v.grants)) in
    let same_closed : closed_grants s e ≡ closed_grants s past = closed_plain s past lane id q plain in
    let mine : is_of o lane ≡ true = elim (eqb_tells lane lane) [ inl t ↦ t.0 | inr t ↦ absurd (t.1 refl) ] in
    let wanted : v_now (count_submitted past) ≡ true = among_self e (with_places (tickets_of lanes) lane ps) lane
    (count_submitted past)
    (record { by = o; id = id; request = q }) (asked_new past o id q) mine
    ∙ (ap (is_in (count_submitted past)) (now_places (tickets_of lanes) lane ps)
    ∙ push_self (ticket_places v.tickets) (count_submitted past)) in
    let same : (p : ℕ) → p < count_submitted past → bearer past id ≢ Some p
    → (among past (tickets_of lanes) p ≡ v_now p)
    × (among past (grants_of lanes) p ≡ g_now p) = λ p lt ne. (
      among_other past (tickets_of lanes) lane p ps (push_other (ticket_places v.tickets) (count_submitted past) p
          (λ eq. (omega (arith, lt, eq)))) ∙ among_below past o id q (with_places (tickets_of lanes) lane ps) p lt,
      among_other past (grants_of lanes) lane p (grant_places v.grants) refl
          ∙ among_below past o id q (with_places (grants_of lanes) lane (grant_places v.grants)) p lt,
    ) in
    holds_with s e (queued_last core id q true) lanes lane (asking_lane v (count_submitted past) id v.grants r site) []
    (core_queued s past core o id q true h.work)
    (table_with e lanes lane (asking_lane v (count_submitted past) id v.grants r site) ps (grant_places v.grants)
    (record_at (queued_last core id q true)) (sym (ticket_push v.tickets new)) refl
    (ask_tabled past (among past (tickets_of lanes)) v_now (among past (grants_of lanes)) g_now (record_at core)
    (record_at (queued_last core id q true)) o id q
    (put_here core.table id (Waiting (expected_of q) false true)
    ∙ ap (λ (b : Bool). Some (Waiting (expected_of q) false b)) (sym wanted))
    (λ i ne. put_elsewhere core.table id (Waiting (expected_of q) false true) i ne) same h.table))
    h.ends (ask_holds s past lane id q v.tickets v.grants v.grants j
    (bare_tickets past core lanes s id lane h.table none h.holds)
    (bare_grants past core lanes s id lane h.table none h.holds)
    (plain_left s past lane id q v.tickets v.grants j plain h.holds) h.holds)
    (λ w lt ne. (let x : LaneTied s past w (lanes w) [] = h.others w lt ne in
    other_ask s past lane w id q (lanes w) j ne x (bare_tickets past core lanes s id w h.table none x.holds)
    (bare_grants past core lanes s id w h.table none x.holds)
    (λ g e. ap (λ c. is_one_of c g) same_closed ∙ (x.holds.holding g e).1.0)
    (λ g e. still_unclosed s past lane id g q e)))

-- ---- a call ends

-- another lane
other_end : (s : Setting) (past : List Entry) (lane w : ℕ) (o : Outcome) → lane ≢ w
    → Same s past (entry.Event (End lane (count_ended past lane) o) ∷ past) w
other_end s past lane w o ne =
    let now : List Entry = entry.Event (End lane (count_ended past lane) o) ∷ past in
    let ends : count_ended now w ≡ count_ended past w = ended_other past lane (count_ended past lane) w o ne in
    record {
      places = λ i. refl;
      brought = λ i p a handle e. e;
      asks = λ p. refl;
      answers = λ p. refl;
      ends = ends;
      calls = λ some. ap (λ (n : ℕ). call_at s past w n) ends;
      site = site_other s past lane (count_ended past lane) w o ne;
      owns = ap (λ (n : ℕ). own past w n) ends;
      gone = refl;
      holders = λ g. holds_other s past lane w o g ne;
    }

-- the grants of the lane that no slot has any more are due
pub end_holding : (s : Setting) (past : List Entry) (core : Core) (lanes : ℕ → LaneValue) (lane : ℕ) (o : Outcome)
    (site : Site) → HoldsLane s past core lanes lane [] → IsJournal s
    (entry.Event (End lane (count_ended past lane) o) ∷ past)
    → HoldsLane s (entry.Event (End lane (count_ended past lane) o) ∷ past) core
    (with_lane lanes lane (ended_lane (lanes lane) site)) lane
    (unheld_of (site_of s (entry.Event (End lane (count_ended past lane) o) ∷ past) lane)
    (grant_places (lanes lane).grants))
end_holding s past core lanes lane o site h j =
    let now : List Entry = entry.Event (End lane (count_ended past lane) o) ∷ past in
    let v : LaneValue = lanes lane in
    let dues : List ℕ = unheld_of (site_of s now lane) (grant_places v.grants) in
    holds_with s now core lanes lane (ended_lane v site) dues (core_on s past now core refl h.work)
    (table_kept now lanes lane (ended_lane v site) (record_at core) refl refl (λ id. h.table id))
    (ap (λ (n : ℕ). n + 1) h.ends ∙ sym (ended_end past lane (count_ended past lane) o))
    (end_holds s past lane o v.tickets v.grants j h.holds)
    (λ w lt ne. lane_same s past now w (lanes w) [] dues (other_end s past lane w o ne) (λ g e out. refl)
    (h.others w lt ne))
