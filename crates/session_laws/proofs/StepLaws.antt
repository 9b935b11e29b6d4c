-- A session on runners, as a lane asks, polls and drops.
use Rattle.std.proofs.Common.{◌≡◌, ◌≢◌, ◌<◌, ℕ, Bool, true, false, List, [], ◌∷◌, ◌++◌, Option, Some, None, refl, ap, sym, ◌∙◌, subst, arith, inl, inr}
use Rattle.std.specs.Prelude.{length, slice_get}
use Rattle.std.proofs.lemmas.Bool.Decides.{eqb_tells}
use Rattle.sftp_model.specs.Answers.{expected_of}
use Rattle.sftp_model.specs.declared.request.Request.{Request}
use Rattle.sftp_model.specs.declared.slot.Site.{Site}
use Rattle.sftp_core.specs.Core.{Core, record_at}
use Rattle.sftp_core.specs.declared.id_record.IdRecord.TheVariants.{Waiting, Granted}
use Rattle.plan_runner.specs.declared.next.Running.{Running}
use Rattle.session_model.specs.declared.event.Owner.{Owner}
use Rattle.session_model.specs.declared.event.Event.TheVariants.{Submit}
use Rattle.session_model.specs.declared.entry.Entry.{Entry}
use Rattle.session_model.specs.Readings.{answer, count_submitted, asked_at, bearer, count_ended}
use Rattle.session_model.specs.Calls.{Setting}
use Rattle.session_model.specs.Grants.{is_asked_by, is_grant}
use Rattle.session_model.specs.Ids.{id_state}
use Rattle.session_model.specs.Journals.{IsJournal}
use Rattle.session_model.proofs.RequestLaws.{asked_new}
use Rattle.session_laws.specs.Lanes.{
  CoreTied,
  Held,
  LaneGoes,
  LaneTied,
  LaneValue,
  SessionTied,
  Ticketed,
  among,
  grant_places,
  is_of,
  ticket_places,
  grants_of,
  tickets_of,
}
use Rattle.session_laws.specs.Changes.{GrantsLeft, IsBare, BringsHandle, with_lane, asking_lane, granted_lane, spent_lane, wants_but, grant_of_ticket}
use Rattle.session_laws.specs.Places.{with_places, is_in, without_index}
use Rattle.session_laws.specs.Tables.{TableMatches, place_of, stand}
use Rattle.session_laws.proofs.AskHolds.{ask_holds}
use Rattle.session_laws.proofs.CloseLaws.{among_below}
use Rattle.session_laws.proofs.HoldLaws.{granted_holds, of_in, places_push, spent_holds, ticket_index, ticket_push, ticket_without}
use Rattle.session_laws.proofs.PlaceLaws.{at_in, push_other, push_self}
use Rattle.session_laws.proofs.PollLaws.{among_other, among_self, granted_tabled, now_places, spent_tabled}
use Rattle.session_laws.proofs.SessionLaws.{each_with, same_places, table_with}
use Rattle.session_laws.proofs.TableLaws.{ask_tabled}
use Rattle.session_model.specs.declared.event.Owner.TheVariants as owner
use Rattle.session_model.specs.declared.entry.Entry.TheVariants as entry

pub spent_tied : (s : Setting) (past : List Entry) (core now : Core) (lanes : ℕ → LaneValue) (dues : List ℕ)
    (lane k : ℕ) (t : Ticketed) (running : Option Running) (site : Site)
    → SessionTied s past core lanes dues → lane < length s.lanes → slice_get (lanes lane).tickets k ≡ Some t
    → place_of (id_state past t.ticket) ≡ Some t.place → is_grant past t.place ≡ false
    → (is_asked_by (asked_at past t.place) lane (count_ended past lane) ≡ true → answer past t.place ≡ None → ⊥)
    → CoreTied s past now → record_at now t.ticket ≡ stand (wants_but past lanes lane k) (among past (grants_of lanes))
    (id_state past t.ticket) → ((i : ℕ) → i ≢ t.ticket → record_at now i ≡ record_at core i)
    → LaneGoes s past lane running site (ticket_places (without_index k (lanes lane).tickets))
    → SessionTied s past now (with_lane lanes lane (spent_lane (lanes lane) k running site)) dues
spent_tied s past core now lanes dues lane k t running site h there at_k borne plain done work is elsewhere goes =
    let old : LaneValue = lanes lane in
    let v : LaneValue = spent_lane old k running site in
    let l : LaneTied s past lane old dues = h.each lane there in
    let here : slice_get (ticket_places old.tickets) k ≡ Some t.place = ticket_index old.tickets k t at_k in
    let mine = of_in past lane (ticket_places old.tickets) t.place l.holds.tied_of
    (at_in (ticket_places old.tickets) k t.place here) in
    let table : TableMatches past (wants_but past lanes lane k) (among past (grants_of lanes)) (record_at now) =
    spent_tabled past (tickets_of lanes) (grants_of lanes) lane k t.ticket t.place mine.0 (record_at core)
    (record_at now) mine.1.0
    mine.1.1 l.holds.tied_rise here borne is elsewhere h.table in
    let grants_same : grants_of lanes ≡ with_places (grants_of lanes) lane (grants_of lanes lane) =
    λ i w. same_places (grants_of lanes) lane (grants_of lanes lane) refl w i in
    record {
      work = work;
      table = table_with past lanes lane v (without_index k (ticket_places old.tickets)) (grants_of lanes lane)
          (record_at now) (sym (ticket_without old.tickets k)) refl
          (subst (λ (g : ℕ → List ℕ). TableMatches past (wants_but past lanes lane k) (among past g) (record_at now))
          grants_same table);
      each = each_with (λ w x. LaneTied s past w x dues) lanes lane v (length s.lanes)
          (record {
            ends = l.ends;
            holds = spent_holds s past lane k old.tickets old.grants dues t l.holds at_k plain
                done;
            goes = goes;
          })
          (λ w lt ne. h.each w lt);
    }

pub granted_tied : (s : Setting) (past : List Entry) (core now : Core) (lanes : ℕ → LaneValue) (dues : List ℕ)
    (lane k : ℕ) (t : Ticketed) (handle : List ℕ) (running : Option Running) (site : Site)
    → SessionTied s past core lanes dues → lane < length s.lanes → slice_get (lanes lane).tickets k ≡ Some t
    → BringsHandle s past lane (lanes lane).grants dues t handle
    → CoreTied s past now → record_at now t.ticket ≡ Some (Granted handle 1)
    → ((i : ℕ) → i ≢ t.ticket → record_at now i ≡ record_at core i)
    → LaneGoes s past lane running site (ticket_places (without_index k (lanes lane).tickets))
    → SessionTied s past now (with_lane lanes lane (granted_lane (lanes lane) k t handle running site)) dues
granted_tied s past core now lanes dues lane k t handle running site h there at_k b work is elsewhere goes =
    let old : LaneValue = lanes lane in
    let v : LaneValue = granted_lane old k t handle running site in
    let new : Held = grant_of_ticket t handle in
    let l : LaneTied s past lane old dues = h.each lane there in
    let here : slice_get (ticket_places old.tickets) k ≡ Some t.place = ticket_index old.tickets k t at_k in
    let mine = of_in past lane (ticket_places old.tickets) t.place l.holds.tied_of
    (at_in (ticket_places old.tickets) k t.place here) in
    record {
      work = work;
      table = table_with past lanes lane v (without_index k (ticket_places old.tickets))
          (grant_places old.grants ++ t.place ∷ []) (record_at now) (sym (ticket_without old.tickets k))
          (sym (places_push old.grants new))
          (granted_tabled past (tickets_of lanes) (grants_of lanes) lane k t.ticket t.place mine.0 b.asked handle
          (record_at core) (record_at now) mine.1.0 mine.1.1 l.holds.tied_rise here b.came is elsewhere h.table);
      each = each_with (λ w x. LaneTied s past w x dues) lanes lane v (length s.lanes)
          (record {
            ends = l.ends;
            holds = granted_holds s past lane k old.tickets old.grants dues t handle l.holds at_k
                b;
            goes = goes;
          })
          (λ w lt ne. h.each w lt);
    }

-- The lane's own request, also the CLOSE of a grant of it.
pub ask_tied : (s : Setting) (past : List Entry) (core now : Core) (lanes : ℕ → LaneValue) (lane id : ℕ) (q : Request)
    (left : List Held) (r : Running) (site : Site)
    → SessionTied s past core lanes [] → lane < length s.lanes
    → IsJournal s (entry.Event (Submit (owner.Call lane (count_ended past lane)) id q) ∷ past)
    → CoreTied s (entry.Event (Submit (owner.Call lane (count_ended past lane)) id q) ∷ past) now
    → record_at now id ≡ Some (Waiting (expected_of q) false true)
    → ((i : ℕ) → i ≢ id → record_at now i ≡ record_at core i)
    → IsBare past id (ticket_places (lanes lane).tickets) → IsBare past id (grant_places left)
    → ((p : ℕ) → bearer past id ≢ Some p → is_in p (grant_places left) ≡ is_in p (grant_places (lanes lane).grants))
    → GrantsLeft s past (entry.Event (Submit (owner.Call lane (count_ended past lane)) id q)) lane (lanes lane).grants
    left [] []
    → LaneGoes s (entry.Event (Submit (owner.Call lane (count_ended past lane)) id q) ∷ past) lane (Some r) site
    (ticket_places (lanes lane).tickets ++ count_submitted past ∷ [])
    → ((w : ℕ) → w < length s.lanes → lane ≢ w → LaneTied s (entry.Event
    (Submit (owner.Call lane (count_ended past lane)) id q) ∷ past) w (lanes w) [])
    → SessionTied s (entry.Event (Submit (owner.Call lane (count_ended past lane)) id q) ∷ past) now
    (with_lane lanes lane (asking_lane (lanes lane) (count_submitted past) id left r site)) []
ask_tied s past core now lanes lane id q left r site h there j work here elsewhere bare bare_grants same_grants l_left
    goes others =
    let o : Owner = owner.Call lane (count_ended past lane) in
    let e : List Entry = entry.Event (Submit o id q) ∷ past in
    let old : LaneValue = lanes lane in
    let new : Ticketed = record { place = count_submitted past; ticket = id } in
    let l : LaneTied s past lane old [] = h.each lane there in
    let ps : List ℕ = ticket_places old.tickets ++ count_submitted past ∷ [] in
    let v_now : ℕ → Bool = among e (with_places (tickets_of lanes) lane ps) in
    let g_now : ℕ → Bool = among e (with_places (grants_of lanes) lane (grant_places left)) in
    let mine : is_of o lane ≡ true = elim (eqb_tells lane lane) [ inl t ↦ t.0 | inr t ↦ absurd (t.1 refl) ] in
    let wanted : v_now (count_submitted past) ≡ true = among_self e (with_places (tickets_of lanes) lane ps) lane
    (count_submitted past)
    (record { by = o; id = id; request = q }) (asked_new past o id q) mine
    ∙ (ap (is_in (count_submitted past)) (now_places (tickets_of lanes) lane ps)
    ∙ push_self (ticket_places old.tickets) (count_submitted past)) in
    let same : (p : ℕ) → p < count_submitted past → bearer past id ≢ Some p
    → (among past (tickets_of lanes) p ≡ v_now p)
    × (among past (grants_of lanes) p ≡ g_now p) = λ p lt ne. (
      among_other past (tickets_of lanes) lane p ps (push_other (ticket_places old.tickets) (count_submitted past) p
          (λ eq. (omega (arith, lt, eq)))) ∙ among_below past o id q (with_places (tickets_of lanes) lane ps) p lt,
      among_other past (grants_of lanes) lane p (grant_places left) (same_grants p ne)
          ∙ among_below past o id q (with_places (grants_of lanes) lane (grant_places left)) p lt,
    ) in
    record {
      work = work;
      table = table_with e lanes lane (asking_lane old (count_submitted past) id left r site) ps (grant_places left)
          (record_at now) (sym (ticket_push old.tickets new)) refl
          (ask_tabled past (among past (tickets_of lanes)) v_now (among past (grants_of lanes)) g_now (record_at core)
          (record_at now)
          o id q (here ∙ ap (λ (b : Bool). Some (Waiting (expected_of q) false b)) (sym wanted)) elsewhere same
          h.table);
      each = each_with (λ w x. LaneTied s e w x []) lanes lane (asking_lane old (count_submitted past) id left r site)
          (length s.lanes)
          (record {
            ends = l.ends;
            holds = ask_holds s past lane id q old.tickets old.grants left j bare bare_grants
                l_left l.holds;
            goes = subst (λ (x : List ℕ). LaneGoes s e lane (Some r) site x)
                (sym (ticket_push old.tickets new)) goes;
          })
          others;
    }
