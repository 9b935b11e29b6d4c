-- A session of lanes on runners, as one lane changes, as a call ends, and as entries come that change no lane.
use Rattle.std.proofs.Common.{◌≡◌, ◌≢◌, ◌<◌, ◌+◌, ◌==◌, ℕ, Bool, true, false, List, [], ◌∷◌, Option, None, refl, ap, sym, ◌∙◌, subst, if◌then◌else◌, inl, inr}
use Rattle.std.specs.Prelude.{◌||◌, ◌⊎◌, length, slice_get}
use Rattle.std.proofs.lemmas.Bool.{eq-eqb, or_left}
use Rattle.std.proofs.lemmas.Bool.Decides.{eqb_tells}
use Rattle.sftp_model.specs.declared.outcome.Outcome.{Outcome}
use Rattle.sftp_model.specs.declared.slot.Site.{Site}
use Rattle.sftp_model.specs.Slots.{has_grant}
use Rattle.sftp_core.specs.Core.{Core, record_at}
use Rattle.sftp_core.specs.declared.id_record.IdRecord.{IdRecord}
use Rattle.plan_model.specs.Moves.{Own}
use Rattle.plan_model.specs.declared.call.Call.{Call}
use Rattle.session_model.specs.declared.event.Event.TheVariants.{Cancel, End}
use Rattle.session_model.specs.declared.entry.Entry.{Entry}
use Rattle.session_model.specs.Readings.{count_ended, own}
use Rattle.session_model.specs.Calls.{Setting, call_at, current, held_by, lane_calls, site_of}
use Rattle.session_model.specs.Grants.{is_unended_asker}
use Rattle.session_model.specs.Journals.{IsJournal}
use Rattle.session_model.proofs.CallLaws.{added_here, added_other, ended_end, ended_other, has_place, site_other}
use Rattle.session_model.proofs.HolderLaws.{got_more, own_asked}
use Rattle.session_model.proofs.AllClosedLaws.{asker_called}
use Rattle.session_laws.specs.Lanes.{CoreTied, LaneGoes, LaneTied, LaneValue, SessionTied, among, grant_places, grants_of, ticket_places, tickets_of}
use Rattle.session_laws.specs.Tables.{TableMatches}
use Rattle.session_laws.specs.Changes.{ended_lane, with_lane}
use Rattle.session_laws.specs.Dues.{unheld_of}
use Rattle.session_laws.specs.Places.{with_places}
use Rattle.session_laws.proofs.SameLaws.{Same, lane_same}
use Rattle.session_laws.proofs.EndHolds.{end_holds}
use Rattle.session_laws.proofs.GoneLaws.{held_idle}
use Rattle.session_laws.proofs.EndLaws.{holds_other}
use Rattle.session_model.specs.declared.entry.Entry.TheVariants as entry

-- ---- one lane changes

tickets_with : (lanes : ℕ → LaneValue) (lane : ℕ) (v : LaneValue) (w : ℕ) → tickets_of (with_lane lanes lane v) w
    ≡ with_places (tickets_of lanes) lane (ticket_places v.tickets) w
tickets_with lanes lane v w = by_test (lane == w)
  where
    by_test : (b : Bool) → ticket_places (if b then v else lanes w).tickets
        ≡ (if b then ticket_places v.tickets else ticket_places (lanes w).tickets)
    by_test true = refl
    by_test false = refl

grants_with : (lanes : ℕ → LaneValue) (lane : ℕ) (v : LaneValue) (w : ℕ) → grants_of (with_lane lanes lane v) w
    ≡ with_places (grants_of lanes) lane (grant_places v.grants) w
grants_with lanes lane v w = by_test (lane == w)
  where
    by_test : (b : Bool) → grant_places (if b then v else lanes w).grants
        ≡ (if b then grant_places v.grants else grant_places (lanes w).grants)
    by_test true = refl
    by_test false = refl

pub same_places : (places : ℕ → List ℕ) (lane : ℕ) (now : List ℕ) → now ≡ places lane → (w : ℕ) → places w
    ≡ with_places places lane now w
same_places places lane now e w = elim (eqb_tells lane w) [
  | inl t ↦ rw t.0 (ap places (sym t.1) ∙ sym e)
  | inr t ↦
      rw t.0 refl
]

-- the table, by the lanes' own lists
pub table_with : (past : List Entry) (lanes : ℕ → LaneValue) (lane : ℕ) (v : LaneValue) (tickets grants : List ℕ)
    (table : ℕ → Option IdRecord) → tickets ≡ ticket_places v.tickets → grants ≡ grant_places v.grants
    → TableMatches past (among past (with_places (tickets_of lanes) lane tickets))
    (among past (with_places (grants_of lanes) lane grants)) table
    → TableMatches past (among past (tickets_of (with_lane lanes lane v)))
    (among past (grants_of (with_lane lanes lane v))) table
table_with past lanes lane v tickets grants table et eg t =
    let ft : with_places (tickets_of lanes) lane tickets ≡ tickets_of (with_lane lanes lane v) =
    λ i w. (ap (λ (l : List ℕ). with_places (tickets_of lanes) lane l w) et ∙ sym (tickets_with lanes lane v w)) i
    in
    let fg : with_places (grants_of lanes) lane grants ≡ grants_of (with_lane lanes lane v) =
    λ i w. (ap (λ (l : List ℕ). with_places (grants_of lanes) lane l w) eg ∙ sym (grants_with lanes lane v w)) i in
    subst (λ (f : ℕ → List ℕ). TableMatches past (among past f) (among past (grants_of (with_lane lanes lane v))) table)
    ft
    (subst (λ (g : ℕ → List ℕ). TableMatches past (among past (with_places (tickets_of lanes) lane tickets))
    (among past g) table) fg t)

-- a lane changes, but none of its lists
pub table_kept : (past : List Entry) (lanes : ℕ → LaneValue) (lane : ℕ) (v : LaneValue) (table : ℕ → Option IdRecord)
    → ticket_places v.tickets ≡ tickets_of lanes lane → grant_places v.grants ≡ grants_of lanes lane
    → TableMatches past (among past (tickets_of lanes)) (among past (grants_of lanes)) table
    → TableMatches past (among past (tickets_of (with_lane lanes lane v)))
    (among past (grants_of (with_lane lanes lane v))) table
table_kept past lanes lane v table et eg t =
    let ft : tickets_of lanes ≡ with_places (tickets_of lanes) lane (ticket_places v.tickets) =
    λ i w. same_places (tickets_of lanes) lane (ticket_places v.tickets) et w i in
    let fg : grants_of lanes ≡ with_places (grants_of lanes) lane (grant_places v.grants) =
    λ i w. same_places (grants_of lanes) lane (grant_places v.grants) eg w i in
    table_with past lanes lane v (ticket_places v.tickets) (grant_places v.grants) table refl refl
    (subst (λ (f : ℕ → List ℕ). TableMatches past (among past f)
    (among past (with_places (grants_of lanes) lane (grant_places v.grants))) table) ft
    (subst (λ (g : ℕ → List ℕ). TableMatches past (among past (tickets_of lanes)) (among past g) table) fg t))

pub each_with : (P : ℕ → LaneValue → Type 0) (lanes : ℕ → LaneValue) (lane : ℕ) (v : LaneValue) (n : ℕ) → P lane v
    → ((w : ℕ) → w < n → lane ≢ w → P w (lanes w)) → (w : ℕ) → w < n → P w (with_lane lanes lane v w)
each_with P lanes lane v n here others w lt = elim (eqb_tells lane w)
    [ inl t ↦ rw t.0 (subst (λ (k : ℕ). P k v) t.1 here) | inr t ↦ rw t.0 (others w lt t.1) ]

-- ---- a call ends

-- another lane
other_end : (s : Setting) (past : List Entry) (lane w : ℕ) (o : Outcome) → lane ≢ w
    → Same s past (entry.Event (End lane (count_ended past lane) o) ∷ past) w
other_end s past lane w o ne =
    let now : List Entry = entry.Event (End lane (count_ended past lane) o) ∷ past in
    let ends : count_ended now w ≡ count_ended past w = ended_other past lane (count_ended past lane) w o ne in
    record {
      places = λ i. refl;
      brought = λ i p a handle e. e;
      asks = λ p. refl;
      answers = λ p. refl;
      ends = ends;
      calls = λ some. ap (λ (n : ℕ). call_at s past w n) ends;
      site = site_other s past lane (count_ended past lane) w o ne;
      owns = ap (λ (n : ℕ). own past w n) ends;
      gone = refl;
      holders = λ g. holds_other s past lane w o g ne;
    }

-- The call of a lane ends, by its plan or behind its Cancel: all grants of it that no slot has any more are due.
pub end_tied : (s : Setting) (past : List Entry) (core : Core) (lanes : ℕ → LaneValue) (lane : ℕ) (o : Outcome)
    (site : Site) → SessionTied s past core lanes [] → lane < length s.lanes
    → IsJournal s (entry.Event (End lane (count_ended past lane) o) ∷ past)
    → CoreTied s (entry.Event (End lane (count_ended past lane) o) ∷ past) core
    → LaneGoes s (entry.Event (End lane (count_ended past lane) o) ∷ past) lane None site
    (ticket_places (lanes lane).tickets)
    → SessionTied s (entry.Event (End lane (count_ended past lane) o) ∷ past) core
    (with_lane lanes lane (ended_lane (lanes lane) site))
    (unheld_of (site_of s (entry.Event (End lane (count_ended past lane) o) ∷ past) lane)
    (grant_places (lanes lane).grants))
end_tied s past core lanes lane o site h there j work goes =
    let now : List Entry = entry.Event (End lane (count_ended past lane) o) ∷ past in
    let old : LaneValue = lanes lane in
    let v : LaneValue = ended_lane old site in
    let l : LaneTied s past lane old [] = h.each lane there in
    let dues : List ℕ = unheld_of (site_of s now lane) (grant_places old.grants) in
    record {
      work = work;
      table = table_kept now lanes lane v (record_at core) refl refl (λ id. h.table id);
      each = each_with (λ w x. LaneTied s now w x dues) lanes lane v (length s.lanes)
          (record {
            ends = ap (λ (n : ℕ). n + 1) l.ends ∙ sym (ended_end past lane (count_ended past lane) o);
            holds = end_holds s past lane o old.tickets old.grants j l.holds;
            goes = goes;
          })
          (λ w lt ne. lane_same s past now w (lanes w) [] dues (other_end s past lane w o ne) (λ g e out. refl)
          (h.each w lt));
    }

-- ---- entries that change no lane

pub same_tied : (s : Setting) (past now : List Entry) (core later : Core) (lanes : ℕ → LaneValue) (dues : List ℕ)
    → CoreTied s now later → TableMatches now (among now (tickets_of lanes)) (among now (grants_of lanes))
    (record_at later)
    → ((w : ℕ) → Same s past now w) → SessionTied s past core lanes dues → SessionTied s now later lanes dues
same_tied s past now core later lanes dues work table same h =
    record {
      work = work;
      table = table;
      each = λ w lt. lane_same s past now w (lanes w) dues dues (same w)
          (λ g e out. out) (h.each w lt);
    }

pub cancel_same : (s : Setting) (past : List Entry) (lane w : ℕ) → Same s past (entry.Event (Cancel lane) ∷ past) w
cancel_same s past lane w = record {
  places = λ i. refl;
  brought = λ i p a handle e. e;
  asks = λ p. refl;
  answers =
      λ p. refl;
  ends = refl;
  calls = λ some. refl;
  site = refl;
  owns = refl;
  gone = refl;
  holders = λ g. refl;
}

-- The Cancel of a lane's call changes nothing that its End does not.
pub cancel_tied : (s : Setting) (past : List Entry) (core : Core) (lanes : ℕ → LaneValue) (dues : List ℕ) (lane : ℕ)
    → CoreTied s (entry.Event (Cancel lane) ∷ past) core → SessionTied s past core lanes dues
    → SessionTied s (entry.Event (Cancel lane) ∷ past) core lanes dues
cancel_tied s past core lanes dues lane work h = same_tied s past (entry.Event (Cancel lane) ∷ past) core core lanes
    dues work (λ id. h.table id)
    (cancel_same s past lane) h

-- ---- a call is added

-- a lane without a call has no requests of one
pub unasked : (s : Setting) (past : List Entry) (lane : ℕ) → IsJournal s past → current s past lane ≡ None
    → own past lane (count_ended past lane) ≡ []
unasked s past lane j none = by_own (own past lane (count_ended past lane)) refl
  where
    by_own : (o : Own) → own past lane (count_ended past lane) ≡ o → o ≡ []
    by_own [] is = refl
    by_own (a ∷ later) is =
        absurd (asker_called s past lane (count_ended past lane) a.0 j
        (own_asked past lane (count_ended past lane) a.0 (ap (λ (o : Own). has_place o a.0) is
        ∙ or_left (a.0 == a.0) _ (eq-eqb a.0 a.0 refl))) none)

added_calls : (s : Setting) (past : List Entry) (l w : ℕ) (c : Call)
    → (current s (entry.Added l c ∷ past) w ≡ current s past w) ⊎ (current s past w ≡ None)
added_calls s past l w c = elim (eqb_tells l w) [
  | inl t ↦ subst (λ (k : ℕ). (current s (entry.Added l c ∷ past) k ≡ current s past k) ⊎ (current s past k ≡ None)) t.1
      (elim (got_more (lane_calls s past l) (c ∷ []) (count_ended past l)) [
        | inl same ↦ inl (ap (λ calls. slice_get calls (count_ended past l)) (added_here s past l c) ∙ same)
        | inr none ↦ inr none
      ])
  | inr t ↦ inl (ap (λ calls. slice_get calls (count_ended past w)) (added_other s past l w c t.1))
]

pub added_same : (s : Setting) (past : List Entry) (l : ℕ) (c : Call) → IsJournal s past → (w : ℕ)
    → Same s past (entry.Added l c ∷ past) w
added_same s past l c j w =
    let now : List Entry = entry.Added l c ∷ past in
    let mine : Own = own past w (count_ended past w) in
    let held : held_by (current s now w) mine (site_of s past w) ≡ held_by (current s past w) mine (site_of s past w) =
    elim (added_calls s past l w c) [
      | inl same ↦ ap (λ x. held_by x mine (site_of s past w)) same
      | inr none ↦ (let bare : mine ≡ [] = unasked s past w j none in
          ap (λ (o : Own). held_by (current s now w) o (site_of s past w)) bare
          ∙ (held_idle (current s now w) (site_of s past w)
          ∙ sym (ap (λ (o : Own). held_by (current s past w) o (site_of s past w)) bare
          ∙ held_idle (current s past w) (site_of s past w))))
    ] in
    record {
      places = λ i. refl;
      brought = λ i p a handle e. e;
      asks = λ p. refl;
      answers = λ p. refl;
      ends = refl;
      calls = λ some. elim (added_calls s past l w c) [ inl same ↦ same | inr none ↦ absurd (some none) ];
      site = refl;
      owns = refl;
      gone = refl;
      holders = λ g. ap (λ (x : Site). has_grant x g || is_unended_asker past w g) held;
    }

-- A call that is added to a lane changes no lane.
pub added_tied : (s : Setting) (past : List Entry) (core : Core) (lanes : ℕ → LaneValue) (dues : List ℕ) (l : ℕ)
    (c : Call) → IsJournal s past → CoreTied s (entry.Added l c ∷ past) core → SessionTied s past core lanes dues
    → SessionTied s (entry.Added l c ∷ past) core lanes dues
added_tied s past core lanes dues l c j work h = same_tied s past (entry.Added l c ∷ past) core core lanes dues work
    (λ id. h.table id) (added_same s past l c j) h
