-- A session on runners, as a lane is let go.
use Rattle.std.proofs.Common.{subst, ◌≡◌, ◌≢◌, ◌<◌, ℕ, true, false, List, [], ◌∷◌, Option, Some, None, refl, ap, sym, ◌∙◌, inl, inr}
use Rattle.std.specs.Prelude.{◌||◌, length, slice_get, ◌++◌}
use Rattle.std.specs.List.{list_any}
use Rattle.std.proofs.lemmas.Bool.Decides.{eqb_tells}
use Rattle.sftp_model.specs.Answers.{expected_of}
use Rattle.sftp_model.specs.declared.slot.Slot.{Slot}
use Rattle.sftp_model.specs.declared.slot.Site.{Site}
use Rattle.sftp_model.specs.Slots.{grant_of, has_grant, slot_has}
use Rattle.sftp_core.specs.Core.{Core, record_at}
use Rattle.sftp_core.specs.declared.id_record.IdRecord.TheVariants.{Waiting}
use Rattle.plan_model.specs.Moves.{handle_of}
use Rattle.plan_runner.specs.declared.next.Running.{Running}
use Rattle.session_model.specs.declared.entry.Entry.{Entry}
use Rattle.session_model.specs.Readings.{answer, count_ended, own}
use Rattle.session_model.specs.Calls.{Setting, current, held_by, site_of}
use Rattle.session_model.specs.Grants.{closed_grants, holds, is_asked_by, is_grant, is_one_of, is_unended_asker}
use Rattle.session_model.proofs.GrantLaws.{any_where}
use Rattle.session_model.specs.Journals.{IsJournal, close_of}
use Rattle.session_model.proofs.HolderLaws.{holds_back, may_of}
use Rattle.session_laws.specs.Lanes.{AtTied, CoreTied, Held, LaneHolds, LaneTied, LaneValue, SessionTied, Ticketed, grant_places, ticket_places, grants_of}
use Rattle.session_laws.specs.Letting.{ReleasesSlots}
use Rattle.session_laws.specs.Changes.{bare_site, closed_lane, let_go_lane, with_lane}
use Rattle.session_laws.specs.Places.{is_in, without_index}
use Rattle.session_laws.proofs.SameLaws.{Same, grants_same, lane_same, of_same, tickets_same}
use Rattle.session_laws.proofs.BareSites.{bare_pends, bare_within}
use Rattle.session_laws.proofs.CloseLaws.{close_tied, grant_index, grant_without}
use Rattle.session_laws.proofs.SessionLaws.{each_with, table_kept, unasked}
use Rattle.session_laws.proofs.LettingLaws.{letting_close, letting_due}
use Rattle.session_laws.proofs.PlaceLaws.{without_other}
use Rattle.session_laws.proofs.HoldLaws.{holder_asked, of_in, one_asker}
use Rattle.sftp_model.specs.declared.request.Request.TheVariants as request
use Rattle.session_model.specs.declared.entry.Entry.TheVariants as entry
use Rattle.session_laws.specs.Dues.{AreDueGrants}

-- another lane
other_let_go : (s : Setting) (past : List Entry) (lane w : ℕ) → lane ≢ w → Same s past (entry.LetGo lane ∷ past) w
other_let_go s past lane w ne =
    let now : List Entry = entry.LetGo lane ∷ past in
    let stays : site_of s now w ≡ site_of s past w = elim (eqb_tells lane w)
    [ inl t ↦ absurd (ne t.1) | inr t ↦ rw t.0 refl ] in
    record {
      places = λ i. refl;
      brought = λ i p a handle e. e;
      asks = λ p. refl;
      answers = λ p. refl;
      ends = refl;
      calls = λ some. refl;
      site = stays;
      owns = refl;
      gone = refl;
      holders = λ g. ap (λ (x : Site). has_grant (held_by (current s past w) (own past w (count_ended past w)) x) g
          || is_unended_asker past w g) stays;
    }

-- the lane's call is none
idle_lane : (s : Setting) (past : List Entry) (lane : ℕ) → IsJournal s (entry.LetGo lane ∷ past) → current s past lane
    ≡ None
idle_lane s past lane j = (may_of s past (entry.LetGo lane) j.0 (λ g m. cc (m.1.1)) (λ k same. cc same)).1

-- what it has between calls
at_rest : (s : Setting) (past : List Entry) (lane : ℕ) (running : Option Running) (site : Site) → current s past lane
    ≡ None → AtTied s past lane running site → site ≡ site_of s past lane
at_rest s past lane None site none t = t.1
at_rest s past lane (Some r) site none t = absurd (t.2 none)

-- its grants are due from then on
let_go_holds : (s : Setting) (past : List Entry) (lane : ℕ) (ts : List Ticketed) (gs : List Held)
    → IsJournal s (entry.LetGo lane ∷ past) → LaneHolds s past lane ts gs []
    → LaneHolds s (entry.LetGo lane ∷ past) lane ts gs (grant_places gs)
let_go_holds s past lane ts gs j h =
    let now : List Entry = entry.LetGo lane ∷ past in
    record {
      tied = tickets_same past now ts (λ i. refl) h.tied;
      tied_of = of_same past now lane (ticket_places ts) (λ p. refl) h.tied_of;
      tied_rise = h.tied_rise;
      held = grants_same past now gs (λ i p a handle e. e) h.held;
      held_of = of_same past now lane (grant_places gs) (λ p. refl) h.held_of;
      held_rise = h.held_rise;
      apart = h.apart;
      asks = λ p mine none. h.asks p mine none;
      whole = λ g granted unclosed holder out. h.whole g granted unclosed
          (holds_back s past (entry.LetGo lane) g lane j granted holder) out;
      holding = λ g e. (let was = h.holding g e in (
        was.0,
        (
          was.1.0,
          λ out. absurd (let clash : true ≡ false = sym e ∙ out in cc),
        ),
      ));
    }

-- A lane is let go: all its grants are due, slot by slot.
pub let_go_tied : (s : Setting) (past : List Entry) (core : Core) (lanes : ℕ → LaneValue) (lane : ℕ)
    → SessionTied s past core lanes [] → lane < length s.lanes → IsJournal s (entry.LetGo lane ∷ past)
    → CoreTied s (entry.LetGo lane ∷ past) core
    → SessionTied s (entry.LetGo lane ∷ past) core (with_lane lanes lane (let_go_lane (lanes lane)))
    (grant_places (lanes lane).grants)
let_go_tied s past core lanes lane h there j work =
    let now : List Entry = entry.LetGo lane ∷ past in
    let old : LaneValue = lanes lane in
    let l : LaneTied s past lane old [] = h.each lane there in
    let none : current s past lane ≡ None = idle_lane s past lane j in
    let dues : List ℕ = grant_places old.grants in
    let emptied : site_of s now lane ≡ bare_site (site_of s past lane) =
    elim (eqb_tells lane lane) [ inl t ↦ rw t.0 refl | inr t ↦ absurd (t.1 refl) ] in
    record {
      work = work;
      table = table_kept now lanes lane (let_go_lane old) (record_at core) refl refl (λ id. h.table id);
      each = each_with (λ w x. LaneTied s now w x dues) lanes lane (let_go_lane old) (length s.lanes)
          (record {
            ends = l.ends;
            holds = let_go_holds s past lane old.tickets old.grants j l.holds;
            goes = record {
              sixteen = refl;
              within = bare_within s.facts old.site.directory;
              runs = (
                unasked s past lane j.1 none,
                ap bare_site (at_rest s past lane old.running old.site none
                    l.goes.runs) ∙ sym emptied,
              );
              sound = tt;
              awaits = bare_pends old.site.directory (ticket_places old.tickets);
            };
          })
          (λ w lt ne. lane_same s past now w (lanes w) [] dues (other_let_go s past lane w ne) (λ g e out. refl)
          (h.each w lt));
    }

-- ---- slot by slot

-- The grant of the slot that is emptied has its CLOSE, and the slot is passed.
pub let_go_close_tied : (s : Setting) (past : List Entry) (core now : Core) (lanes : ℕ → LaneValue) (lane g id k : ℕ)
    (handle : List ℕ) (site : Site) (slot : Slot) (rest : List Slot)
    → SessionTied s past core lanes (grant_places (lanes lane).grants)
    → IsJournal s (close_of past g id ∷ past) → ReleasesSlots s past site (slot ∷ rest) → grant_of slot ≡ Some g
    → (list_any (slot_has g) rest || is_one_of (closed_grants s past) g) ≡ false → lane < length s.lanes
    → slice_get (lanes lane).grants k ≡ Some (record { place = g; grant = record { id = id; handle = handle } })
    → CoreTied s (close_of past g id ∷ past) now → record_at now id ≡ Some
    (Waiting (expected_of (request.Close (handle_of (answer past g)))) false false)
    → ((i : ℕ) → i ≢ id → record_at now i ≡ record_at core i)
    → SessionTied s (close_of past g id ∷ past) now (with_lane lanes lane (closed_lane (lanes lane) k))
    (grant_places (without_index k (lanes lane).grants)) × ReleasesSlots s (close_of past g id ∷ past) site rest
let_go_close_tied s past core now lanes lane g id k handle site slot rest h j l is unheld there got work here elsewhere
    =
    let gs : List ℕ = grant_places (lanes lane).grants in
    let at_k : slice_get gs k ≡ Some g = grant_index (lanes lane).grants k
    (record { place = g; grant = record { id = id; handle = handle } }) got in
    let left : grant_places (without_index k (lanes lane).grants) ≡ without_index k gs =
    grant_without (lanes lane).grants k in (
      close_tied s past core now lanes gs (grant_places (without_index k (lanes lane).grants)) g id k lane handle h j
          (letting_due s past site slot rest g l is unheld)
          (λ q ne out. sym (without_other gs k g q at_k ne) ∙ (ap (is_in q) (sym left) ∙ out)) there got work here
          elsewhere,
      letting_close s past site slot rest g id l is unheld,
    )

-- other grants may be due, where each grant of a lane that is not due is held
dues_tied : (s : Setting) (past : List Entry) (core : Core) (lanes : ℕ → LaneValue) (dues more : List ℕ)
    → ((w : ℕ) (l : LaneTied s past w (lanes w) dues) (g : ℕ) → is_in g (grants_of lanes w) ≡ true → is_in g more
    ≡ false → holds s past g w ≡ true) → SessionTied s past core lanes dues → SessionTied s past core lanes more
dues_tied s past core lanes dues more held h =
    record {
      work = h.work;
      table = h.table;
      each = λ w lt. (let l : LaneTied s past w (lanes w) dues = h.each w lt in
          record {
            ends = l.ends;
            holds = record {
              tied = l.holds.tied;
              tied_of = l.holds.tied_of;
              tied_rise = l.holds.tied_rise;
              held = l.holds.held;
              held_of = l.holds.held_of;
              held_rise = l.holds.held_rise;
              apart = l.holds.apart;
              asks = l.holds.asks;
              whole = l.holds.whole;
              holding = λ g e. (let was = l.holds.holding g e in (was.0, (was.1.0, λ out. held w l g e out)));
            };
            goes = l.goes;
          });
    }

-- More may be due than before.
pub more_due_tied : (s : Setting) (past : List Entry) (core : Core) (lanes : ℕ → LaneValue) (dues more : List ℕ)
    → ((g : ℕ) → is_in g more ≡ false → is_in g dues ≡ false) → SessionTied s past core lanes dues
    → SessionTied s past core lanes more
more_due_tied s past core lanes dues more less h = dues_tied s past core lanes dues more
    (λ w l g e out. (l.holds.holding g e).1.1 (less g out)) h

-- Where nothing is due by the journal, no grant of a lane is.
pub rest_tied :
    (s : Setting) (past : List Entry) (core : Core) (lanes : ℕ → LaneValue) (dues : List ℕ) → IsJournal s past
    → AreDueGrants s past [] → SessionTied s past core lanes dues → SessionTied s past core lanes []
rest_tied s past core lanes dues j d h = dues_tied s past core lanes dues []
    (λ w l g e out. held_by_it w (lanes w) l g e (l.holds.holding g e).0 (l.holds.holding g e).1.0) h
  where
    held_by_it : (w : ℕ) (v : LaneValue) → LaneTied s past w v dues → (g : ℕ) → is_in g (grant_places v.grants) ≡ true
        → is_grant past g ≡ true → is_one_of (closed_grants s past) g ≡ false → holds s past g w ≡ true
    held_by_it w v l g e granted unclosed =
        let who = any_where (holds s past g) (length s.lanes) (d.each g granted unclosed refl) in
        let asked_it = holder_asked s past g who.0 j who.1.1 in
        let mine = of_in past w (grant_places v.grants) g l.holds.held_of e in
        let same : who.0 ≡ w = one_asker mine.0 w who.0 asked_it.0 mine.1.1
        (ap (λ x. is_asked_by x who.0 asked_it.0) (sym mine.1.0) ∙ asked_it.1) in
        subst (λ (n : ℕ). holds s past g n ≡ true) same who.1.1
