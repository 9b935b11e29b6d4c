-- What a lane has of tickets and grants behind the end of its call: the grants that no slot has are due.
use Rattle.std.proofs.Common.{◌≡◌, ◌+◌, ℕ, true, false, List, [], ◌∷◌, refl, ap, sym, ◌∙◌, arith}
use Rattle.sftp_model.specs.declared.outcome.Outcome.{Outcome}
use Rattle.sftp_model.specs.declared.slot.Site.{Site}
use Rattle.session_model.specs.declared.event.Event.TheVariants.{End}
use Rattle.session_model.specs.declared.entry.Entry.{Entry}
use Rattle.session_model.specs.Readings.{asked_at, count_ended, own}
use Rattle.session_model.specs.Calls.{Setting, site_of}
use Rattle.session_model.proofs.CallLaws.{has_place, asker_owns, ended_end, own_fresh}
use Rattle.session_model.specs.Grants.{is_asked_by, is_grant}
use Rattle.session_model.proofs.HolderLaws.{holds_back}
use Rattle.session_model.specs.Journals.{IsJournal}
use Rattle.session_laws.specs.Dues.{AreDueGrants, unheld_of}
use Rattle.session_laws.specs.Places.{is_in}
use Rattle.session_laws.specs.Lanes.{Held, LaneHolds, Ticketed, grant_places, ticket_places}
use Rattle.session_laws.proofs.EndLaws.{dues_end, holds_ended, kept}
use Rattle.session_laws.proofs.HoldLaws.{are_grants}
use Rattle.session_laws.proofs.SameLaws.{grants_same, of_same, tickets_same}
use Rattle.session_model.specs.declared.entry.Entry.TheVariants as entry

-- the call of the lane ends; its tickets are still to be dropped
pub end_holds : (s : Setting) (past : List Entry) (lane : ℕ) (o : Outcome) (ts : List Ticketed) (gs : List Held)
    → IsJournal s (entry.Event (End lane (count_ended past lane) o) ∷ past) → LaneHolds s past lane ts gs []
    → LaneHolds s (entry.Event (End lane (count_ended past lane) o) ∷ past) lane ts gs
    (unheld_of (site_of s (entry.Event (End lane (count_ended past lane) o) ∷ past) lane) (grant_places gs))
end_holds s past lane o ts gs j h =
    let now : List Entry = entry.Event (End lane (count_ended past lane) o) ∷ past in
    let site : Site = site_of s now lane in
    let more : count_ended now lane ≡ count_ended past lane + 1 = ended_end past lane (count_ended past lane) o in
    record {
      tied = tickets_same past now ts (λ i. refl) h.tied;
      tied_of = of_same past now lane (ticket_places ts) (λ p. refl) h.tied_of;
      tied_rise = h.tied_rise;
      held = grants_same past now gs (λ i p a handle e. e) h.held;
      held_of = of_same past now lane (grant_places gs) (λ p. refl) h.held_of;
      held_rise = h.held_rise;
      apart = h.apart;
      asks = λ p mine none. absurd (let has : has_place (own past lane (count_ended past lane + 1)) p ≡ true =
          asker_owns past lane (count_ended past lane + 1) p (ap (λ (n : ℕ). is_asked_by (asked_at past p) lane n)
          (sym more)
          ∙ mine) in
          let empty : own past lane (count_ended past lane + 1) ≡ [] =
          own_fresh s past lane (count_ended past lane + 1) j.1 (omega arith) in
          let clash : false ≡ true = rw empty at has in cc);
      whole = λ g granted unclosed holder out. h.whole g granted unclosed
          (holds_back s past (entry.Event (End lane (count_ended past lane) o)) g lane j granted holder) out;
      holding = λ g e. (let was = h.holding g e in (
        was.0,
        (
          was.1.0,
          λ out. holds_ended s past lane o g j.1
              ∙ kept site g (grant_places gs) e out,
        ),
      ));
    }

-- and what is due is all of the session: every grant that no slot of the lane has any more
pub end_dues : (s : Setting) (past : List Entry) (lane : ℕ) (o : Outcome) (ts : List Ticketed) (gs : List Held)
    → IsJournal s past → AreDueGrants s past [] → LaneHolds s past lane ts gs []
    → ((p : ℕ) → is_in p (ticket_places ts) ≡ true → is_grant past p ≡ false)
    → AreDueGrants s (entry.Event (End lane (count_ended past lane) o) ∷ past)
    (unheld_of (site_of s (entry.Event (End lane (count_ended past lane) o) ∷ past) lane) (grant_places gs))
end_dues s past lane o ts gs j d h polled = dues_end s past lane o (grant_places gs) j d
    (are_grants s past lane ts gs j h polled)
