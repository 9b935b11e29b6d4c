-- Which grants are due behind each step of a session.
use Rattle.std.proofs.Common.{[], ◌∷◌, ◌++◌, subst}
use Rattle.session_model.specs.declared.event.Event.TheVariants.{Cancel, Send, End, Take}
use Rattle.session_model.specs.Ids.{ReadsId, Pending, id_state}
use Rattle.session_model.proofs.IdLaws.{reads}
use Rattle.session_laws.specs.Lanes.{grant_places, LaneValue, SessionTied, ticket_places}
use Rattle.session_laws.proofs.SessionLaws.{added_same, cancel_same}
use Rattle.session_laws.proofs.SameLaws.{dues_same}
use Rattle.session_laws.proofs.DueLaws.{dues_settled, settled_dues}
use Rattle.session_laws.proofs.EndHolds.{end_dues}
use Rattle.session_laws.proofs.SendLaws.{send_same}
use Rattle.session_laws.proofs.TakeDues.{take_held, take_unheld}
use Rattle.session_laws.proofs.HoldLaws.{are_grants_with}
use Rattle.session_laws.proofs.EndLaws.{dues_end}
use Rattle.session_laws.proofs.HandleLaws.{handles_are_newer}
use Rattle.session_model.specs.declared.entry.Entry.TheVariants as entry
use Rattle.std.specs.Prelude.{Bool, ◌≡◌, ◌<◌, ℕ, true, false, List, length}
use Rattle.sftp_model.specs.declared.outcome.Outcome.{Outcome}
use Rattle.sftp_model.specs.declared.reply.Reply.{Reply}
use Rattle.sftp_model.specs.Answers.{is_handle}
use Rattle.sftp_core.specs.Core.{Core}
use Rattle.plan_model.specs.declared.call.Call.{Call}
use Rattle.session_model.specs.declared.entry.Entry.{Entry}
use Rattle.session_model.specs.Readings.{AskedRequest, count_ended}
use Rattle.session_model.specs.Calls.{Setting, site_of}
use Rattle.session_model.specs.Grants.{IsSettled, is_grant, is_held, is_unended_asker}
use Rattle.session_model.specs.Journals.{IsJournal}
use Rattle.session_laws.specs.Places.{is_in}
use Rattle.session_laws.specs.Dues.{AreDueGrants, unheld_of}

-- Nothing is due just where no grant is to be closed by the order of places.
pub none_due_is_settled : (s : Setting) (past : List Entry) → (IsSettled s past → AreDueGrants s past [])
    × (AreDueGrants s past [] → IsSettled s past)
none_due_is_settled s past = (settled_dues s past, dues_settled s past)

-- A reply that was taken leaves nothing due, unless it is a HANDLE that no lane holds.
pub taken_dues : (s : Setting) (past : List Entry) (id p : ℕ) (a : AskedRequest) (b : Bool) (r : Reply)
    → id_state past id
    ≡ Pending p a b → (is_handle r ≡ true → is_held s past p ≡ true) → AreDueGrants s past []
    → AreDueGrants s (entry.Event (Take id r) ∷ past) []
taken_dues s past id p a b r is held d = take_held s past id p r (subst (ReadsId past id) is (reads past id)).0 held d

-- A HANDLE that no lane holds is due.
pub unheld_dues : (s : Setting) (past : List Entry) (id p : ℕ) (a : AskedRequest) (b : Bool) (r : Reply)
    → IsJournal s past
    → id_state past id ≡ Pending p a b → is_handle r ≡ true → is_held s past p ≡ false → AreDueGrants s past []
    → AreDueGrants s (entry.Event (Take id r) ∷ past) (p ∷ [])
unheld_dues s past id p a b r j is came unheld d = (let read = subst (ReadsId past id) is (reads past id) in
    take_unheld s past id p r j read.0 read.1 came unheld d)

-- The end of a call leaves due the grants of its lane that no slot has any more, where none of the lane's tickets has a
-- HANDLE that was taken.
pub ended_dues : (s : Setting) (past : List Entry) (core : Core) (lanes : ℕ → LaneValue) (lane : ℕ) (o : Outcome)
    → SessionTied s past core lanes [] → lane < length s.lanes → IsJournal s past → AreDueGrants s past []
    → ((p : ℕ) → is_in p (ticket_places (lanes lane).tickets) ≡ true → is_grant past p ≡ false)
    → AreDueGrants s (entry.Event (End lane (count_ended past lane) o) ∷ past)
    (unheld_of (site_of s (entry.Event (End lane (count_ended past lane) o) ∷ past) lane)
    (grant_places (lanes lane).grants))
ended_dues s past core lanes lane o h there j d polled = end_dues s past lane o (lanes lane).tickets (lanes lane).grants
    j d (h.each lane there).holds polled

-- So does the end of a call that was cancelled before its HANDLE was polled; the HANDLE is due too, unless a slot has
-- it.
pub cancelled_dues : (s : Setting) (past : List Entry) (core : Core) (lanes : ℕ → LaneValue) (lane p : ℕ) (o : Outcome)
    → SessionTied s past core lanes [] → lane < length s.lanes → IsJournal s past → AreDueGrants s past []
    → is_in p (ticket_places (lanes lane).tickets) ≡ true → is_grant past p ≡ true → is_unended_asker past lane p ≡ true
    → ((q : ℕ) → is_in q (ticket_places (lanes lane).tickets) ≡ true → is_grant past q ≡ true → q ≡ p)
    → AreDueGrants s (entry.Event (End lane (count_ended past lane) o) ∷ past)
    (unheld_of (site_of s (entry.Event (End lane (count_ended past lane) o) ∷ past) lane)
    (grant_places (lanes lane).grants ++ p ∷ []))
cancelled_dues s past core lanes lane p o h there j d has grant mine only =
    dues_end s past lane o (grant_places (lanes lane).grants ++ p ∷ []) j d
    (are_grants_with s past lane p (lanes lane).tickets (lanes lane).grants j there (h.each lane there).holds has
    grant mine (handles_are_newer s past lane p (lanes lane) [] (h.each lane there) j has grant mine) only)

-- Other entries leave what is due: what was queued is sent,
pub sent_dues :
    (s : Setting) (past : List Entry) (dues : List ℕ) → AreDueGrants s past dues
    → AreDueGrants s (entry.Event Send ∷ past) dues
sent_dues s past dues d = dues_same s past (entry.Event Send ∷ past) dues (send_same s past) d

-- a call is cancelled,
pub cancel_dues : (s : Setting) (past : List Entry) (dues : List ℕ) (lane : ℕ) → AreDueGrants s past dues
    → AreDueGrants s (entry.Event (Cancel lane) ∷ past) dues
cancel_dues s past dues lane d = dues_same s past (entry.Event (Cancel lane) ∷ past) dues (cancel_same s past lane) d

-- a call is added.
pub added_dues : (s : Setting) (past : List Entry) (dues : List ℕ) (lane : ℕ) (c : Call) → IsJournal s past
    → AreDueGrants s past dues → AreDueGrants s (entry.Added lane c ∷ past) dues
added_dues s past dues lane c j d = dues_same s past (entry.Added lane c ∷ past) dues (added_same s past lane c j) d
