-- What is reported once the session was taken out.
use Rattle.std.proofs.Common.{◌≡◌, ◌≢◌, ◌<◌, ℕ, suc, ◌-◌, ◌==◌, List, [], ◌∷◌, ◌++◌, arith, length, map, sym, ap, ◌∙◌, subst, reverse, None, Some, inl, inr, true, Ok, Err, IfOk, IfSome, Global}
use Rattle.std.specs.Prelude.{Option, Result, slice_get}
use Rattle.sftp_model.specs.declared.error.Error.{Error}
use Rattle.sftp_model.specs.declared.error.Error.TheVariants as error
use Rattle.sftp_model.specs.declared.error.Fault.{Fault}
use Rattle.std.specs.declared.vec.Vec.{Vec}
use Rattle.std.proofs.lemmas.List.{length-reverse, reverse-append}
use Rattle.session_model.specs.declared.entry.Entry.{Entry}
use Rattle.session_seats.specs.declared.ended.Ended.{Ended}
use Rattle.session_seats.specs.declared.rule.Held.{Ghosts}
use Rattle.session_seats.specs.declared.seat.Seat.{Seat}
use Rattle.session_seats.specs.declared.view.Sight.{Sight}
use Rattle.session_seats.specs.declared.view.Receipt.{Receipt}
use Rattle.session_seats.specs.Closes.{Closes, HandsBack, Returns, items_of, part}
use Rattle.session_seats.specs.Holds.{sight_by}
use Rattle.session_seats.specs.NewSeats.{Looks}
use Rattle.session_driver.specs.declared.session.Phase.TheVariants.{Open}
use Rattle.session_driver.specs.Session.{IsFixed}
use Rattle.session_model.specs.Grants.{next_due}
use Rattle.session_model.specs.Journals.{IsJournal}
use Rattle.session_model.specs.Readings.{outcomes_below, trace_of}
use Rattle.sftp_lanes.specs.Seen.{ReportsSession, SessionValue, session_inputs, given_of, setting_at, setting_by}
use Rattle.session_seats.specs.Covers.{CoversEntries, CoversPlacesOnce}
use Rattle.session_seats.specs.Sights.{entries, sight_of}
use Rattle.session_work.specs.SoFar.{kept_in}
use Rattle.session_work.specs.Working.{past_of}
use Rattle.sftp_tasks.specs.declared.locked.Locked.{Locked}
use Rattle.sftp_tasks.specs.declared.report.SharedReport.{SharedReport}
use Rattle.sftp_tasks.specs.Reported.{
  EndedByFault,
  EndsByFault,
  HasStopped,
  HaveLanes,
  IsRefusedFor,
  ListsJournal,
  Refused,
  Reported,
  TellsFault,
  lane_named,
  reason_of,
}
use Rattle.sftp_tasks.specs.Rounds.{Token}
use Rattle.sftp_tasks.specs.SessionEvents.{MayTakeCalls}
use Rattle.sftp_tasks.specs.Phases.{is_open_in, phase_number}
use Rattle.sftp_tasks.specs.Shows.{shown_of}
use Rattle.sftp_tasks.proofs.PhaseLaws.{open_by_number}
use Rattle.sftp_tasks.proofs.LaneLaws.{have_lanes}

pub reported : {G : Ghosts Locked} (seats : List (Seat Locked G)) (e : Ended Locked) (r : SharedReport)
    → Closes shown_of seats e
    → MayTakeCalls e.value.session → ReportsSession e.value.session r.report
    → ListsJournal e.value.session r.journal.items
    → r.is_open ≡ is_open_in e.value.session.phase
    → (r.is_open ≡ true → next_due (setting_at e.value.session) (past_of e.value.session.work) ≡ None) → r.receipts
    ≡ e.receipts → Reported seats r
reported seats e r closes goes reports lists opened settled same =
    let s = e.value.session in
    let now = closes.now in
    let past : past_of s.work ≡ entries now.log = closes.shows.past in
    let told : now ≡ sight_of (shown_of e.value) now.log now.seats = closes.shows.told in
    let lanes : s.lanes ≡ now.lanes = ap (λ (x : Sight). x.lanes) (sym told) in
    let options : s.options ≡ now.options = ap (λ (x : Sight). x.options) (sym told) in
    let version : s.version ≡ now.version = ap (λ (x : Sight). x.version) (sym told) in
    let receipts : map items_of r.receipts.items ≡ map (part now) seats =
    ap (λ (v : Vec (Vec Receipt Global) Global). map items_of v.items) same ∙ closes.receipts in record {
      now = now;
      info = s.info;
      journal = lists.journal ∙ past;
      run = subst (λ (x : Sight × List Entry). IsJournal (setting_by x.0.lanes x.0.options x.0.version s.info) x.1)
          (λ i. (sym told i, past i)) lists.run;
      fixed = subst (λ (x : Sight × List Entry). x.0.version ≢ None
          → IsFixed (session_inputs x.0.lanes x.0.options) x.0.version x.1
          (setting_by x.0.lanes x.0.options x.0.version s.info))
          (λ i. (sym told i, past i)) lists.fixed;
      unkept = ap kept_in (sym past) ∙ goes.0;
      opened = opened ∙ open_by_number s.phase
          ∙ ap (λ (x : Sight). x.counts.phase == phase_number Open) (sym told);
      settled = subst (λ (x : Sight × List Entry). r.is_open ≡ true
          → next_due (setting_by x.0.lanes x.0.options x.0.version s.info) x.1 ≡ None) (λ i. (sym told i, past i))
          settled;
      hello = reports.hello ∙ version;
      trace = reports.trace ∙ ap trace_of past;
      outcomes = reports.outcomes ∙ (λ i. outcomes_below (past i) (length (lanes i)));
      lawful = closes.lawful;
      receipts = receipts;
      lanes = subst (HaveLanes (entries now.log) (map lane_named seats)) (sym receipts)
          (have_lanes now closes.lawful seats closes.told);
      distinct = closes.distinct;
      told = closes.told;
    }

-- the journal of a session that was taken out ends by the fault that it recorded
pub ended_by_fault : {G : Ghosts Locked} (seats : List (Seat Locked G)) (e : Ended Locked) (fault : Fault)
    → Closes shown_of seats e → EndsByFault e.value.session fault → EndedByFault seats fault
ended_by_fault seats e fault closes ends =
    let s = e.value.session in
    let now = closes.now in
    let past : past_of s.work ≡ entries now.log = closes.shows.past in
    let told : now ≡ sight_of (shown_of e.value) now.log now.seats = closes.shows.told in record {
      now = now;
      info = s.info;
      before = ends.before;
      past = sym past ∙ ends.past;
      run = subst (λ (x : Sight × List Entry). IsJournal (setting_by x.0.lanes x.0.options x.0.version s.info) x.1)
          (λ i. (sym told i, past i)) ends.run;
      lawful = closes.lawful;
      told = closes.told;
    }

-- the newest entry of a journal
pub newest_is : (journal : List Entry) (e : Entry) → slice_get journal (length journal - 1) ≡ Some e
    → (before : List Entry) × (reverse journal ≡ e ∷ before)
newest_is [] e is = absurd (cc is)
newest_is (x ∷ []) e is = let same : x ≡ e = cc is in ([], (λ i. same i ∷ []))
newest_is (x ∷ y ∷ rest) e is =
    let less : length (x ∷ y ∷ rest) - 1 ≡ suc (length (y ∷ rest) - 1) = omega arith in
    let p = newest_is (y ∷ rest) e (subst (λ (k : ℕ). slice_get (x ∷ y ∷ rest) k ≡ Some e) less is) in
    (p.0 ++ x ∷ [], reverse-append (x ∷ []) (y ∷ rest) ∙ ap (λ (l : List Entry). l ++ x ∷ []) p.1)

-- the cover, of the journal that is reported
pub covered : (e : Ended Locked) (journal : List Entry) → reverse journal ≡ past_of e.value.session.work
    → CoversEntries shown_of e
    → CoversPlacesOnce (length journal) (map items_of e.receipts.items)
covered e journal is covers k less =
    let long : length (past_of e.value.session.work) ≡ length journal = ap (λ (l : List Entry). length l) (sym is)
    ∙ length-reverse journal in
    covers k (subst (λ (n : ℕ). k < n) (sym long) less)

pub lists_of : {E : Type 0} (s : SessionValue) (journal : List Entry) (copied : Result (Vec Entry Global) E)
    → reverse journal ≡ past_of s.work
    → IsJournal (setting_at s) (past_of s.work) → (s.version ≢ None
    → IsFixed (given_of s) s.version (past_of s.work) (setting_at s))
    → IfOk copied (λ copies. copies.items ≡ journal) → IfOk copied (λ listed. ListsJournal s listed.items)
lists_of s journal (Ok v) is run fixed same = record { journal = ap reverse same ∙ is; run = run; fixed = fixed }
lists_of s journal (Err e) is run fixed same = tt

tells_memory : (e : Error) (past : List Entry) → e ≡ error.OutOfMemory → TellsFault e past
tells_memory e past is = subst (λ (x : Error). TellsFault x past) (sym is) tt

tells_stopped : (e : Error) (s : SessionValue) → HasStopped e s → TellsFault e (past_of s.work)
tells_stopped error.OutOfMemory s h = tt
tells_stopped (error.BackgroundTaskFailure fault) s h = h
tells_stopped error.LinkFault s h = absurd h
tells_stopped other s h = absurd h

tells_refused : (e : Error) (s : SessionValue) → IsRefusedFor e s → TellsFault e (past_of s.work)
tells_refused e s (inl memory) = tells_memory e (past_of s.work) memory
tells_refused e s (inr stopped) = tells_stopped e s stopped

-- a seat that looked at the value has seen its journal
looks_past : (m n : Token) (h : Looks shown_of m n) → entries (sight_by n).log ≡ past_of h.before.session.work
looks_past m n h = ap (λ (s : Sight). entries s.log) h.sight ∙ sym h.took.shows.past

refused_by : {G : Ghosts Locked} (seat new : Seat Locked G) (o : Option Error)
    → IfSome o (Returns shown_of (λ y e. IsRefusedFor e y.session) seat new)
    → TellsFault (reason_of o) (entries (sight_by new.inner.me).log)
refused_by seat new None h = tt
refused_by seat new (Some e) h =
    subst (TellsFault e) (sym (looks_past seat.inner.me new.inner.me h.looks))
    (tells_refused e h.looks.before.session h.refuses)

pub refused : {G : Ghosts Locked} (seat new : Seat Locked G) (others rest : List (Seat Locked G)) (o : Option Error)
    (e : Error)
    → HandsBack shown_of (λ y e. IsRefusedFor e y.session) seat others o new rest → e ≡ reason_of o
    → Refused seat others e new rest
refused seat new others rest o e h is = (
  record { rest_is = h.rest_is; receipts = h.receipts; lane = h.lane },
  subst (λ (x : Error). TellsFault x (entries (sight_by new.inner.me).log)) (sym is) (refused_by seat new o h.why),
)
