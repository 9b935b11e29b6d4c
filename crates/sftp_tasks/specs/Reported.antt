-- believed: HasLane, HaveLanes
-- Reports of a shared session that was closed.
use Rattle.std.specs.Prelude.{
  ◌≡◌,
  ◌≢◌,
  ◌≤◌,
  ◌⊎◌,
  ℕ,
  ◌==◌,
  Bool,
  true,
  List,
  [],
  ◌∷◌,
  Contains,
  Option,
  Some,
  None,
  IfSome,
  length,
  map,
  reverse,
  vec_capacity,
}
use Rattle.std.specs.declared.vec.Vec.{Vec}
use Rattle.std.proofs.Common.{Global, arith, refl}
use Rattle.session_driver.specs.declared.session.Phase.TheVariants.{Failed, Open}
use Rattle.session_driver.specs.Session.{IsFixed}
use Rattle.session_model.specs.declared.entry.Entry.{Entry}
use Rattle.session_model.specs.declared.entry.Entry.TheVariants as entry
use Rattle.session_model.specs.declared.event.Event.{Event}
use Rattle.session_model.specs.Grants.{next_due}
use Rattle.session_model.specs.Journals.{IsJournal}
use Rattle.session_model.specs.Readings.{outcomes_below, trace_of}
use Rattle.session_seats.specs.declared.rule.Held.{Ghosts}
use Rattle.session_seats.specs.declared.seat.Seat.{Seat}
use Rattle.session_seats.specs.declared.view.Receipt.{Receipt}
use Rattle.session_seats.specs.declared.view.Sight.{Sight}
use Rattle.session_seats.specs.Closes.{claims_of, items_of, part}
use Rattle.session_seats.specs.Holds.{sight_by}
use Rattle.session_seats.specs.Rules.{AllTold, AreDistinctClaims}
use Rattle.session_seats.specs.Sights.{IsLawfulSight, entries, lane_of, receipt}
use Rattle.session_work.specs.SoFar.{kept_in}
use Rattle.session_work.specs.Working.{past_of}
use Rattle.sftp_core.specs.declared.info.Info.{Info}
use Rattle.sftp_model.specs.declared.error.Error.{Error}
use Rattle.sftp_model.specs.declared.error.Error.TheVariants as error
use Rattle.sftp_model.specs.declared.error.Fault.{Fault}
use Rattle.sftp_lanes.specs.Seen.{SessionValue, session_inputs, given_of, setting_at, setting_by}
use Rattle.sftp_tasks.specs.declared.locked.Locked.{Locked}
use Rattle.sftp_tasks.specs.declared.report.SharedReport.{SharedReport}
use Rattle.sftp_tasks.specs.SessionEvents.{HasFault, MayTakeCalls}
use Rattle.sftp_tasks.specs.Phases.{is_open_in, phase_number}

-- The error for which no call can be made any more.
abbrev pub HasStopped : Error → SessionValue → Type 0
HasStopped error.OutOfMemory s = s.phase ≡ Failed
HasStopped (error.BackgroundTaskFailure fault) s = HasFault fault s
HasStopped other s = ⊥

-- The session's journal is listed, a run so far of a setting that is fixed.
pub record ListsJournal (s : SessionValue) (listed : List Entry) : Type 0 where
  pub journal : reverse listed ≡ past_of s.work
  pub run : IsJournal (setting_at s) (past_of s.work)
  pub fixed : s.version ≢ None → IsFixed (given_of s) s.version (past_of s.work) (setting_at s)

-- The session's journal is listed, the list for its events is empty and has room for them, and while it is open no
-- grant is left to close.
pub record IsPrepared (s : SessionValue) (journal : Vec Entry Global) (trace : Vec Event Global) (is_open : Bool) : Type
    0 where
  pub lists : ListsJournal s journal.items
  pub empty : trace.items ≡ []
  pub room : length (past_of s.work) ≤ vec_capacity trace
  pub opened : is_open ≡ is_open_in s.phase
  pub settled : is_open ≡ true → next_due (setting_at s) (past_of s.work) ≡ None

-- Calls of its lanes can be made, and this was made for its report.
abbrev pub EndsSo : SessionValue → Vec Entry Global → Vec Event Global → Bool → Type 0
EndsSo s journal trace is_open = MayTakeCalls s × IsPrepared s journal trace is_open

-- The session's journal ends by this fault, and is a run so far.
pub record EndsByFault (s : SessionValue) (fault : Fault) : Type 0 where
  pub before : List Entry
  pub past : past_of s.work ≡ entry.Kept fault ∷ before
  pub run : IsJournal (setting_at s) (past_of s.work)

-- The errors for which a session does not end: it has stopped, or an allocation failed.
abbrev pub IsRefusedFor : Error → SessionValue → Type 0
IsRefusedFor e s = (e ≡ error.OutOfMemory) ⊎ HasStopped e s

-- The error is that of the fault that the journal records, or an allocation failed.
abbrev pub TellsFault : Error → List Entry → Type 0
TellsFault error.OutOfMemory past = Unit {0}
TellsFault (error.BackgroundTaskFailure fault) past = kept_in past ≡ Some fault
TellsFault other past = ⊥

-- The reason: without a reported error, an allocation failed.
abbrev pub reason_of : Option Error → Error
reason_of None = error.OutOfMemory
reason_of (Some e) = e

-- ---- Lanes

-- Each entry of the lane has its receipt in the list, at its place.
abbrev pub HasLane : List Entry → ℕ → List Receipt → Type 0
HasLane [] lane list = Unit {0}
HasLane (e ∷ past) lane list =
    (lane_of e ≡ Some lane → Contains list (receipt (length past) e)) × HasLane past lane list

-- The list of each seat that names a lane has the entries of that lane.
abbrev pub HaveLanes : List Entry → List (Option ℕ) → List (List Receipt) → Type 0
HaveLanes past [] [] = Unit {0}
HaveLanes past (lane ∷ lanes) (list ∷ lists) = IfSome lane (λ l. HasLane past l list) × HaveLanes past lanes lists
HaveLanes past lanes lists = ⊥

-- ---- Worked rows: lane 0 was released, and then lane 1

abbrev journal : List Entry
journal = entry.LetGo 1 ∷ entry.LetGo 0 ∷ []

pub entry_is_listed : HasLane journal 1 (receipt 1 (entry.LetGo 1) ∷ [])
entry_is_listed = (λ its. (0, omega arith, refl), (λ its. absurd (cc its), tt))

pub entry_is_missing : HasLane journal 1 [] → ⊥
entry_is_missing h = let listed = (h.0 refl).1 in omega (arith, listed)

pub lanes_are_listed : HaveLanes journal (Some 1 ∷ None ∷ []) ((receipt 1 (entry.LetGo 1) ∷ []) ∷ [] ∷ [])
lanes_are_listed = (entry_is_listed, (tt, tt))

pub list_is_missing : HaveLanes journal (Some 1 ∷ []) [] → ⊥
list_is_missing h = h

-- ---- The report

module _ {G : Ghosts Locked} where
  -- The lane that a seat names.
  abbrev pub lane_named : Seat Locked G → Option ℕ
  lane_named s = s.lane

  -- There is one journal, of which each seat has seen a beginning. It is a run so far of the lanes and options that the
  -- session was made of, and of VERSION, which fix its setting, with no recorded fault. While the session is open no
  -- grant is left to close. The report has the contents of the journal. The receipts of each seat are all entries that
  -- the seat made, in order and at their places; those of a lane's seat are all of the lane. No two seats have one
  -- number.
  pub record Reported (seats : List (Seat Locked G)) (r : SharedReport) : Type 0 where
    pub now : Sight
    pub info : Option Info
    pub journal : reverse r.journal.items ≡ entries now.log
    pub run : IsJournal (setting_by now.lanes now.options now.version info) (entries now.log)
    pub fixed : now.version ≢ None → IsFixed (session_inputs now.lanes now.options) now.version (entries now.log)
        (setting_by now.lanes now.options now.version info)
    pub unkept : kept_in (entries now.log) ≡ None
    pub opened : r.is_open ≡ (now.counts.phase == phase_number Open)
    pub settled : r.is_open ≡ true → next_due (setting_by now.lanes now.options now.version info) (entries now.log)
        ≡ None
    pub hello : r.report.hello ≡ now.version
    pub trace : r.report.trace ≡ trace_of (entries now.log)
    pub outcomes : r.report.outcomes ≡ outcomes_below (entries now.log) (length now.lanes)
    pub lawful : IsLawfulSight now
    pub receipts : map items_of r.receipts.items ≡ map (part now) seats
    pub lanes : HaveLanes (entries now.log) (map lane_named seats) (map items_of r.receipts.items)
    pub distinct : AreDistinctClaims (claims_of seats)
    pub told : AllTold now (claims_of seats)

  -- There is one journal, of which each seat has seen a beginning. It is a run so far of the lanes and options that the
  -- session was made of, and of VERSION, and ends by this fault.
  pub record EndedByFault (seats : List (Seat Locked G)) (fault : Fault) : Type 0 where
    pub now : Sight
    pub info : Option Info
    pub before : List Entry
    pub past : entries now.log ≡ entry.Kept fault ∷ before
    pub run : IsJournal (setting_by now.lanes now.options now.version info) (entries now.log)
    pub lawful : IsLawfulSight now
    pub told : AllTold now (claims_of seats)

  -- The seats come back, with all their receipts.
  pub record ComesBack (seat new : Seat Locked G) (others rest : List (Seat Locked G)) : Type 0 where
    pub rest_is : rest ≡ others
    pub receipts : new.receipts ≡ seat.receipts
    pub lane : new.lane ≡ seat.lane

  -- The reasons that a session was not closed: an allocation failed, or a fault is recorded in the journal that the
  -- first seat has seen.
  abbrev pub Refused : Seat Locked G → List (Seat Locked G) → Error → Seat Locked G → List (Seat Locked G) → Type 0
  Refused seat others e new rest =
      ComesBack seat new others rest × TellsFault e (entries (sight_by new.inner.me).log)
