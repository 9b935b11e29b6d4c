-- A session between two states of a lane's runner: everything except that lane's runner state is as the journal says.
use Rattle.std.specs.Prelude.{◌≡◌, ◌≢◌, ◌<◌, ℕ, true, List, [], ◌∷◌, length, Some, None}
use Rattle.sftp_model.specs.declared.outcome.Outcome.{Outcome}
use Rattle.sftp_model.specs.declared.slot.Move.TheVariants.{Ask, Wait, Done}
use Rattle.sftp_core.specs.Core.{Core, record_at}
use Rattle.plan_runner.specs.declared.next.Running.{Running}
use Rattle.plan_runner.specs.Runners.{awaited_place}
use Rattle.session_model.specs.declared.event.Event.TheVariants.{End}
use Rattle.session_model.specs.declared.entry.Entry.{Entry}
use Rattle.session_model.specs.Readings.{count_submitted, count_ended, last_cancel}
use Rattle.session_model.specs.Calls.{Setting, current, move_of}
use Rattle.session_model.specs.Grants.{is_grant, is_unended_asker}
use Rattle.session_model.specs.Journals.{IsJournal}
use Rattle.session_laws.specs.Changes.{ended_lane, with_lane}
use Rattle.session_laws.specs.Dues.{AreDueGrants, unheld_of}
use Rattle.session_laws.specs.Lanes.{
  CoreTied,
  LaneHolds,
  LaneTied,
  LaneValue,
  SessionTied,
  among,
  grant_places,
  grants_of,
  ticket_places,
  tickets_of,
}
use Rattle.session_laws.specs.Places.{is_in}
use Rattle.session_laws.specs.Running.{own_request}
use Rattle.session_laws.specs.Tables.{TableMatches}
use Rattle.session_work.specs.Tokens.{AreGrants, AreCounted}
use Rattle.session_work.specs.Turning.{HasAwaited, IsOpen, IsSafe, TurnsLane}
use Rattle.plan_model.specs.declared.call.Call.{Call}
use Rattle.sftp_model.specs.declared.slot.Facts.{Facts}
use Rattle.session_work.specs.declared.lane.Moved.{Moved}
use Rattle.session_work.specs.declared.lane.Moved.TheVariants as moved
use Rattle.session_model.specs.declared.entry.Entry.TheVariants as entry

-- The core and what the lanes hold are as the journal says, and so are the runner states of the other lanes.
pub record HoldsLane (s : Setting) (past : List Entry) (core : Core) (lanes : ℕ → LaneValue) (lane : ℕ) (dues : List ℕ)
    :
    Type 0 where
  pub work : CoreTied s past core
  pub table : TableMatches past (among past (tickets_of lanes)) (among past (grants_of lanes)) (record_at core)
  pub ends : (lanes lane).ended ≡ count_ended past lane
  pub holds : LaneHolds s past lane (lanes lane).tickets (lanes lane).grants dues
  pub others : (w : ℕ) → w < length s.lanes → lane ≢ w → LaneTied s past w (lanes w) dues

-- A HANDLE that was taken and not polled is the reply that the lane's call awaits, to a request of that call.
abbrev pub HandlesAreAwaited : List Entry → ℕ → LaneValue → Type 0
HandlesAreAwaited past lane v =
    (p : ℕ) → is_in p (ticket_places v.tickets) ≡ true → is_grant past p ≡ true
    → (is_unended_asker past lane p ≡ true) × ((r : Running) ×
    ((v.running ≡ Some r) × (awaited_place r v.site ≡ Some p)))

-- ---- Invariants of a turn

-- The call's end is the lane's move, and after its entry the grants are due that no slot has. `lanes` are those of the
-- session if the lane has this value.
pub record EndTied (s : Setting) (past : List Entry) (core : Core) (lanes : LaneValue → ℕ → LaneValue) (lane : ℕ)
    (now : LaneValue) (o : Outcome) : Type 0 where
  pub move : move_of s past lane ≡ Some (Done o now.site)
  pub tied : IsJournal s (entry.Event (End lane (count_ended past lane) o) ∷ past)
      → AreDueGrants s (entry.Event (End lane (count_ended past lane) o) ∷ past)
      (unheld_of now.site (grant_places now.grants))
      × SessionTied s (entry.Event (End lane (count_ended past lane) o) ∷ past) core (lanes (ended_lane now now.site))
      (unheld_of now.site (grant_places now.grants))

-- The turn is the lane's move, and the invariant holds after its entry.
abbrev pub TurnTied : Setting → List Entry → Core → (LaneValue → ℕ → LaneValue) → ℕ → LaneValue → Moved → Type 0
TurnTied s past core lanes lane now moved.Waits = ((p : ℕ) × (move_of s past lane ≡ Some (Wait p)))
    × SessionTied s past core (lanes now) []
TurnTied s past core lanes lane now moved.Went = SessionTied s past core (lanes now) []
TurnTied s past core lanes lane now (moved.Asked id r) =
    (move_of s past lane ≡ Some (Ask r)) × (IsJournal s (own_request past lane id r ∷ past)
    → SessionTied s (own_request past lane id r ∷ past) core (lanes now) [])
TurnTied s past core lanes lane now (moved.Ended o) = EndTied s past core lanes lane now o

-- ---- Laws

-- A turn keeps the session's invariant.
abbrev pub TurnsKeep : Type 0
TurnsKeep = (s : Setting) (past : List Entry) (core new : Core) (lanes : ℕ → LaneValue) (lane : ℕ) (c : Call)
    (now : LaneValue) (m : Moved) → SessionTied s past core lanes [] → lane < length s.lanes → IsJournal s past
    → last_cancel past ≡ None
    → AreDueGrants s past [] → current s past lane ≡ Some c → HandlesAreAwaited past lane (lanes lane)
    → TurnsLane c s.facts (count_submitted past) core new (lanes lane) now m
    → TurnTied s past new (with_lane lanes lane) lane now m

-- The preconditions of a lane's turn.
pub record MayGoOn (c : Call) (facts : Facts) (core : Core) (v : LaneValue) : Type 0 where
  pub counted : AreCounted core v.tickets
  pub held : AreGrants core v.grants
  pub ready : IsOpen core
  pub safe : IsSafe c facts v.running v.site
  pub awaits : HasAwaited v

-- A lane of a session may have its turn.
abbrev pub LanesMayTurn : Type 0
LanesMayTurn = (s : Setting) (past : List Entry) (core : Core) (lanes : ℕ → LaneValue) (dues : List ℕ) (lane : ℕ)
    (c : Call) → SessionTied s past core lanes dues → lane < length s.lanes → current s past lane ≡ Some c
    → MayGoOn c s.facts core (lanes lane)
