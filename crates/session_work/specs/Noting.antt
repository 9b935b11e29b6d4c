-- Records of a lane's turn.
use Rattle.std.specs.Prelude.{
  ◌≡◌,
  ◌≢◌,
  ◌<◌,
  ◌+◌,
  ℕ,
  Bool,
  true,
  false,
  if◌then◌else◌,
  List,
  ◌∷◌,
  length,
  Option,
  Some,
  None,
  is_some,
  slice_get,
  slice_set,
  vec_len,
  vec_capacity,
}
use Rattle.sftp_core.specs.Core.{Core}
use Rattle.plan_model.specs.declared.call.Call.{Call}
use Rattle.plan_model.specs.declared.call.Lane.{Lane}
use Rattle.session_model.specs.declared.event.Event.TheVariants.{End, Submit}
use Rattle.session_model.specs.declared.event.Owner.TheVariants as owner
use Rattle.session_model.specs.declared.entry.Entry.TheVariants as entry
use Rattle.session_model.specs.Calls.{Setting}
use Rattle.session_model.specs.Turns.{begun_but, begun_with}
use Rattle.sftp_model.specs.declared.outcome.Outcome.{Outcome}
use Rattle.sftp_model.specs.declared.request.Request.{Request}
use Rattle.session_driver.specs.declared.session.Stepped.{Stepped}
use Rattle.session_laws.specs.Changes.{ended_lane}
use Rattle.session_laws.specs.Lanes.{LaneValue}
use Rattle.session_laws.specs.Rest.{awaited_in}
use Rattle.session_work.specs.Rests.{IsSmall, LeavesLane}
use Rattle.session_work.specs.declared.lane.Moved.{Moved}
use Rattle.session_work.specs.declared.lane.Moved.TheVariants as moved
use Rattle.session_work.specs.declared.lanes.Lanes.{Lanes}
use Rattle.session_work.specs.SoFar.{HasRoom}
use Rattle.session_work.specs.Working.{LanesValue, StepsIn, IsAtRestOpen, contents_of, lane_in}

-- ---- The call of a lane

-- The call of a lane by its number, if there is one.
abbrev pub call_by : Option Lane → Option LaneValue → Option Call
call_by None state = None
call_by (Some lane) None = None
call_by (Some lane) (Some v) = slice_get lane.calls v.ended

abbrev pub call_in : List Lane → List LaneValue → ℕ → Option Call
call_in lanes states lane = call_by (slice_get lanes lane) (slice_get states lane)

-- ---- Entries

-- A request of a lane's call was submitted.
abbrev pub asked_in : LanesValue → ℕ → ℕ → ℕ → Request → LanesValue
asked_in c lane n id r =
    record c {
      past = entry.Event (Submit (owner.Call lane n) id r) ∷ c.past;
      asked = c.asked + 1;
      begun =
          begun_with c.begun lane;
    }

-- A lane's call ended.
abbrev pub ended_in : LanesValue → ℕ → ℕ → Outcome → LanesValue
ended_in c lane n o =
    record c {
      past = entry.Event (End lane n o) ∷ c.past;
      states = slice_set c.states lane (ended_lane (lane_in c.states lane) (lane_in c.states lane).site);
      begun = begun_but c.begun lane;
    }

-- ---- In the middle of a step

-- The lanes, of which these were started before the step.
abbrev pub with_begun : (ℕ → Bool) → LanesValue → LanesValue
with_begun begun c = record c { begun = begun }

-- The lanes except the one that is stepped run a call if they were started.
abbrev pub OthersRun : (ℕ → Bool) → ℕ → List LaneValue → Type 0
OthersRun begun lane states = (w : ℕ) → lane ≢ w → begun w ≡ is_some (lane_in states w).running

abbrev pub KeepsOtherLanes : ℕ → List LaneValue → List LaneValue → Type 0
KeepsOtherLanes lane before now = (begun : ℕ → Bool) → OthersRun begun lane before → OthersRun begun lane now

-- The session is at rest, except for a lane that may run a call which was not started.
abbrev pub IsAmid : Lanes → Type 0
IsAmid w = (s : Setting) × ((begun : ℕ → Bool) × IsAtRestOpen s (with_begun begun (contents_of w)))

-- ---- Turns that were not recorded yet

-- The lane had its turn: it has another value, and the core is another.
abbrev pub turned_in : LanesValue → ℕ → Core → LaneValue → LanesValue
turned_in c lane new now = record c { core = new; states = slice_set c.states lane now }

-- A lane of a session at rest had this turn, which the journal doesn't show yet.
pub record HasTurnToNote (s : Setting) (lane : ℕ) (old c : LanesValue) (m : Moved) : Type 0 where
  pub works : IsAtRestOpen s old
  pub there : lane < length s.lanes
  pub call : Call
  pub calls : call_in old.calls old.states lane ≡ Some call
  pub new : Core
  pub now : LaneValue
  pub is : c ≡ turned_in old lane new now
  pub small : IsSmall m
  pub same : now.ended ≡ (lane_in old.states lane).ended
  pub leaves : LeavesLane s old.past old.core new (lane_in old.states) old.begun lane now m

-- True if the turn continued without an entry.
abbrev pub is_went : Moved → Bool
is_went moved.Went = true
is_went other = false

abbrev pub IsTurning : ℕ → Lanes → Moved → Type 0
IsTurning lane w m = (s : Setting) × ((old : LanesValue) × (HasTurnToNote s lane old
    (with_begun old.begun (contents_of w)) m
    × OthersRun old.begun lane w.states.items))

-- The turn of the lane's call with this number may be recorded: it was not one without an entry, and there is room for
-- the entries that follow from it.
pub record CanNote (lane call : ℕ) (m : Moved) (w : Lanes) : Type 0 where
  pub turning : IsTurning lane w m
  pub ends : is_went m ≡ false
  pub number : (lane_in w.states.items lane).ended ≡ call
  pub room : vec_len w.journal + length (lane_in w.states.items lane).grants + 1 < vec_capacity w.journal

-- The lane has a call.
abbrev pub HasCall : LanesValue → ℕ → Type 0
HasCall c lane = call_in c.calls c.states lane ≢ None

-- The number of turns without an entry that the lane may still have: each consumes a ticket, except the first that
-- awaits a reply.
abbrev pub turns_left : LaneValue → ℕ
turns_left v = length v.tickets + (if is_some (awaited_in v.running v.site) then 0 else 1)

-- A lane that has a call may have a turn.
pub record CanTurn (lane : ℕ) (w : Lanes) : Type 0 where
  pub opened : IsAmid w
  pub call : HasCall (contents_of w) lane
  pub room : HasRoom w

-- The effect of a turn on the lanes: the lane has its number of ended calls, each turn without an entry makes those to
-- come fewer, there is room for the entries to record, and the other lanes run what they ran.
pub record HasTurned (lane : ℕ) (old new : Lanes) (m : Moved) : Type 0 where
  pub number : (lane_in new.states.items lane).ended ≡ (lane_in old.states.items lane).ended
  pub fewer : is_went m ≡ true → turns_left (lane_in new.states.items lane) < turns_left (lane_in old.states.items lane)
  pub room : vec_len new.journal + length (lane_in new.states.items lane).grants + 1 < vec_capacity new.journal
  pub others : KeepsOtherLanes lane old.states.items new.states.items

-- After it is recorded the turn is a step.
abbrev pub NotesTurn : Setting → ℕ → LanesValue → Lanes → LanesValue → Moved → Stepped → Type 0
NotesTurn s lane old w new m event = HasTurnToNote s lane old (with_begun old.begun (contents_of w)) m
    → OthersRun old.begun lane w.states.items → StepsIn s lane old new event
