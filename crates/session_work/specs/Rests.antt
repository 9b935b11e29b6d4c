-- Effects of a lane's turn on a session at rest.
use Rattle.std.specs.Prelude.{◌≡◌, ◌<◌, ◌≤◌, ◌+◌, ◌^◌, ℕ, Bool, true, List, ◌∷◌, length, Some, is_some}
use Rattle.sftp_model.specs.declared.outcome.Outcome.{Outcome}
use Rattle.sftp_model.specs.declared.request.Request.{Request}
use Rattle.sftp_model.specs.declared.slot.Move.TheVariants.{Ask, Wait, Done}
use Rattle.sftp_core.specs.Core.{Core}
use Rattle.plan_model.specs.declared.call.Call.{Call}
use Rattle.session_model.specs.declared.event.Event.TheVariants.{End}
use Rattle.session_model.specs.declared.entry.Entry.{Entry}
use Rattle.session_model.specs.declared.entry.Entry.TheVariants as entry
use Rattle.session_model.specs.Readings.{count_submitted, count_ended, own, count_unanswered}
use Rattle.plan_model.specs.GoodMoves.{FitsCall, FitsFacts}
use Rattle.plan_model.specs.RequestCounts.{work}
use Rattle.session_model.specs.Calls.{Setting, current, move_of}
use Rattle.session_model.specs.Journals.{IsFree, IsNext}
use Rattle.session_model.specs.Turns.{begun_but, begun_with}
use Rattle.session_laws.specs.Changes.{ended_lane, with_lane}
use Rattle.session_laws.specs.Dues.{unheld_of}
use Rattle.session_laws.specs.Lanes.{LaneValue, grant_places}
use Rattle.session_laws.specs.Running.{own_request}
use Rattle.sftp_model.specs.declared.slot.Facts.{Facts}
use Rattle.session_laws.specs.Rest.{AtRest, IsBetweenSteps, awaited_in, weigh}
use Rattle.session_work.specs.Turning.{AllFit, AllInRange, HoldsNamed, TurnsLane}
use Rattle.session_work.specs.declared.lane.Moved.{Moved}
use Rattle.session_work.specs.declared.lane.Moved.TheVariants as moved

-- The call waits for a reply.
pub record LaneWaits (s : Setting) (past : List Entry) (core new : Core) (lanes : ℕ → LaneValue) (begun : ℕ → Bool)
    (lane : ℕ) : Type 0 where
  pub place : ℕ
  pub move : move_of s past lane ≡ Some (Wait place)
  pub rest : AtRest s past new lanes (begun_with begun lane)
  pub runs : is_some (lanes lane).running ≡ true
  pub work : weigh new ≤ weigh core
  pub unanswered : 0 < count_unanswered past

-- The call continued without an entry.
pub record GoesWithoutEntry (s : Setting) (past : List Entry) (core new : Core) (lanes : ℕ → LaneValue)
    (begun : ℕ → Bool) : Type 0
  where
    pub rest : AtRest s past new lanes begun
    pub work : weigh new ≤ weigh core

-- A request was submitted.
pub record AskedOwn (s : Setting) (past : List Entry) (core new : Core) (lanes : ℕ → LaneValue) (begun : ℕ → Bool)
    (lane id : ℕ) (r : Request) : Type 0 where
  pub move : move_of s past lane ≡ Some (Ask r)
  pub free : IsFree past id
  pub next : IsNext s past (own_request past lane id r)
  pub rest : AtRest s (own_request past lane id r ∷ past) new lanes (begun_with begun lane)
  pub runs : is_some (lanes lane).running ≡ true
  pub work : weigh new ≤ weigh core + 3

-- The call ended, and the lane's grants that no slot has are due.
pub record EndsCall (s : Setting) (past : List Entry) (core new : Core) (lanes : ℕ → LaneValue) (begun : ℕ → Bool)
    (lane : ℕ) (now : LaneValue) (o : Outcome) : Type 0 where
  pub move : move_of s past lane ≡ Some (Done o now.site)
  pub next : IsNext s past (entry.Event (End lane (count_ended past lane) o))
  pub between : IsBetweenSteps s (entry.Event (End lane (count_ended past lane) o) ∷ past) new lanes
      (begun_but begun lane)
      (unheld_of now.site (grant_places now.grants))
  pub work : weigh new ≤ weigh core

-- The turn is the lane's move. `now` is the lane after it, with one further ended call if a call ended.
abbrev pub LeavesLane : Setting → List Entry → Core → Core → (ℕ → LaneValue) → (ℕ → Bool) → ℕ → LaneValue → Moved
    → Type 0
LeavesLane s past core new lanes begun lane now moved.Waits =
    LaneWaits s past core new (with_lane lanes lane now) begun lane
LeavesLane s past core new lanes begun lane now moved.Went =
    GoesWithoutEntry s past core new (with_lane lanes lane now) begun
LeavesLane s past core new lanes begun lane now (moved.Asked id r) =
    AskedOwn s past core new (with_lane lanes lane now) begun lane id r
LeavesLane s past core new lanes begun lane now (moved.Ended o) =
    EndsCall s past core new (with_lane lanes lane (ended_lane now now.site)) begun lane now o

-- Ids have at most 32 bits.
abbrev pub IsSmall : Moved → Type 0
IsSmall (moved.Asked id r) = id < 2 ^ 32
IsSmall other = Unit {0}

-- If a lane's call asks, it has made fewer requests than the most that it makes.
abbrev pub AsksFew : Setting → List Entry → ℕ → Call → Type 0
AsksFew s past lane c = (r : Request) → move_of s past lane ≡ Some (Ask r)
    → length (own past lane (count_ended past lane)) < work c s.facts

-- A turn of a lane leaves the session at rest, except for the grants that are due.
abbrev pub TurnsLeaveRest : Type 0
TurnsLeaveRest = (s : Setting) (past : List Entry) (core new : Core) (lanes : ℕ → LaneValue) (begun : ℕ → Bool)
    (lane : ℕ) (c : Call) (now : LaneValue) (m : Moved) → AtRest s past core lanes begun → lane < length s.lanes
    → current s past lane ≡ Some c
    → AsksFew s past lane c → IsSmall m → TurnsLane c s.facts (count_submitted past) core new (lanes lane) now m
    → LeavesLane s past core new lanes begun lane now m

-- The preconditions of a turn on the replies that its call awaits.
pub record AwaitsReplies (core : Core) (v : LaneValue) : Type 0 where
  pub fits : AllFit core v.tickets v.running v.site
  pub holds : HoldsNamed v

-- A lane of a session at rest may have its turn.
abbrev pub LanesAwaitReplies : Type 0
LanesAwaitReplies = (s : Setting) (past : List Entry) (core : Core) (lanes : ℕ → LaneValue) (begun : ℕ → Bool)
    (lane : ℕ) (c : Call) → AtRest s past core lanes begun → lane < length s.lanes → current s past lane ≡ Some c
    → AwaitsReplies core (lanes lane)

-- The next request of its call is within the range of offsets and the session's read length.
abbrev pub LanesAskInRange : Type 0
LanesAskInRange = (s : Setting) (past : List Entry) (core : Core) (lanes : ℕ → LaneValue) (begun : ℕ → Bool) (lane : ℕ)
    (c : Call) → AtRest s past core lanes begun → lane < length s.lanes → current s past lane ≡ Some c
    → FitsCall c → FitsFacts s.facts → AllInRange c s.facts core (lanes lane).tickets (lanes lane).running
    (lanes lane).site

-- ---- Turns without an entry

-- The lane's call awaits a reply to continue with.
abbrev pub AwaitsOne : LaneValue → Type 0
AwaitsOne v = is_some (awaited_in v.running v.site) ≡ true

-- A call that continued without an entry awaits a reply then. If it awaited one before, that ticket is consumed.
abbrev pub WentTurnsAreFew : Type 0
WentTurnsAreFew = (c : Call) (facts : Facts) (place : ℕ) (core new : Core) (v now : LaneValue)
    → TurnsLane c facts place core new v now moved.Went → AwaitsOne now × (length now.tickets ≤ length v.tickets)
    × (AwaitsOne v → length now.tickets < length v.tickets)
