-- believed, except IsWorking, IsOpened, IsIdleIn, NotesNothing, StepsIn, StepsLane, CancelsIn, CancelsLane, LetsGoIn,
--   LetsLaneGo
-- The lanes of an open session, and the effect of each call on them.
use Rattle.std.specs.Prelude.{
  ◌≡◌,
  ◌≢◌,
  ◌<◌,
  ◌≤◌,
  ◌+◌,
  ◌*◌,
  ◌-◌,
  ℕ,
  suc,
  Bool,
  true,
  false,
  reverse,
  List,
  [],
  ◌∷◌,
  drop,
  length,
  Option,
  None,
  Result,
  slice_get,
  slice_index_or,
}
use Rattle.sftp_model.specs.declared.frame_error.FrameError.{FrameError}
use Rattle.sftp_model.specs.declared.reply.Reply.{Reply}
use Rattle.sftp_model.specs.declared.slot.Facts.{Facts}
use Rattle.sftp_core.specs.Core.{Core}
use Rattle.plan_model.specs.GoodMoves.{FitsFacts}
use Rattle.plan_model.specs.RequestCounts.{work as most_requests}
use Rattle.plan_model.specs.declared.call.Call.{Call}
use Rattle.plan_model.specs.declared.call.Lane.{Lane}
use Rattle.session_model.specs.declared.entry.Entry.{Entry}
use Rattle.session_model.specs.Calls.{Setting, calls_of, current, lane_calls, move_of}
use Rattle.plan_model.specs.Lanes.{are_ok}
use Rattle.session_model.specs.Readings.{count_submitted, count_ended, own, count_unanswered}
use Rattle.session_model.specs.Turns.{RunProgress}
use Rattle.session_driver.specs.declared.session.Stepped.{Stepped}
use Rattle.session_driver.specs.Session.{
  IsLater,
  StepsTo,
  CancelsCall,
  LetsGo,
  TakesAndSettles,
  HandsOut,
  LessBy,
  is_event,
}
use Rattle.session_laws.specs.Changes.{fresh_lane}
use Rattle.session_laws.specs.Lanes.{LaneValue}
use Rattle.session_laws.specs.Rest.{AtRest, begun_of, weigh}
use Rattle.session_work.specs.declared.lanes.Lanes.{Lanes}

-- The data of the lanes: their calls, the core, the facts that plans use, the journal with its newest entry first, how
-- many requests it has, what each lane holds and awaits, and which were started.
pub record LanesValue : Type 0 where
  pub calls : List Lane
  pub core : Core
  pub facts : Facts
  pub past : List Entry
  pub asked : ℕ
  pub states : List LaneValue
  pub begun : ℕ → Bool

-- A lane by its number.
abbrev pub lane_in : List LaneValue → ℕ → LaneValue
lane_in states lane = slice_index_or states lane fresh_lane

-- Between two steps the lanes that were started are those that run a call.
abbrev pub contents_of : Lanes → LanesValue
contents_of w =
    record {
      calls = w.calls;
      core = w.core;
      facts = w.facts;
      past = reverse w.journal.items;
      asked = w.asked;
      states = w.states.items;
      begun = begun_of (lane_in w.states.items);
    }

-- The journal, the newest entry first.
abbrev pub past_of : Lanes → List Entry
past_of w = reverse w.journal.items

abbrev pub progress_in : LanesValue → RunProgress
progress_in c = record { past = c.past; begun = c.begun }

abbrev pub progress_of : Lanes → RunProgress
progress_of w = progress_in (contents_of w)

-- ---- Work that is left

-- The work that is left for these calls, if the first of them has made this many requests. Each call counts one for its
-- end, and four for each request that it may still make, since a request adds at most three to the core's weight.
abbrev pub calls_left : Facts → List Call → ℕ → ℕ
calls_left facts [] made = 0
calls_left facts (c ∷ calls) made = 1 + 4 * (most_requests c facts - made) + calls_left facts calls 0

-- The work that is left for a lane: its calls that have not ended, and the requests that the first of them has made.
abbrev pub lane_left : Facts → List Entry → Lane → ℕ → ℕ
lane_left facts past lane n = calls_left facts (drop (count_ended past n) lane.calls)
    (length (own past n (count_ended past n)))

-- The work that is left for these lanes, of which the first has this number.
abbrev pub lanes_left : Facts → List Entry → List Lane → ℕ → ℕ
lanes_left facts past [] n = 0
lanes_left facts past (lane ∷ lanes) n = lane_left facts past lane n + lanes_left facts past lanes (suc n)

abbrev pub work_in : LanesValue → ℕ
work_in c = lanes_left c.facts c.past c.calls 0 + weigh c.core

abbrev pub work_of : Lanes → ℕ
work_of w = work_in (contents_of w)

-- ---- Lanes

-- The lanes of a session with this setting, for any due grants: the calls of each are those that were passed in and
-- then those that were added.
pub record HasGivenLanes (s : Setting) (c : LanesValue) : Type 0 where
  pub lanes : length c.calls ≡ length s.lanes
  pub calls : (lane : ℕ) → calls_of (slice_get c.calls lane) ≡ lane_calls s c.past lane
  pub ok : are_ok c.calls ≡ true
  pub facts : c.facts ≡ s.facts
  pub fit : FitsFacts s.facts
  pub asked : c.asked ≡ count_submitted c.past
  pub count : length c.states ≡ length s.lanes

-- The lanes of an open session at rest.
pub record IsAtRestOpen (s : Setting) (c : LanesValue) : Type 0 where
  pub stands : HasGivenLanes s c
  pub rest : AtRest s c.past c.core (lane_in c.states) c.begun

abbrev pub IsWorking : Setting → Lanes → Type 0
IsWorking s w = IsAtRestOpen s (contents_of w)

-- They are those of some session.
abbrev pub IsOpened : Lanes → Type 0
IsOpened w = (s : Setting) × IsWorking s w

-- The same, and this lane, which exists, runs no call.
pub record IsIdleIn (lane : ℕ) (w : Lanes) : Type 0 where
  pub opened : IsOpened w
  pub there : lane < length w.states.items
  pub idle : (lane_in w.states.items lane).running ≡ None

-- Nothing was recorded: core and lanes are others, and the session is at rest as before.
pub record NotesNothing (s : Setting) (old new : LanesValue) : Type 0 where
  pub works : IsAtRestOpen s new
  pub same : new ≡ record old { core = new.core; states = new.states }
  pub work : weigh new.core ≤ weigh old.core

-- ---- Calls

pub record StepsIn (s : Setting) (lane : ℕ) (old new : LanesValue) (event : Stepped) : Type 0 where
  pub steps : StepsTo s lane (progress_in old) (progress_in new) (move_of s old.past lane) event
  pub later : IsLater s old.past new.past
  pub working : IsAtRestOpen s new
  pub less : LessBy (is_event event) (work_in old) (work_in new)
  pub waits : is_event event ≡ false → current s old.past lane ≢ None → 0 < count_unanswered new.past

abbrev pub StepsLane : Setting → ℕ → Lanes → Lanes → Stepped → Type 0
StepsLane s lane old new event = StepsIn s lane (contents_of old) (contents_of new) event

pub record CancelsIn (s : Setting) (lane : ℕ) (old new : LanesValue) (event : Bool) : Type 0 where
  pub cancels : CancelsCall s lane (progress_in old) (progress_in new) event
  pub later : IsLater s old.past new.past
  pub working : IsAtRestOpen s new

abbrev pub CancelsLane : Setting → ℕ → Lanes → Lanes → Bool → Type 0
CancelsLane s lane old new event = CancelsIn s lane (contents_of old) (contents_of new) event

pub record LetsGoIn (s : Setting) (lane : ℕ) (old new : LanesValue) : Type 0 where
  pub lets_go : LetsGo s lane (progress_in old) (progress_in new)
  pub later : IsLater s old.past new.past
  pub working : IsAtRestOpen s new

abbrev pub LetsLaneGo : Setting → ℕ → Lanes → Lanes → Type 0
LetsLaneGo s lane old new = LetsGoIn s lane (contents_of old) (contents_of new)

pub record HandsIn (s : Setting) (old new : LanesValue) (bytes : Option (List ℕ)) : Type 0 where
  pub hands : HandsOut s (progress_in old) bytes (progress_in new)
  pub work : work_in new ≡ work_in old
  pub working : IsAtRestOpen s new

abbrev pub HandsAll : Setting → Lanes → Lanes → Option (List ℕ) → Type 0
HandsAll s old new bytes = HandsIn s (contents_of old) (contents_of new) bytes

pub record TakesIn (s : Setting) (body_reads : Result (Option ℕ × Reply) FrameError) (old new : LanesValue) : Type 0
  where
    pub takes : TakesAndSettles s body_reads (progress_in old) (progress_in new)
    pub later : IsLater s old.past new.past
    pub working : IsAtRestOpen s new
    pub less : work_in new < work_in old

abbrev pub TakesBody : Setting → Result (Option ℕ × Reply) FrameError → Lanes → Lanes → Type 0
TakesBody s body_reads old new = TakesIn s body_reads (contents_of old) (contents_of new)
