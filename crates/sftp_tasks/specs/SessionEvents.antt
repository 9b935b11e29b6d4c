-- believed, except HandsUnsent, KeepsFault, LetsLaneGoIn, AllEnded, polled_of, PollsIn, AddsIn, RefusesToAdd,
--   SubmitsCall
-- Effects of the calls of the locked value on its session.
use Rattle.std.specs.Prelude.{
  ◌≡◌,
  ◌≢◌,
  ◌⊎◌,
  ℕ,
  Bool,
  true,
  false,
  List,
  ◌∷◌,
  ◌++◌,
  length,
  Option,
  Some,
  None,
  Result,
  Ok,
  Err,
  slice_get,
}
use Rattle.sftp_core.specs.declared.errors.TakeError.{TakeError}
use Rattle.sftp_core.specs.Take.{IsFirst}
use Rattle.plan_model.specs.declared.call.Call.{Call}
use Rattle.plan_model.specs.declared.call.Lane.{Lane}
use Rattle.session_driver.specs.declared.session.Phase.TheVariants.{Failed, Greeted}
use Rattle.session_driver.specs.declared.session.Stepped.{Stepped}
use Rattle.session_driver.specs.declared.session.Stepped.TheVariants as stepped
use Rattle.sftp_core.specs.Errors.{error_of}
use Rattle.sftp_core.specs.Pieces.{ChunkValue, HasFrames}
use Rattle.session_model.specs.declared.entry.Entry.{Entry}
use Rattle.session_model.specs.declared.entry.Entry.TheVariants as entry
use Rattle.session_model.specs.Calls.{calls_added_to, calls_of, current}
use Rattle.session_model.specs.Readings.{count_ended, was_let_go}
use Rattle.sftp_model.specs.declared.error.Fault.{Fault}
use Rattle.sftp_model.specs.declared.error.Fault.TheVariants as fault
use Rattle.sftp_model.specs.declared.error.Error.{Error}
use Rattle.sftp_model.specs.declared.error.Error.TheVariants as error
use Rattle.sftp_model.specs.declared.frame_error.FrameError.{FrameError}
use Rattle.sftp_model.specs.declared.reply.Reply.{Reply}
use Rattle.sftp_lanes.specs.Adding.{AddsCall, CannotAdd, IsSame}
use Rattle.sftp_lanes.specs.Counts.{unsent_in}
use Rattle.sftp_lanes.specs.Events.{HasFailed, IsRefused, LetsGoIn, StepsIn, first_wrong, takes_frames}
use Rattle.sftp_lanes.specs.Seen.{SessionValue, setting_at}
use Rattle.session_work.specs.SoFar.{kept_in}
use Rattle.session_work.specs.Working.{past_of}
use Rattle.sftp_tasks.specs.declared.polls.Polled.{Polled}
use Rattle.sftp_tasks.specs.declared.polls.Polled.TheVariants as polled

-- ---- Handing out

-- The chunk has this many frames: those of all unsent requests.
pub record HandsUnsent (s : SessionValue) (chunk : ChunkValue) (n : ℕ) : Type 0 where
  pub frames : HasFrames chunk s.work.core.queue
  pub number : n ≡ length chunk.counts
  pub unsent : s.phase ≢ Failed → n ≡ unsent_in s.phase (past_of s.work)

-- ---- Refusals

-- No fault is recorded.
abbrev pub HasNoFault : SessionValue → Type 0
HasNoFault s = kept_in (past_of s.work) ≡ None

-- This fault is recorded.
abbrev pub HasFault : Fault → SessionValue → Type 0
HasFault fault s = kept_in (past_of s.work) ≡ Some fault

-- Calls of its lanes can be made: no fault is recorded, and the session has not failed.
abbrev pub MayTakeCalls : SessionValue → Type 0
MayTakeCalls s = HasNoFault s × (s.phase ≢ Failed)

-- Nothing has changed, or an allocation failed and the session has failed.
abbrev pub IsUnmoved : SessionValue → SessionValue → Type 0
IsUnmoved old new = (new ≡ old) ⊎ HasFailed old new

-- The error with which a call is refused, and the session after it.
abbrev pub RefusesCall : Error → SessionValue → SessionValue → Type 0
RefusesCall error.OutOfMemory old new = IsUnmoved old new
RefusesCall (error.BackgroundTaskFailure fault) old new = HasFault fault old × (new ≡ old)
RefusesCall other old new = ⊥

-- A fault is recorded, the session's first one. The session has failed.
pub record IsKept (f : Fault) (old new : SessionValue) : Type 0 where
  pub first : HasNoFault old
  pub failed : new.phase ≡ Failed
  pub lanes : new.lanes ≡ old.lanes
  pub options : new.options ≡ old.options
  pub version : new.version ≡ old.version
  pub past : past_of new.work ≡ entry.Kept f ∷ past_of old.work

-- A fault is recorded, unless one was before, which is reported then.
abbrev pub KeepsFault : Fault → SessionValue → SessionValue → Result (Unit {0}) Error → Type 0
KeepsFault fault old new (Ok u) = IsKept fault old new
KeepsFault fault old new (Err e) =
    (first : Fault) × ((e ≡ error.BackgroundTaskFailure first) × (HasFault first old × (new ≡ old)))

-- No call of the lanes can be made any more, and nothing else has changed.
abbrev pub GivesUp : SessionValue → SessionValue → Type 0
GivesUp old new = new ≡ record old { phase = Failed }

-- ---- Lanes

-- A lane is released if its calls have ended and it was not released before.
abbrev pub LetsLaneGoIn : ℕ → SessionValue → SessionValue → Bool → Type 0
LetsLaneGoIn lane old new true = LetsGoIn old.phase lane old new
    ⊎ ((was_let_go (past_of old.work) lane ≡ true) × (new ≡ old))
LetsLaneGoIn lane old new false = (current (setting_at old) (past_of old.work) lane ≢ None) × (new ≡ old)

-- A lane has this many calls, and all of them have ended.
pub record AllEnded (lanes : List Lane) (past : List Entry) (lane calls : ℕ) : Type 0 where
  pub are : length (calls_of (slice_get lanes lane) ++ calls_added_to past lane) ≡ calls
  pub have_ended : count_ended past lane ≡ calls

-- The result of a poll for a step of its lane.
abbrev pub polled_of : Stepped → Polled
polled_of stepped.Nothing = polled.Waits
polled_of stepped.Submitted = polled.Moved
polled_of stepped.Ended = polled.Moved

-- A lane is stepped once, unless all of its calls have ended.
abbrev pub PollsIn : ℕ → SessionValue → SessionValue → Polled → Type 0
PollsIn lane old new (polled.Ended calls) = AllEnded old.lanes (past_of old.work) lane calls × (new ≡ old)
PollsIn lane old new polled.Moved = (event : Stepped) × ((polled.Moved ≡ polled_of event)
    × StepsIn old.phase lane old new event)
PollsIn lane old new polled.Waits = (event : Stepped) × ((polled.Waits ≡ polled_of event)
    × StepsIn old.phase lane old new event)

-- A call is appended to those of its lane.
abbrev pub AddsIn : ℕ → Call → SessionValue → SessionValue → Bool → Type 0
AddsIn lane call old new true = AddsCall lane call old new
AddsIn lane call old new false = CannotAdd lane call old × (new ≡ old)

-- The errors with which a call is not added: nothing has changed.
abbrev pub RefusesToAdd : Error → SessionValue → SessionValue → Type 0
RefusesToAdd error.OutOfMemory old new = (new ≡ old) ⊎ IsSame old new
RefusesToAdd (error.BackgroundTaskFailure fault) old new = HasFault fault old × (new ≡ old)
RefusesToAdd other old new = ⊥

-- A call is added, and its lane stepped once.
abbrev pub SubmitsCall : ℕ → Call → SessionValue → SessionValue → Result Bool Error → Type 0
SubmitsCall lane call old new (Ok true) =
    (mid : SessionValue) × (AddsCall lane call old mid × ((event : Stepped) × StepsIn mid.phase lane mid new event))
SubmitsCall lane call old new (Ok false) = CannotAdd lane call old × (new ≡ old)
SubmitsCall lane call old new (Err e) =
    RefusesToAdd e old new ⊎ ((mid : SessionValue) × (AddsCall lane call old mid × RefusesCall e mid new))

-- ---- Frames

-- A frame is refused while no fault was recorded: by the first thing that is wrong with it, which is recorded, or
-- because an allocation failed. If VERSION was awaited, none was reported.
pub record IsRefusedBy (body_reads : Result (Option ℕ × Reply) FrameError) (e : Error) (old new : SessionValue) : Type
    0 where
  pub error : TakeError
  pub is : e ≡ error_of error
  pub unfailed : HasNoFault old
  pub untold : old.phase ≡ Greeted → old.version ≡ None
  pub first : IsFirst error (first_wrong old.phase (past_of old.work) body_reads)
  pub kept : IsRefused error old new

-- The frame came before the hello was handed out, when no VERSION was reported.
pub record IsUnawaited (e : Error) (old new : SessionValue) : Type 0 where
  pub early : takes_frames old.phase ≡ false
  pub untold : old.version ≡ None
  pub is : e ≡ error.InvalidResponse None
  pub kept : IsKept (fault.Response None) old new

-- The errors with which a frame is not taken, and the session after them.
abbrev pub TakeStops : Result (Option ℕ × Reply) FrameError → Error → SessionValue → SessionValue → Type 0
TakeStops body_reads (error.BackgroundTaskFailure f) old new = HasFault f old × (new ≡ old)
TakeStops body_reads e old new = IsRefusedBy body_reads e old new ⊎ IsUnawaited e old new
