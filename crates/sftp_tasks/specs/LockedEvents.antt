-- believed, except DoesNothing, OfLane, CancelsLaneCall, LettingGo, PollsLane, ReleasesLane, SubmitsLaneCall,
--   HandingOut, ReadsFrame, KeepsFirstFault, tells_written
-- Effects of each event on the locked value, for the lane that its seat names.
use Rattle.std.specs.Prelude.{
  ◌≡◌,
  ◌≢◌,
  ◌≤◌,
  ℕ,
  ◌+◌,
  ◌^◌,
  ◌-◌,
  ◌==◌,
  ◌&&◌,
  min,
  Bool,
  true,
  false,
  List,
  length,
  Option,
  Some,
  None,
  Result,
  Ok,
  Err,
  MatchOption,
  OnOk,
  nat_le,
  nat_lt,
}
use Rattle.std.specs.Option.{option_map}
use Rattle.plan_model.specs.declared.call.Call.{Call}
use Rattle.session_driver.specs.declared.session.Phase.{Phase}
use Rattle.session_driver.specs.declared.session.Phase.TheVariants.{Failed, Open}
use Rattle.sftp_model.specs.declared.error.Error.{Error}
use Rattle.sftp_model.specs.declared.error.Fault.{Fault}
use Rattle.sftp_model.specs.Frames.{frame}
use Rattle.sftp_model.specs.Numbers.{MAX_BODY_LEN}
use Rattle.sftp_model.specs.ReplyReadings.{reply_at}
use Rattle.sftp_core.specs.Pieces.{chunk_bytes}
use Rattle.sftp_lanes.specs.Counts.{unsent_in}
use Rattle.sftp_lanes.specs.Seen.{SessionValue}
use Rattle.sftp_lanes.specs.Events.{CancelsIn, FrameRead, HandsOutIn, TakesIn}
use Rattle.session_model.specs.Readings.{count_unanswered}
use Rattle.session_work.specs.Working.{past_of}
use Rattle.sftp_wire.specs.FrameReader.{Received, body_of}
use Rattle.sftp_wire.specs.Reading.{GivesBody}
use Rattle.session_seats.specs.Holds.{Allowance}
use Rattle.sftp_tasks.specs.declared.frames.Handed.{Handed}
use Rattle.sftp_tasks.specs.declared.locked.Locked.{Locked}
use Rattle.sftp_tasks.specs.declared.locked.LockedCounts.{LockedCounts}
use Rattle.sftp_tasks.specs.declared.polls.Polled.{Polled}
use Rattle.sftp_tasks.specs.SessionEvents.{
  GivesUp,
  HandsUnsent,
  KeepsFault,
  LetsLaneGoIn,
  MayTakeCalls,
  PollsIn,
  RefusesCall,
  SubmitsCall,
  TakeStops,
}

-- With Ok no fault was recorded, and the session had not failed.
abbrev pub UnlessFault : {A : Type 0} → (Locked → Locked → Result A Error → Type 0) → Locked → Locked → Result A Error
    → Type 0
UnlessFault Did y z r = Did y z r × OnOk r (MayTakeCalls y.session)

-- The answer if nothing is done.
abbrev pub DoesNothing : {A : Type 0} → A → SessionValue → Result A Error → Type 0
DoesNothing nothing s (Ok a) = a ≡ nothing
DoesNothing nothing s (Err e) = RefusesCall e s s

-- A seat that names no lane does nothing.
abbrev pub OfLane : {A : Type 0} → (ℕ → Locked → Locked → Result A Error → Type 0) → A → Option ℕ → Locked → Locked
    → Result A Error → Type 0
OfLane Did nothing None y z r = (z ≡ y) × DoesNothing nothing y.session r
OfLane Did nothing (Some lane) y z r = Did lane y z r

abbrev pub CancelsLaneCall : ℕ → Locked → Locked → Result Bool Error → Type 0
CancelsLaneCall lane y z (Ok event) = CancelsIn y.session.phase lane y.session z.session event
CancelsLaneCall lane y z (Err e) = RefusesCall e y.session z.session

abbrev pub LettingGo : ℕ → Locked → Locked → Result Bool Error → Type 0
LettingGo lane y z (Ok event) = LetsLaneGoIn lane y.session z.session event
LettingGo lane y z (Err e) = RefusesCall e y.session z.session

abbrev pub PollsLane : ℕ → Locked → Locked → Result Polled Error → Type 0
PollsLane lane y z (Ok p) = PollsIn lane y.session z.session p
PollsLane lane y z (Err e) = RefusesCall e y.session z.session

-- The release by a seat before it leaves the users: its lane, or nothing if it names none.
abbrev pub ReleasesLane : Option ℕ → Locked → Locked → Result Bool Error → Type 0
ReleasesLane lane y z r = (z ≡ record y { session = z.session }) × OfLane LettingGo true lane y z r

abbrev pub SubmitsLaneCall : Call → ℕ → Locked → Locked → Result Bool Error → Type 0
SubmitsLaneCall call lane y z r = SubmitsCall lane call y.session z.session r

-- The frames that were handed out are counted: all that are unsent.
pub record HandsOutFrames (y z : Locked) (n : ℕ) : Type 0 where
  pub counts : z.counts.handed ≡ y.counts.handed + n
  pub frames : y.session.phase ≢ Failed → n ≡ unsent_in y.session.phase (past_of y.session.work)

abbrev pub HandingOut : Locked → Locked → Result (Option Handed) Error → Type 0
HandingOut y z (Ok handed) =
    HandsOutIn y.session.phase y.session z.session (option_map (λ h. chunk_bytes h.chunk) handed)
    × (MatchOption handed (z.counts.handed ≡ y.counts.handed)
    (λ h. HandsOutFrames y z h.frames × HandsUnsent y.session h.chunk h.frames)
    × (z.counts.written ≡ y.counts.written))
HandingOut y z (Err e) = RefusesCall e y.session z.session × (z.counts.handed ≡ y.counts.handed)

-- Another frame is counted as taken.
abbrev pub CountsFrame : Locked → Locked → Type 0
CountsFrame y z = z.counts.taken ≡ min (y.counts.taken + 1) (2 ^ 64 - 1)

-- A frame that is taken is counted, and one that is refused is not.
abbrev pub CountsTakenFrame : FrameRead → Locked → Locked → Result (Unit {0}) Error → Type 0
CountsTakenFrame read y z (Ok u) = TakesIn y.session.phase read y.session z.session × CountsFrame y z
CountsTakenFrame read y z (Err e) = TakeStops read e y.session z.session × (z.counts.taken ≡ y.counts.taken)

-- The bytes that came are this body after its length.
abbrev pub IsFrame : Received → List ℕ → Type 0
IsFrame received body = (received.bytes ≡ frame body) × (length body ≤ MAX_BODY_LEN)

-- The frame's body is taken, if it is whole.
abbrev pub TakingFrame : Received → Locked → Locked → Result (Unit {0}) Error → Type 0
TakingFrame received y z r = (body : List ℕ) → body_of received ≡ Some body → IsFrame received body
    × CountsTakenFrame (reply_at body) y z r

-- This was read of the frame's body, if it is whole; or memory ran out.
abbrev pub ReadsFrame : Received → FrameRead → Type 0
ReadsFrame received read = (body : List ℕ) → body_of received ≡ Some body → IsFrame received body
    × GivesBody read (reply_at body)

abbrev pub NotesWritten : ℕ → Locked → Locked → Type 0
NotesWritten frames y z =
    z ≡ record y { counts = record y.counts { written = min (y.counts.written + frames) (2 ^ 64 - 1) } }

abbrev pub KeepsFirstFault : Fault → Locked → Locked → Result (Unit {0}) Error → Type 0
KeepsFirstFault fault y z r = (z ≡ record y { session = z.session }) × KeepsFault fault y.session z.session r

abbrev pub GivingUp : Locked → Locked → Type 0
GivingUp y z = GivesUp y.session z.session

-- This many frames are reported as written.
abbrev pub tells_written : ℕ → Allowance
tells_written frames = record { tells = frames; leaves = 0 }

-- A frame may be read if fewer were taken than were written.
abbrev pub LooksForFrame : Locked → Locked → Result Bool Error → Type 0
LooksForFrame y z (Ok may) = (z ≡ y) × (may ≡ nat_lt y.counts.taken y.counts.written)
LooksForFrame y z (Err e) = (z ≡ y) × RefusesCall e y.session y.session

-- The stage of the end is reported.
abbrev pub TellsStage : Locked → Locked → Result ℕ Error → Type 0
TellsStage y z (Ok stage) = (z ≡ y) × (stage ≡ y.counts.stage)
TellsStage y z (Err e) = (z ≡ y) × RefusesCall e y.session y.session

-- The end has started, and each request of an open session has its reply.
abbrev pub is_answered : Phase → ℕ → ℕ → Bool
is_answered Open stage unanswered = nat_le 1 stage && (unanswered == 0)
is_answered other stage unanswered = false

abbrev pub at_end : Bool → LockedCounts → LockedCounts
at_end true counts = record counts { stage = 2 }
at_end false counts = counts

-- The end is settled if all is answered.
abbrev pub SettlesEnd : Locked → Locked → Result Bool Error → Type 0
SettlesEnd y z (Ok all) =
    (all ≡ is_answered y.session.phase y.counts.stage (count_unanswered (past_of y.session.work)))
    × (z ≡ record y { counts = at_end all y.counts })
SettlesEnd y z (Err e) = (z ≡ y) × RefusesCall e y.session y.session
