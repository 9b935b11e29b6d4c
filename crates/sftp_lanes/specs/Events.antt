-- believed, except StepsIn, CancelsIn, LetsIdleGo, LetsGoIn, takes_memory
-- Effects of the calls of a session, in each of its phases.
use Rattle.std.specs.Prelude.{
  ◌≡◌,
  ℕ,
  Bool,
  true,
  false,
  List,
  ◌∷◌,
  Option,
  Some,
  None,
  Result,
  Ok,
  Err,
  if◌then◌else◌,
  length,
  nat_lt,
  MatchBool,
}
use Rattle.sftp_core.specs.declared.errors.TakeError.{TakeError}
use Rattle.sftp_core.specs.Info.{info_with}
use Rattle.sftp_model.specs.ReplyReadings.{limits_in}
use Rattle.sftp_core.specs.Take.{fault_of}
use Rattle.sftp_model.specs.declared.config.Limits.{Limits}
use Rattle.sftp_model.specs.declared.frame_error.FrameError.{FrameError}
use Rattle.sftp_model.specs.declared.flags.Extensions.{Extensions}
use Rattle.sftp_model.specs.declared.reply.Reply.{Reply}
use Rattle.sftp_model.specs.declared.request.Request.TheVariants as request
use Rattle.sftp_model.specs.Lengths.{offers_limits}
use Rattle.session_model.specs.declared.entry.Entry.{Entry}
use Rattle.session_model.specs.declared.entry.Entry.TheVariants as entry
use Rattle.session_model.specs.declared.event.Event.TheVariants.{Submit}
use Rattle.session_model.specs.declared.event.Owner.TheVariants as owner
use Rattle.session_model.specs.Calls.{Setting}
use Rattle.session_model.specs.Journals.{IsFree, IsNext}
use Rattle.session_model.specs.Settings.{version_reply_of}
use Rattle.session_model.specs.Readings.{unsent_bytes}
use Rattle.session_model.specs.Shown.{hello_frame}
use Rattle.session_driver.specs.declared.session.Phase.{Phase}
use Rattle.session_driver.specs.declared.session.Phase.TheVariants.{Fresh, Greeted, Asking, Queried, Open, Failed}
use Rattle.session_driver.specs.Bare.{offered_extensions}
use Rattle.session_driver.specs.Refusals.{refuses, refuses_hello}
use Rattle.session_driver.specs.declared.session.Stepped.{Stepped}
use Rattle.session_driver.specs.declared.session.Stepped.TheVariants as stepped
use Rattle.session_driver.specs.Session.{IsFixed, IsGreeted, IsLater, IsQueried, HasTakenLimits}
use Rattle.session_work.specs.declared.lanes.Lanes.{Lanes}
use Rattle.session_work.specs.SoFar.{IsLeft, refused_past}
use Rattle.session_work.specs.Letting.{gone_in}
use Rattle.session_work.specs.Working.{
  CancelsLane,
  HandsAll,
  LetsLaneGo,
  StepsLane,
  TakesBody,
  contents_of,
  past_of,
  progress_of,
}
use Rattle.sftp_lanes.specs.Seen.{SessionValue, given_of, seen_of, setting_at}

-- What was read of a frame: an id, if there is one, and a reply.
abbrev pub FrameRead : Type 0
FrameRead = Result (Option ℕ × Reply) FrameError

-- ---- Open sessions

-- The session was open, its lanes did this, and nothing else of it has changed.
pub record LanesDid (Did : Setting → Lanes → Lanes → Type 0) (old new : SessionValue) : Type 0 where
  pub was_open : old.phase ≡ Open
  pub rest : new ≡ record old { work = new.work }
  pub did : Did (setting_at old) old.work new.work

-- ---- Refusals

-- An allocation failed: the session has failed. Its calls, its journal and its recorded fault are as before, and so is
-- what was reported to it.
pub record HasFailed (old new : SessionValue) : Type 0 where
  pub rest : new ≡ record old { phase = Failed; work = new.work }
  pub left : IsLeft old.work new.work

-- A frame was refused: the session has failed, and its journal has another entry, the fault that is recorded, if there
-- is one. Its calls and what was reported to it are as before.
pub record IsRefused (e : TakeError) (old new : SessionValue) : Type 0 where
  pub rest : new ≡ record old { phase = Failed; work = new.work }
  pub past : past_of new.work ≡ refused_past (fault_of e) (past_of old.work)
  pub calls : new.work.calls ≡ old.work.calls

-- ---- Opening

-- The hello was handed out, before anything was reported.
pub record HandsHello (old new : SessionValue) : Type 0 where
  pub rest : new ≡ record old { phase = Greeted; work = new.work }
  pub untold : old.version ≡ None
  pub greeted : IsGreeted (seen_of old) (seen_of new)
  pub calls : new.work.calls ≡ old.work.calls

-- The query for limits was handed out.
pub record HandsQuery (old new : SessionValue) : Type 0 where
  pub rest : new ≡ record old { phase = Queried; work = new.work }
  pub queried : IsQueried (seen_of old) (seen_of new)
  pub later : IsLater (setting_at new) (past_of old.work) (past_of new.work)
  pub calls : new.work.calls ≡ old.work.calls

-- VERSION was read: the query for limits is the newest entry if the server offers to report them.
abbrev pub BeginsBy : Bool → Phase → List Entry → List Entry → Type 0
BeginsBy false phase before now = (phase ≡ Open) × (now ≡ before)
BeginsBy true phase before now = (phase ≡ Asking) × ((id : ℕ) × (IsFree before id
    × (now ≡ entry.Event (Submit owner.Setup id request.LimitsQuery) ∷ before)))

-- VERSION 3 was taken, the first thing that is reported. What it offers is all that is known of the server, unless the
-- limits are asked for.
pub record TakesVersion (body_reads : FrameRead) (asks : Bool) (old new : SessionValue) :
    Type 0 where
  pub rest : new ≡ record old { phase = new.phase; version = new.version; info = new.info; work = new.work }
  pub untold : old.version ≡ None
  pub extensions : Extensions
  pub reads : body_reads ≡ Ok (None, version_reply_of extensions)
  pub told : new.version ≡ Some (version_reply_of extensions)
  pub asked : asks ≡ offers_limits extensions
  pub begins : BeginsBy asks new.phase (past_of old.work) (past_of new.work)
  pub begun : (progress_of new.work).begun ≡ (progress_of old.work).begun
  pub later : IsLater (setting_at new) (past_of old.work) (past_of new.work)
  pub fixed : IsFixed (given_of old) new.version (past_of new.work) (setting_at new)
  pub calls : new.work.calls ≡ old.work.calls
  pub info : new.info ≡ (if asks then None else Some (info_with (offered_extensions new.version) None old.options))

-- The limits that a reply to the query reports.
abbrev pub told_limits : FrameRead → Option Limits
told_limits (Ok (id, r)) = limits_in r
told_limits (Err e) = None

-- The limits were taken: they and what VERSION offers are what is known of the server.
pub record TakesLimits (body_reads : FrameRead) (old new : SessionValue) : Type 0 where
  pub rest : new ≡ record old { phase = Open; info = new.info; work = new.work }
  pub limited : HasTakenLimits body_reads (seen_of old) (seen_of new)
  pub calls : new.work.calls ≡ old.work.calls
  pub info : new.info ≡ Some (info_with (offered_extensions old.version) (told_limits body_reads) old.options)

-- ---- Phases

-- The effect of a step of a lane: nothing happens before the session is open.
abbrev pub StepsIn : Phase → ℕ → SessionValue → SessionValue → Stepped → Type 0
StepsIn Open lane old new event = LanesDid (λ s before after. StepsLane s lane before after event) old new
StepsIn Failed lane old new event = ⊥
StepsIn opening lane old new event = (event ≡ stepped.Nothing) × (new ≡ old)

-- The effect of a cancel: no call is started before the session is open.
abbrev pub CancelsIn : Phase → ℕ → SessionValue → SessionValue → Bool → Type 0
CancelsIn Open lane old new event = LanesDid (λ s before after. CancelsLane s lane before after event) old new
CancelsIn Failed lane old new event = ⊥
CancelsIn opening lane old new event = (event ≡ false) × (new ≡ old)

-- A lane that holds nothing yet is released.
pub record LetsIdleGo (lane : ℕ) (old new : SessionValue) : Type 0 where
  pub rest : new ≡ record old { work = new.work }
  pub is : contents_of new.work ≡ gone_in (contents_of old.work) lane
  pub next : IsNext (setting_at old) (past_of old.work) (entry.LetGo lane)

-- The effect of releasing a lane: before the session is open the lane holds nothing.
abbrev pub LetsGoIn : Phase → ℕ → SessionValue → SessionValue → Type 0
LetsGoIn Open lane old new = LanesDid (λ s before after. LetsLaneGo s lane before after) old new
LetsGoIn Failed lane old new = ⊥
LetsGoIn opening lane old new = MatchBool (nat_lt lane (length old.lanes)) (LetsIdleGo lane old new) (new ≡ old)

-- The frames that are handed out: the hello, then the query for limits if the server offers them, and then all that is
-- unsent; nothing while a reply of the opening is awaited.
abbrev pub HandsOutIn : Phase → SessionValue → SessionValue → Option (List ℕ) → Type 0
HandsOutIn Fresh old new bytes = (bytes ≡ Some hello_frame) × HandsHello old new
HandsOutIn Greeted old new bytes = (bytes ≡ None) × (new ≡ old)
HandsOutIn Asking old new bytes = (bytes ≡ Some (unsent_bytes (past_of old.work))) × HandsQuery old new
HandsOutIn Queried old new bytes = (bytes ≡ None) × (new ≡ old)
HandsOutIn Open old new bytes = LanesDid (λ s before after. HandsAll s before after bytes) old new
HandsOutIn Failed old new bytes = ⊥

-- True if handing out may allocate memory: nothing is handed out while a reply of the opening is awaited.
abbrev pub takes_memory : Phase → Bool
takes_memory Greeted = false
takes_memory Queried = false
takes_memory other = true

-- True if a frame may be taken: the hello was handed out.
abbrev pub takes_frames : Phase → Bool
takes_frames Fresh = false
takes_frames Greeted = true
takes_frames Asking = true
takes_frames Queried = true
takes_frames Open = true
takes_frames Failed = true

-- The frames that are taken: VERSION, then the reply to the query for limits if it was made, and then the replies to
-- requests. While the query is in the queue, no reply may come.
abbrev pub TakesIn : Phase → FrameRead → SessionValue → SessionValue → Type 0
TakesIn Fresh body_reads old new = ⊥
TakesIn Greeted body_reads old new = (asks : Bool) × TakesVersion body_reads asks old new
TakesIn Asking body_reads old new = ⊥
TakesIn Queried body_reads old new = TakesLimits body_reads old new
TakesIn Open body_reads old new = LanesDid (λ s before after. TakesBody s body_reads before after) old new
TakesIn Failed body_reads old new = ⊥

-- The first thing that is wrong with a frame, if there is one; a session that has failed checks no frame.
abbrev pub first_wrong : Phase → List Entry → FrameRead → Option TakeError
first_wrong Greeted past body_reads = refuses_hello body_reads
first_wrong Failed past body_reads = None
first_wrong other past body_reads = refuses past body_reads
