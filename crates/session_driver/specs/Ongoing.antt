-- Invariants of each part of a run, for its session and its link, whole or stopped.
use Rattle.std.specs.Prelude.{
  ◌≡◌,
  ◌⊎◌,
  ◌<◌,
  ◌^◌,
  ◌-◌,
  ℕ,
  Bool,
  List,
  [],
  length,
  Option,
  Some,
  None,
  Result,
  IfErr,
  OnOk,
}
use Rattle.sftp_model.specs.declared.error.Error.{Error}
use Rattle.sftp_model.specs.declared.error.Error.TheVariants as error
use Rattle.sftp_model.specs.declared.reply.Reply.{Reply}
use Rattle.sftp_link.specs.declared.piece.Piece.{Piece}
use Rattle.sftp_link.specs.Told.{IfLogged}
use Rattle.sftp_link.specs.Views.{LinkView}
use Rattle.session_model.specs.declared.turn.Turn.{Turn}
use Rattle.session_model.specs.declared.entry.Entry.{Entry}
use Rattle.session_model.specs.Readings.{count_unanswered}
use Rattle.session_model.specs.Calls.{Setting, current}
use Rattle.session_model.specs.Turns.{RunProgress, TurnTo, SendsTo, SettlesTo}
use Rattle.session_model.specs.Runs.{TurnsTo, RoundsTo, EndsTo, LetGoTo, LetsGoTo, DrainsTo}
use Rattle.session_driver.specs.ServingLinks.{ServesLanes}
use Rattle.session_driver.specs.RunsSoFar.{
  OpensSoFar,
  RunSoFar,
  TurnBy,
  TurnSoFar,
  TurnsSoFar,
  RoundsSoFar,
  EndsSoFar,
  LetGoSoFar,
  LetsGoSoFar,
  DrainsSoFar,
}
use Rattle.session_driver.specs.declared.session.Phase.TheVariants.{Open}
use Rattle.session_driver.specs.Session.{SessionView, SendsUnsent, KeepsMade, IsFixed, IsLater, IsSoFar, StaysInPhase}
use Rattle.link_frames.specs.Causes.{IsCausedByLink}
use Rattle.session_driver.specs.Logs.{
  HasPartialStep,
  EndsSession,
  HasRun,
  HelloStops,
  IsAhead,
  KeepsTrace,
  ShowsJournal,
  StopsAt,
}

-- ---- Sessions that are ready

pub record RunState (Service : Type 0) : Type 0 where
  pub seen : SessionView
  pub link : LinkView Service

abbrev pub run_state : {Service : Type 0} → SessionView → LinkView Service → RunState Service
run_state seen link = record { seen = seen; link = link }

-- The session is open, and the link's count of faults may rise.
pub record IsReady {Service : Type 0} (x : RunState Service) : Type 0 where
  pub is_open : x.seen.phase ≡ Open
  pub count : x.link.faults < 2 ^ 64 - 1

-- ---- Parts of a run

-- A part of a run: the continuation of a journal by the whole part, and the journals at which the part may stop.
pub record Part : Type 1 where
  pub whole : Setting → RunProgress → RunProgress → Type 0
  pub so_far : Setting → RunProgress → List Entry → Type 0

-- Nothing of the part.
abbrev pub AddsNothing : Setting → RunProgress → List Entry → Type 0
AddsNothing s before past = past ≡ before.past

-- The unsent requests are sent, if there are any.
abbrev pub flush_part : Part
flush_part = record { whole = SendsUnsent; so_far = AddsNothing }

-- The unsent requests are sent, if there are more than allowed.
pub record SendsExcess (s : Setting) (before now : RunProgress) : Type 0 where
  pub begun : now.begun ≡ before.begun
  pub sends : SendsTo s before.past now.past

abbrev pub settle_part : Part
settle_part = record { whole = SendsExcess; so_far = AddsNothing }

-- The event of a turn, and the CLOSEs that are due then.
abbrev pub event_of : Turn → Part
event_of t = record { whole = λ s. TurnBy (SettlesTo s) s t; so_far = AddsNothing }

abbrev pub turn_of : Turn → Part
turn_of t = record { whole = λ s. TurnTo s t; so_far = λ s. TurnSoFar s t }

abbrev pub turns_of : List Turn → Part
turns_of ts = record { whole = λ s. TurnsTo s ts; so_far = λ s. TurnsSoFar s ts }

-- Rounds of a lane until it has no call left.
pub record EndsLane (s : Setting) (lane : ℕ) (before now : RunProgress) : Type 0 where
  pub rounds : ℕ
  pub went : RoundsTo s lane rounds before now
  pub done : current s now.past lane ≡ None

abbrev pub lane_of : ℕ → Part
lane_of lane = record { whole = λ s. EndsLane s lane; so_far = λ s. RoundsSoFar s lane }

-- Rounds of each lane.
abbrev pub lanes_end : Part
lanes_end = record { whole = λ s. EndsTo s (length s.lanes); so_far = λ s. EndsSoFar s (length s.lanes) }

abbrev pub let_go_of : ℕ → Part
let_go_of lane = record { whole = λ s. LetGoTo s lane; so_far = λ s. LetGoSoFar s lane }

abbrev pub lanes_go : Part
lanes_go = record { whole = λ s. LetsGoTo s (length s.lanes); so_far = λ s. LetsGoSoFar s (length s.lanes) }

-- Flushes and takes until nothing is unanswered.
pub record DrainsReplies (s : Setting) (before now : RunProgress) : Type 0 where
  pub drains : ℕ
  pub went : DrainsTo s drains before now
  pub answered : count_unanswered now.past ≡ 0

abbrev pub drain_part : Part
drain_part = record { whole = DrainsReplies; so_far = DrainsSoFar }

-- ---- Invariants of each part

-- A part ran to its end: only this part continued the journal, and the link's log shows it if it showed the journal
-- before.
pub record RunsToEnd {Service : Type 0} (p : Part) (before now : RunState Service) : Type 0 where
  pub whole : p.whole before.seen.setting before.seen.progress now.seen.progress
  pub later : IsLater before.seen.setting before.seen.progress.past now.seen.progress.past
  pub stays : StaysInPhase before.seen now.seen
  pub log : IfLogged (KeepsTrace before.seen.progress.past now.seen.progress.past) before.link.log now.link.log
  pub ready : IsReady now

-- The journals at which a part may stop.
pub record MayStop (p : Part) (before : SessionView) (past : List Entry) : Type 0 where
  pub later : IsLater before.setting before.progress.past past
  pub so_far : p.so_far before.setting before.progress past

-- Something was stopped: such a journal has come so far, the link's log shows it, and the bytes after it account for
-- the error. The session's journal is that one, or one entry ahead of it, and the rest of the session is as it was.
pub record StoppedAs {Service : Type 0} (such : List Entry → Type 0) (before now : RunState Service) (e : Error) : Type
    0
  where
    pub past : List Entry
    pub is : such past
    pub ahead : IsAhead e past now.seen.progress.past
    pub holds : KeepsMade before.seen now.seen
    pub log : IfLogged (StopsAt past now.link.ended e before.seen.progress.past) before.link.log now.link.log

-- A part was stopped.
abbrev pub StopsInPart : {Service : Type 0} → Part → RunState Service → RunState Service → Error → Type 0
StopsInPart p before now e = StoppedAs (MayStop p before.seen) before now e

-- A part of a run, whole or stopped.
pub record RunsPart {Service : Type 0} (p : Part) (before now : RunState Service) (result : Result (Unit {0}) Error) :
    Type 0
  where
    pub went : OnOk result (RunsToEnd p before now)
    pub stopped : IfErr result (StopsInPart p before now)
    pub caused : IsCausedByLink before.link now.link result

-- The journals at which the opening may stop.
pub record MayAsk (before : SessionView) (past : List Entry) : Type 0 where
  pub later : IsLater before.setting [] past
  pub fixed : IsFixed before.given before.version past before.setting
  pub so_far : OpensSoFar before.setting.limits past

-- ---- Whole sessions

-- VERSION was not taken: the log shows a part of the hello, or the hello and the bytes that came then.
pub record StoppedAtHello {Service : Type 0} (before now : RunState Service) (e : Error) : Type 0 where
  pub ahead : IsAhead e [] now.seen.progress.past
  pub holds : KeepsMade before.seen now.seen
  pub log : IfLogged (HelloStops now.link.ended e) before.link.log now.link.log

-- The log shows VERSION, which the session reports, this journal, and then a part.
abbrev pub StopsShown : Option Reply → List Entry → Bool → Error → List Piece → List Piece → Type 0
StopsShown version past ended e before after =
    (mid : List Piece) × (ShowsJournal version past before mid × HasPartialStep ended e past mid after)

-- VERSION was taken, and such a journal has come so far. The session's journal is that one, or one entry ahead of it.
-- Its setting is the one that its lanes, its options, VERSION and that journal fix.
pub record StoppedOpen {Service : Type 0} (such : Setting → List Entry → Type 0) (before now : RunState Service)
    (e : Error) :
    Type 0 where
  pub past : List Entry
  pub is : such now.seen.setting past
  pub so_far : IsSoFar before.seen.given now.seen.version now.seen.setting past
  pub same : now.seen.given ≡ before.seen.given
  pub ahead : IsAhead e past now.seen.progress.past
  pub log : IfLogged (StopsShown now.seen.version past now.link.ended e) before.link.log now.link.log

-- A session was stopped.
abbrev pub HasStopped : {Service : Type 0} → (Setting → List Entry → Type 0) → RunState Service → RunState Service
    → Error → Type 0
HasStopped such before now e = StoppedAtHello before now e ⊎ StoppedOpen such before now e

-- A session was run over a link under a schedule: the lanes have run, or it was stopped.
pub record DrivesSession {Service : Type 0} (schedule : List Turn) (before now : RunState Service)
    (result : Result (Unit {0}) Error)
    :
    Type 0 where
  pub run : OnOk result (HasRun before.seen.given schedule now.seen before.link.log now.link.log)
  pub left : IfErr result (HasStopped (λ s. RunSoFar s schedule) before now)
  pub caused : IsCausedByLink before.link now.link result
  -- The consequences: how the log ends, and that over a link that serves it the run stops only if an allocation fails.
  pub stops : IfErr result (λ e. IfLogged (EndsSession before.seen.given schedule now.link.ended e) before.link.log
      now.link.log)
  pub complete : IfErr result (λ e. (log : List Piece) → before.link.log ≡ Some [] → now.link.log ≡ Some log
      → ServesLanes before.seen.given log now.link.ended → now.link.faults ≡ before.link.faults → e ≡ error.OutOfMemory)
