-- believed, except SeesUnfailed, SeesFailed, SendsGroups
-- One round of a worker: the frames that it handed out or took, and what its half of the link shows of it.
use Rattle.std.specs.Prelude.{
  ◌≡◌,
  ◌<◌,
  ◌≤◌,
  ◌⊎◌,
  ℕ,
  ◌+◌,
  Bool,
  true,
  false,
  List,
  [],
  ◌++◌,
  length,
  take,
  Option,
  Some,
  None,
  Result,
  Ok,
  Err,
  OnOk,
}
use Rattle.atomic_table.specs.Table.{Me}
use Rattle.link_frames.specs.Causes.{IsCausedByLink, SentBy}
use Rattle.link_frames.specs.Reading.{IsWhole, ReadFails}
use Rattle.session_model.specs.declared.entry.Entry.{Entry}
use Rattle.sftp_link.specs.declared.piece.Piece.{Piece}
use Rattle.sftp_link.specs.Told.{GotAll, IfLogged, SentAll}
use Rattle.sftp_link.specs.Views.{LinkView}
use Rattle.sftp_model.specs.declared.error.Error.{Error}
use Rattle.sftp_model.specs.declared.error.Error.TheVariants as error
use Rattle.sftp_model.specs.declared.error.Fault.{Fault}
use Rattle.sftp_model.specs.declared.error.Fault.TheVariants as fault
use Rattle.sftp_model.specs.declared.request.Request.{Request}
use Rattle.sftp_model.specs.Frames.{frames_of}
use Rattle.sftp_wire.specs.FrameReader.{Received}
use Rattle.sftp_lanes.specs.Events.{HandsOutIn}
use Rattle.session_driver.specs.declared.session.Phase.TheVariants.{Failed}
use Rattle.session_seats.specs.declared.view.Sight.{Sight}
use Rattle.session_seats.specs.declared.view.View.{View}
use Rattle.session_seats.specs.Holds.{Hold}
use Rattle.session_seats.specs.Repeats.{RepeatsSteps}
use Rattle.sftp_tasks.specs.declared.locked.Locked.{Locked}
use Rattle.sftp_tasks.specs.LockedEvents.{
  GivingUp,
  HandsOutFrames,
  LooksForFrame,
  TakingFrame,
  UnlessFault,
  NotesWritten,
}
use Rattle.sftp_tasks.specs.SessionEvents.{HasFault, IsKept, MayTakeCalls, RefusesCall}
use Rattle.sftp_tasks.specs.Phases.{phase_number}
use Rattle.sftp_tasks.specs.Shows.{shown_of}

abbrev pub Token : Type 0
Token = Me Locked View

-- One hold of the locked value.
abbrev pub HoldsOnce : (Locked → Locked → List Entry → Type 0) → Token → Token → Type 0
HoldsOnce Did m n = Hold shown_of Did m n

-- The seat has not seen that the session failed.
abbrev pub SeesUnfailed : Sight → Type 0
SeesUnfailed s = s.counts.phase < phase_number Failed

-- The seat has seen that the session failed.
abbrev pub SeesFailed : Sight → Type 0
SeesFailed s = s.counts.phase ≡ phase_number Failed

-- The fault that a session records if a round ends in this way; out of memory records none.
abbrev pub fault_for : Error → Option Fault
fault_for error.LinkFault = Some fault.Link
fault_for error.LinkEnded = Some fault.Ended
fault_for (error.UnsupportedSftpProtocol version) = Some (fault.Protocol version)
fault_for (error.FormatError kind) = Some (fault.Format kind)
fault_for (error.HandleTooLong len) = Some (fault.HandleTooLong len)
fault_for (error.InvalidResponseId id) = Some (fault.ResponseId id)
fault_for (error.InvalidResponse id) = Some (fault.Response id)
fault_for (error.SftpError code message language) = Some (fault.Limits code)
fault_for other = None

-- A fault is recorded, the session's first one.
abbrev pub KeepsFirst : Option Fault → Locked → Locked → Type 0
KeepsFirst None y z = ⊥
KeepsFirst (Some fault) y z = IsKept fault y.session z.session

-- The result of a round in which this went wrong. It is the same error, and its fault is the first that the session
-- records; or the fault that was recorded before, and nothing has changed; or out of memory, and the session is given
-- up.
abbrev pub StopsInRound : Error → Error → Locked → Locked → Type 0
StopsInRound why error.OutOfMemory y z = (fault_for why ≡ None) × GivingUp y z
StopsInRound why (error.BackgroundTaskFailure first) y z = HasFault first y.session × (z ≡ y)
StopsInRound why e y z = (e ≡ why) × KeepsFirst (fault_for why) y z

abbrev pub StopsByError : Error → Error → Token → Token → Type 0
StopsByError why e m n = HoldsOnce (λ y z more. StopsInRound why e y z) m n

-- ---- A round that sends

-- A seat, and how many of the frames that it handed out it has recorded as written.
abbrev pub Noting : Type 0
Noting = ℕ × Token

-- Further frames are recorded as written in one hold, which adds nothing.
abbrev pub NotesGroup : Noting → Noting → Type 0
NotesGroup a b = (k : ℕ) × (b.0 ≡ a.0 + k) × HoldsOnce (λ y z more. (more ≡ []) × NotesWritten k y z) a.1 b.1

-- What was sent begins with these bytes.
abbrev pub SentAtLeast : List ℕ → List Piece → List Piece → Type 0
SentAtLeast bytes before now = (later : List ℕ) × SentAll (bytes ++ later) before now

-- The first n frames of a queue were recorded as written, group by group. They are whole in what was sent.
pub record NotesSent {Service : Type 0} (queue : List (ℕ × Request)) (n : ℕ) (first last : Token)
    (before now : LinkView Service) : Type 0 where
  pub notes : RepeatsSteps NotesGroup (0, first) (n, last)
  pub within : n ≤ length queue
  pub whole : IfLogged (SentAtLeast (frames_of (take n queue))) before.log now.log

-- The frames of a queue were sent, and all of them were recorded as written; or a prefix of them was sent, and some of
-- the frames in it were recorded.
pub record SendsGroups {Service : Type 0} (queue : List (ℕ × Request)) (m n : Token) (before now : LinkView Service)
    (result : Result (Unit {0}) Error) : Type 0 where
  pub sent : SentBy (frames_of queue) before now result
  pub noted : ℕ
  pub all : OnOk result (noted ≡ length queue)
  pub notes : NotesSent queue noted m n before now

-- The requests whose frames are unsent.
abbrev pub unsent_queue : Locked → List (ℕ × Request)
unsent_queue y = y.session.work.core.queue

-- The frames that were handed out in one hold, in which no fault was recorded, were sent. All of them were recorded as
-- written, group by group, in holds that added nothing.
pub record FlushesOnce {Service : Type 0} (m n : Token) (before now : LinkView Service) : Type 0 where
  pub mid : Token
  pub bytes : List ℕ
  pub frames : ℕ
  pub queue : List (ℕ × Request)
  pub hands : HoldsOnce
      (λ y z more. HandsOutIn y.session.phase y.session z.session (Some bytes) × HandsOutFrames y z frames
      × MayTakeCalls y.session × (unsent_queue y ≡ queue)) m mid
  pub cut : frames_of queue ≡ bytes
  pub sent : SentBy {T = Unit {0}} bytes before now (Ok tt)
  pub notes : NotesSent queue frames mid n before now

abbrev pub FlushesRound : {Service : Type 0} → Bool → Token → Token → LinkView Service → LinkView Service → Type 0
FlushesRound true m n before now = FlushesOnce m n before now
FlushesRound false m n before now =
    HoldsOnce (λ y z more. HandsOutIn y.session.phase y.session z.session None × MayTakeCalls y.session) m n
    × (now ≡ before)

-- The frames that were handed out could not all be sent, and the session stops because of that. The frames that were
-- recorded as written before are whole in what was sent.
pub record StopsUnsent {Service : Type 0} (e : Error) (m n : Token) (before now : LinkView Service) : Type 0 where
  pub mid : Token
  pub why : Error
  pub bytes : List ℕ
  pub queue : List (ℕ × Request)
  pub hands : HoldsOnce
      (λ y z more. HandsOutIn y.session.phase y.session z.session (Some bytes) × MayTakeCalls y.session
      × (unsent_queue y ≡ queue)) m mid
  pub cut : frames_of queue ≡ bytes
  pub sent : SentBy {T = Unit {0}} bytes before now (Err why)
  pub at : Token
  pub noted : ℕ
  pub notes : NotesSent queue noted mid at before now
  pub stops : StopsByError why e at n

-- The session refused to hand out, and nothing was sent.
abbrev pub RefusesRound : {Service : Type 0} → Error → Token → Token → LinkView Service → LinkView Service → Type 0
RefusesRound e m n before now = HoldsOnce (λ y z more. RefusesCall e y.session z.session) m n × (now ≡ before)

-- The cases in which a round that sends failed: it was refused, or could not send; or it did everything, and a receipt
-- is missing.
abbrev pub FlushStops : {Service : Type 0} → Error → Token → Token → LinkView Service → LinkView Service → Type 0
FlushStops e m n before now =
    RefusesRound e m n before now
    ⊎ (StopsUnsent e m n before now ⊎ ((e ≡ error.OutOfMemory) × ((did : Bool) × FlushesRound did m n before now)))

-- ---- A round that reads

-- A frame could be read and no fault was recorded; one was received, and its body was taken.
pub record ReadsOnce {Service : Type 0} (m n : Token) (before now : LinkView Service) : Type 0 where
  pub mid : Token
  pub frame : Received
  pub looks : HoldsOnce (λ y z more. UnlessFault LooksForFrame y z (Ok true)) m mid
  pub whole : IsWhole frame
  pub got : IfLogged (GotAll frame.bytes) before.log now.log
  pub caused : IsCausedByLink {T = Received} before now (Ok frame)
  pub takes : HoldsOnce (λ y z more. UnlessFault (TakingFrame frame) y z (Ok tt)) mid n

abbrev pub ReadsRound : {Service : Type 0} → Bool → Token → Token → LinkView Service → LinkView Service → Type 0
ReadsRound true m n before now = ReadsOnce m n before now
ReadsRound false m n before now = HoldsOnce (λ y z more. UnlessFault LooksForFrame y z (Ok false)) m n × (now ≡ before)

-- No whole frame was received, and the session stops because of that.
pub record StopsUnread {Service : Type 0} (e : Error) (m n : Token) (before now : LinkView Service) : Type 0 where
  pub mid : Token
  pub why : Error
  pub looks : HoldsOnce (λ y z more. UnlessFault LooksForFrame y z (Ok true)) m mid
  pub fails : IfLogged (ReadFails why) before.log now.log
  pub caused : IsCausedByLink {T = Received} before now (Err why)
  pub stops : StopsByError why e mid n

-- A frame was received, and it was refused.
pub record StopsUntaken {Service : Type 0} (e : Error) (m n : Token) (before now : LinkView Service) : Type 0 where
  pub mid : Token
  pub frame : Received
  pub looks : HoldsOnce (λ y z more. UnlessFault LooksForFrame y z (Ok true)) m mid
  pub whole : IsWhole frame
  pub got : IfLogged (GotAll frame.bytes) before.log now.log
  pub refuses : HoldsOnce (λ y z more. TakingFrame frame y z (Err e)) mid n

abbrev pub ReadStops : {Service : Type 0} → Error → Token → Token → LinkView Service → LinkView Service → Type 0
ReadStops e m n before now =
    RefusesRound e m n before now
    ⊎ (StopsUnread e m n before now ⊎ (StopsUntaken e m n before now
    ⊎ ((e ≡ error.OutOfMemory) × ((did : Bool) × ReadsRound did m n before now))))
