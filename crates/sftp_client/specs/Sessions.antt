-- believed, except with_link, kept_by, SendsRest, IsWholeFrame, PullsFrame, TakesHere, RefusesHere, TakesPulled
-- A session over a link, and the effects of its calls.
use Rattle.std.specs.Prelude.{
  ◌≡◌,
  ◌⊎◌,
  ◌<◌,
  ◌≤◌,
  ℕ,
  Bool,
  true,
  false,
  List,
  [],
  ◌++◌,
  length,
  Option,
  None,
  Some,
  Result,
  Ok,
  Err,
}
use Rattle.ssh_encoding.specs.Writing.{string}
use Rattle.sftp_model.specs.ReplyReadings.{reply_at}
use Rattle.sftp_model.specs.declared.error.Error.{Error}
use Rattle.sftp_model.specs.declared.error.Error.TheVariants as error
use Rattle.sftp_model.specs.declared.error.Fault.{Fault}
use Rattle.sftp_model.specs.declared.error.Fault.TheVariants as fault
use Rattle.sftp_core.specs.Core.{Core, awaited_of, failed_with, handed_out}
use Rattle.sftp_model.specs.Frames.{frames_of}
use Rattle.sftp_model.specs.Numbers.{MAX_BODY_LEN}
use Rattle.sftp_core.specs.Take.{TakenFrom, fault_of, take_refusal}
use Rattle.sftp_core.specs.declared.errors.TakeError.{TakeError}
use Rattle.sftp_core.specs.declared.tokens.Taken.{Taken}
use Rattle.sftp_link.specs.Log.{GotOn, SentOn}
use Rattle.sftp_link.specs.Told.{IfLogged, SentAll}
use Rattle.sftp_link.specs.Views.{LinkView}
use Rattle.sftp_link.specs.declared.piece.Piece.{Piece}
use Rattle.link_frames.specs.Causes.{IsCausedByLink, IsUnsent}
use Rattle.sftp_core.specs.Errors.{error_of}
use Rattle.sftp_client.specs.Incoming.{Coming, IsFrame, KeepsOfFrame, ReadsFrame, bytes_of, nothing_came}

-- A session: its core, the bytes that were handed out and not sent, the bytes that came of the next frame, and the
-- link.
pub record SftpValue (L : Type 0) : Type 0 where
  pub core : Core
  pub unsent : List ℕ
  pub coming : Coming
  pub link : L

-- The session with another core, and otherwise as it was.
abbrev pub with_core : {L : Type 0} → SftpValue L → Core → SftpValue L
with_core s core = record s { core = core }

-- The session with another link, and otherwise as it was.
abbrev pub with_link : {L : Type 0} → SftpValue L → L → SftpValue L
with_link s link = record s { link = link }

-- ---- Bytes that move

-- These bytes were sent, and then these bytes were received.
abbrev pub SentThenReceived : List ℕ → List ℕ → List Piece → List Piece → Type 0
SentThenReceived sent got before now = (mid : List Piece) × SentOn before mid sent × GotOn mid now got

-- The fault that is kept after an error of the link or of a frame's length; running out of memory keeps none.
abbrev pub fault_by : Error → Option Fault
fault_by error.LinkFault = Some fault.Link
fault_by error.LinkEnded = Some fault.Ended
fault_by (error.FormatError kind) = Some (fault.Format kind)
fault_by other = None

abbrev pub failed_by : Option Fault → Core → Core
failed_by None core = core
failed_by (Some f) core = failed_with core f

-- The core after an error.
abbrev pub kept_after : Error → Core → Core
kept_after e core = failed_by (fault_by e) core

abbrev pub kept_by : {T : Type 0} → Result T Error → Core → Core
kept_by (Ok x) core = core
kept_by (Err e) core = kept_after e core

-- The link's own state accounts for the error.
abbrev pub IsCaused : {S : Type 0} → LinkView S → LinkView S → Error → Type 0
IsCaused before now e = IsCausedByLink {T = Unit {0}} before now (Err e)

-- The link didn't fail, and continues its service from the same point.
abbrev pub IsUnfaulted : {S : Type 0} → LinkView S → LinkView S → Type 0
IsUnfaulted before now = IsCausedByLink {T = Unit {0}} before now (Ok tt)

-- A recorded fault is reported, and nothing is sent or read.
abbrev pub IsKept : {L : Type 0} → SftpValue L → SftpValue L → Error → Type 0
IsKept old new (error.BackgroundTaskFailure fault) = (old.core.fault ≡ Some fault) × (new ≡ old)
IsKept old new other = ⊥

-- ---- Sending

-- All unsent bytes were sent.
pub record SendsAll {L S : Type 0} (state : L → LinkView S) (old new : SftpValue L) : Type 0 where
  pub log : IfLogged (SentAll old.unsent) (state old.link).log (state new.link).log
  pub unfaulted : IsUnfaulted (state old.link) (state new.link)
  pub left : new ≡ record old { unsent = []; link = new.link }

-- A part of them was sent, and the rest, at least one byte, is kept, after an allocation failed or a fault of the link;
-- the fault is kept then.
pub record SendStops {L S : Type 0} (state : L → LinkView S) (old new : SftpValue L) (e : Error) : Type 0 where
  pub sent : List ℕ
  pub cut : old.unsent ≡ sent ++ new.unsent
  pub rest : 0 < length new.unsent
  pub log : IfLogged (SentAll sent) (state old.link).log (state new.link).log
  pub left : new ≡ record old { core = kept_after e old.core; unsent = new.unsent; link = new.link }
  pub only : IsUnsent e
  pub caused : IsCaused (state old.link) (state new.link) e

-- The unsent bytes were sent, or a part of them.
abbrev pub SendsRest : {L S : Type 0} → (L → LinkView S) → SftpValue L → SftpValue L → Result (Unit {0}) Error → Type 0
SendsRest state old new (Ok u) = SendsAll state old new
SendsRest state old new (Err e) = SendStops state old new e

-- The session after its queue was handed out, after the bytes that were unsent already.
abbrev pub with_queue_handed_out : {L : Type 0} → SftpValue L → SftpValue L
with_queue_handed_out s = record s { core = handed_out s.core; unsent = s.unsent ++ frames_of s.core.queue }

-- All that was unsent or queued was sent; or it stopped, before or after the queue was handed out; or an allocation
-- failed for handing it out.
abbrev pub FlushesUnfailed : {L S : Type 0} → (L → LinkView S) → SftpValue L → SftpValue L → Result (Unit {0}) Error
    → Type 0
FlushesUnfailed state old new (Ok u) = SendsAll state (with_queue_handed_out old) new
FlushesUnfailed state old new (Err e) = SendStops state old new e ⊎ SendStops state (with_queue_handed_out old) new e
    ⊎ ((e ≡ error.OutOfMemory) × SendsAll state old new)

-- The same, after a recorded fault is reported first.
abbrev pub FlushesQueue : {L S : Type 0} → (L → LinkView S) → SftpValue L → SftpValue L → Result (Unit {0}) Error
    → Type 0
FlushesQueue state old new (Ok u) = (old.core.fault ≡ None) × FlushesUnfailed state old new (Ok u)
FlushesQueue state old new (Err e) = IsKept old new e ⊎ ((old.core.fault ≡ None)
    × FlushesUnfailed state old new (Err e))

-- ---- Taking

-- One frame came, from its first byte to its last, of at most 1048579 bytes, and was taken.
pub record TakesFrame {L S : Type 0} (state : L → LinkView S) (old new : SftpValue L) : Type 0 where
  pub got : List ℕ
  pub body : List ℕ
  pub told : Taken
  pub frame : bytes_of old.coming ++ got ≡ string body
  pub short : length body ≤ MAX_BODY_LEN
  pub log : IfLogged (SentThenReceived old.unsent got) (state old.link).log (state new.link).log
  pub right : take_refusal old.core (reply_at body) ≡ None
  pub taken : TakenFrom (reply_at body) told old.core new.core
  pub unfaulted : IsUnfaulted (state old.link) (state new.link)
  pub left : new ≡ record { core = new.core; unsent = []; coming = nothing_came; link = new.link }

-- No sent request was unanswered.
pub record TakesNone {L S : Type 0} (state : L → LinkView S) (old new : SftpValue L) : Type 0 where
  pub none : awaited_of old.core ≡ 0
  pub sends : SendsAll state old new

-- No more of the frame came, or an allocation failed for taking it: the bytes that came are kept.
pub record GetStops {L S : Type 0} (state : L → LinkView S) (old new : SftpValue L) (e : Error) : Type 0 where
  pub got : List ℕ
  pub log : IfLogged (SentThenReceived old.unsent got) (state old.link).log (state new.link).log
  pub keeps : KeepsOfFrame e (bytes_of old.coming ++ got) new.coming
  pub left : new ≡ record { core = kept_after e old.core; unsent = []; coming = new.coming; link = new.link }
  pub caused : IsCaused (state old.link) (state new.link) e

-- One frame came whole, of at most 1048579 bytes, and was refused by the first thing that is wrong with it, which is
-- kept as the fault.
pub record RefusesFrame {L S : Type 0} (state : L → LinkView S) (old new : SftpValue L) (e : Error) : Type 0 where
  pub got : List ℕ
  pub body : List ℕ
  pub refusal : TakeError
  pub fault : Fault
  pub frame : bytes_of old.coming ++ got ≡ string body
  pub short : length body ≤ MAX_BODY_LEN
  pub log : IfLogged (SentThenReceived old.unsent got) (state old.link).log (state new.link).log
  pub is : e ≡ error_of refusal
  pub first : take_refusal old.core (reply_at body) ≡ Some refusal
  pub kept : fault_of refusal ≡ Some fault
  pub left : new ≡ record { core = failed_with old.core fault; unsent = []; coming = nothing_came; link = new.link }
  pub caused : IsCaused (state old.link) (state new.link) e

-- The frame has come from its first byte to its last.
abbrev pub IsWholeFrame : Coming → Type 0
IsWholeFrame c = IsFrame c.whole × (c.part ≡ [])

-- The rest of a frame came; or no more of it did, and the bytes that came are kept.
pub record PullsFrame {L S : Type 0} (state : L → LinkView S) (old new : SftpValue L) (result : Result (Unit {0}) Error)
    :
    Type 0 where
  pub pulls : ReadsFrame old.coming new.coming (state old.link) (state new.link) result
  pub left : new ≡ record old { core = kept_by result old.core; coming = new.coming; link = new.link }

-- One frame that has come whole was taken, refused by the first thing that is wrong with it, or left because an
-- allocation failed.
pub record TakesHere {L : Type 0} (old new : SftpValue L) : Type 0 where
  pub body : List ℕ
  pub told : Taken
  pub frame : old.coming.whole ≡ string body
  pub right : take_refusal old.core (reply_at body) ≡ None
  pub taken : TakenFrom (reply_at body) told old.core new.core
  pub left : new ≡ record old { core = new.core; coming = nothing_came }

pub record RefusesHere {L : Type 0} (old new : SftpValue L) (e : Error) : Type 0 where
  pub body : List ℕ
  pub refusal : TakeError
  pub fault : Fault
  pub frame : old.coming.whole ≡ string body
  pub is : e ≡ error_of refusal
  pub first : take_refusal old.core (reply_at body) ≡ Some refusal
  pub kept : fault_of refusal ≡ Some fault
  pub left : new ≡ record old { core = failed_with old.core fault; coming = nothing_came }

abbrev pub TakesPulled : {L : Type 0} → SftpValue L → SftpValue L → Result (Unit {0}) Error → Type 0
TakesPulled old new (Ok u) = TakesHere old new
TakesPulled old new (Err e) = ((e ≡ error.OutOfMemory) × (new ≡ old)) ⊎ RefusesHere old new e

-- One frame, if nothing was unsent.
abbrev pub TakesWhole : {L S : Type 0} → (L → LinkView S) → SftpValue L → SftpValue L → Result (Unit {0}) Error → Type 0
TakesWhole state old new (Ok u) = TakesFrame state old new
TakesWhole state old new (Err e) = GetStops state old new e ⊎ RefusesFrame state old new e

-- The cases in which no frame was taken: not all unsent bytes were sent, or a sent request had no reply and no good one
-- came.
abbrev pub TakeStops : {L S : Type 0} → (L → LinkView S) → SftpValue L → SftpValue L → Error → Type 0
TakeStops state old new e = SendStops state old new e
    ⊎ ((0 < awaited_of old.core) × TakesWhole state old new (Err e))

-- A frame is read only if a sent request has no reply.

abbrev pub TakesUnfailed : {L S : Type 0} → (L → LinkView S) → SftpValue L → SftpValue L → Result Bool Error → Type 0
TakesUnfailed state old new (Ok true) = (0 < awaited_of old.core) × TakesFrame state old new
TakesUnfailed state old new (Ok false) = TakesNone state old new
TakesUnfailed state old new (Err e) = TakeStops state old new e

-- The same, after a recorded fault is reported first.
abbrev pub TakesOrKept : {L S : Type 0} → (L → LinkView S) → SftpValue L → SftpValue L → Result Bool Error → Type 0
TakesOrKept state old new (Ok took) = (old.core.fault ≡ None) × TakesUnfailed state old new (Ok took)
TakesOrKept state old new (Err e) = IsKept old new e ⊎ ((old.core.fault ≡ None) × TakesUnfailed state old new (Err e))
