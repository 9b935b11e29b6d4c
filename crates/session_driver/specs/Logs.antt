-- believed, except KeepsTrace, ShowsJournal, HasRun, StopsAt, IsAhead
-- Logs of a link after a run that continues, and after one that stops.
use Rattle.std.specs.Prelude.{◌≡◌, ◌⊎◌, ◌<◌, ◌≤◌, ℕ, Bool, true, List, [], ◌∷◌, length, Option, Some, None, Result}
use Rattle.sftp_model.specs.declared.error.Error.{Error}
use Rattle.sftp_model.specs.declared.error.Error.TheVariants as error
use Rattle.sftp_model.specs.declared.error.Fault.{Fault}
use Rattle.sftp_model.specs.declared.frame_error.FormatKind.{FormatKind}
use Rattle.sftp_model.specs.declared.frame_error.FrameError.{FrameError}
use Rattle.sftp_model.specs.declared.reply.Reply.{Reply}
use Rattle.sftp_model.specs.Numbers.{MAX_BODY_LEN}
use Rattle.sftp_model.specs.Frames.{frame}
use Rattle.sftp_model.specs.ReplyReadings.{reply_at}
use Rattle.sftp_core.specs.declared.errors.TakeError.{TakeError}
use Rattle.sftp_core.specs.Take.{fault_of}
use Rattle.sftp_link.specs.declared.piece.Piece.{Piece}
use Rattle.sftp_link.specs.Log.{SentOn, GotOn}
use Rattle.sftp_link.specs.Told.{IfLogged, SentLess}
use Rattle.session_model.specs.declared.event.Event.TheVariants.{Send}
use Rattle.session_model.specs.declared.entry.Entry.{Entry}
use Rattle.session_model.specs.declared.entry.Entry.TheVariants as entry
use Rattle.session_model.specs.Readings.{count_awaited, unsent_bytes}
use Rattle.session_model.specs.declared.turn.Turn.{Turn}
use Rattle.session_model.specs.Calls.{Setting}
use Rattle.session_model.specs.Runs.{IsRun}
use Rattle.link_frames.specs.Causes.{IsUnsent}
use Rattle.session_driver.specs.RunsSoFar.{RunSoFar}
use Rattle.session_model.specs.Shown.{ShowsExchange, hello_frame}
use Rattle.session_model.specs.Settings.{version_reply_of, setting_of}
use Rattle.sftp_model.specs.declared.flags.Extensions.{Extensions}
use Rattle.session_driver.specs.Session.{SessionInputs, IsFixed, IsLater, SessionView}
use Rattle.link_frames.specs.Reading.{IsOfOneFrame, IsFramePart, IsBadLength}
use Rattle.session_driver.specs.Refusals.{refuses, refuses_hello}
use Rattle.sftp_core.specs.Errors.{error_of}

-- For any earlier journal that the log showed, it now shows the journal as continued.
abbrev pub KeepsTrace : List Entry → List Entry → List Piece → List Piece → Type 0
KeepsTrace past now before after = (hello : Reply) (first : List Piece) → ShowsExchange hello past first before
    → ShowsExchange hello now first after

-- The log shows VERSION, if it was taken, and the journal.
abbrev pub ShowsJournal : Option Reply → List Entry → List Piece → List Piece → Type 0
ShowsJournal None past before after = ⊥
ShowsJournal (Some hello) past before after = ShowsExchange hello past before after

-- The lanes have run: the journal is a run of them under the schedule, and the log, if the link reports one, shows
-- VERSION and it.
pub record HasRun (given : SessionInputs) (schedule : List Turn) (now : SessionView)
    (before after : Option (List Piece)) : Type 0
  where
    pub run : IsRun now.setting schedule now.progress.past
    pub fixed : IsFixed given now.version now.progress.past now.setting
    pub shows : IfLogged (ShowsJournal now.version now.progress.past) before after

-- ---- Parts of frames

-- Nothing was sent, or a prefix of the bytes that is not the whole.
abbrev pub SentPart : List ℕ → List Piece → List Piece → Type 0
SentPart bytes before now = (now ≡ before) ⊎ SentLess bytes before now

-- The first bytes of a frame were received, or all of them, or the four bytes of a length, and no byte past that.
abbrev pub GotBytes : List Piece → List Piece → Type 0
GotBytes before now = (bytes : List ℕ) × (IsOfOneFrame bytes × GotOn before now bytes)

-- The first bytes of a frame were received, and not all of them.
abbrev pub GotPart : List Piece → List Piece → Type 0
GotPart before now = (bytes : List ℕ) × (IsFramePart bytes × GotOn before now bytes)

-- The four bytes of a length were received that no frame may have, and no byte past them.
abbrev pub GotBadLength : FormatKind → List Piece → List Piece → Type 0
GotBadLength kind before now = (bytes : List ℕ) × (IsBadLength kind bytes × GotOn before now bytes)

-- One frame was received, and it is refused with this error by what it reads as.
abbrev pub GotRefused : (Result (Option ℕ × Reply) FrameError → Option TakeError) → Error → List Piece → List Piece
    → Type 0
GotRefused first e before now =
    (body : List ℕ) × ((length body ≤ MAX_BODY_LEN) × GotOn before now (frame body)
    × ((t : TakeError) × ((first (reply_at body) ≡ Some t) × (e ≡ error_of t))))

-- The bytes that were received can't be used, and this error says why.
abbrev pub GotUnusable : (Result (Option ℕ × Reply) FrameError → Option TakeError) → Error → List Piece → List Piece
    → Type 0
GotUnusable first e before now = ((kind : FormatKind) × ((e ≡ error.FormatError kind) × GotBadLength kind before now))
    ⊎ GotRefused first e before now

-- ---- Stops

-- The bytes in the log after the journal that it shows, if a run stops with this error: a part of the next Send's
-- frames, or the bytes that came while the reply to a sent request was awaited.
abbrev pub HasPartialStep : Bool → Error → List Entry → List Piece → List Piece → Type 0
HasPartialStep ended error.OutOfMemory past mid after = SentPart (unsent_bytes past) mid after
    ⊎ ((0 < count_awaited past) × GotBytes mid after)
HasPartialStep ended error.LinkFault past mid after = SentPart (unsent_bytes past) mid after
    ⊎ ((0 < count_awaited past) × GotPart mid after)
HasPartialStep ended error.LinkEnded past mid after = (ended ≡ true) × (0 < count_awaited past) × GotPart mid after
HasPartialStep ended other past mid after = (0 < count_awaited past) × GotUnusable (refuses past) other mid after

-- If a run stops, the log shows this journal, and then a part.
abbrev pub StopsAt : List Entry → Bool → Error → List Entry → List Piece → List Piece → Type 0
StopsAt now ended e past before after =
    (hello : Reply) (first : List Piece) → ShowsExchange hello past first before
    → (mid : List Piece) × (ShowsExchange hello now first mid × HasPartialStep ended e now mid after)

-- The journal of a session whose run stopped with this error, relative to the one that the log shows. It is that one,
-- or it has another entry: the Send whose frames could not all be sent, or the fault that the refused frame left.
pub data IsAhead (e : Error) (shown now : List Entry) : Type 0 where
  even : now ≡ shown → IsAhead e shown now
  by_send : IsUnsent e → now ≡ entry.Event Send ∷ shown → IsAhead e shown now
  by_fault : (t : TakeError) (fault : Fault) → e ≡ error_of t → fault_of t ≡ Some fault → now ≡ entry.Kept fault ∷ shown
      → IsAhead e shown now

-- The bytes in the log after the hello was sent: bytes that can't be used, or less than a frame, or the link failed
-- within a frame.
abbrev pub BehindHello : Bool → Error → List Piece → List Piece → Type 0
BehindHello ended error.OutOfMemory mid after = GotBytes mid after
BehindHello ended error.LinkFault mid after = GotPart mid after
BehindHello ended error.LinkEnded mid after = (ended ≡ true) × GotPart mid after
BehindHello ended other mid after = GotUnusable refuses_hello other mid after

-- The log before VERSION was taken: a part of the hello if not all could be sent, or the hello and then a part.
abbrev pub HelloStops : Bool → Error → List Piece → List Piece → Type 0
HelloStops ended e before after = (IsUnsent e × SentPart hello_frame before after)
    ⊎ ((mid : List Piece) × (SentOn before mid hello_frame × BehindHello ended e mid after))

-- VERSION was taken, and the log shows it, such a journal that is a run so far, and a part.
pub record StopsOpen (given : SessionInputs) (such : Setting → List Entry → Type 0) (ended : Bool) (e : Error)
    (before after : List Piece) : Type 0 where
  pub extensions : Extensions
  pub now : List Entry
  pub mid : List Piece
  pub later : IsLater (setting_of given.lanes given.options extensions now) [] now
  pub so_far : such (setting_of given.lanes given.options extensions now) now
  pub shows : ShowsExchange (version_reply_of extensions) now before mid
  pub behind : HasPartialStep ended e now mid after

-- If a session stops, VERSION was not taken, or such a journal has come so far.
abbrev pub EndsAs : SessionInputs → (Setting → List Entry → Type 0) → Bool → Error → List Piece → List Piece → Type 0
EndsAs given such ended e before after = HelloStops ended e before after ⊎ StopsOpen given such ended e before after

-- If a session stops, VERSION was not taken, or the journal is a run so far of the lanes under the schedule.
abbrev pub EndsSession : SessionInputs → List Turn → Bool → Error → List Piece → List Piece → Type 0
EndsSession given schedule = EndsAs given (λ s. RunSoFar s schedule)
