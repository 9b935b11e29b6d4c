-- believed: StopsJournal, WorksOverHalf
-- Runs that a fault stopped: the journal that ends by it, and what the halves of the link show of it.
use Rattle.std.specs.Prelude.{◌≡◌, ◌≤◌, ◌⊎◌, ℕ, List, ◌∷◌, ◌++◌, length, Option, Some, Result, Err}
use Rattle.link_frames.specs.Reading.{TellsWhy}
use Rattle.plan_model.specs.declared.call.Lane.{Lane}
use Rattle.session_driver.specs.Refusals.{refuses}
use Rattle.session_model.specs.declared.entry.Entry.{Entry}
use Rattle.session_model.specs.declared.entry.Entry.TheVariants as entry
use Rattle.session_model.specs.Journals.{IsJournal}
use Rattle.session_seats.specs.declared.view.Sight.{Sight}
use Rattle.session_seats.specs.Sights.{IsLawfulSight, entries}
use Rattle.sftp_core.specs.declared.errors.TakeError.{TakeError}
use Rattle.sftp_core.specs.declared.info.Info.{Info}
use Rattle.sftp_core.specs.Errors.{error_of}
use Rattle.sftp_lanes.specs.Seen.{setting_by}
use Rattle.sftp_link.specs.declared.piece.Piece.{Piece}
use Rattle.sftp_link.specs.Log.{GotOn}
use Rattle.sftp_link.specs.Told.{IfLogged}
use Rattle.sftp_link.specs.Views.{LinkView}
use Rattle.sftp_model.specs.declared.error.Error.{Error}
use Rattle.sftp_model.specs.declared.error.Fault.{Fault}
use Rattle.sftp_model.specs.declared.options.SftpOptions.{SftpOptions}
use Rattle.sftp_model.specs.declared.reply.Reply.{Reply}
use Rattle.sftp_model.specs.Frames.{frame}
use Rattle.sftp_model.specs.Numbers.{MAX_BODY_LEN}
use Rattle.sftp_model.specs.ReplyReadings.{reply_at}
use Rattle.sftp_tasks.specs.Rounds.{Token, fault_for}
use Rattle.sftp_tasks.specs.Sent.{AreFramesOf, GotUnless, SentUnless, sent_bytes, taken_replies}
use Rattle.sftp_tasks.specs.Workers.{FlushWorks, ReadWorks, WorkerState}
use Rattle.session_threads.specs.Running.{IsOf}

-- The journal of a session is a run so far of these lanes and options, and ends by the fault of this error. It records
-- no other fault, as a run so far records at most one.
pub record StopsJournal (lanes : List Lane) (options : SftpOptions) (e : Error) : Type 0 where
  pub now : Sight
  pub made : IsOf lanes options now
  pub info : Option Info
  pub fault : Fault
  pub is : fault_for e ≡ Some fault
  pub before : List Entry
  pub past : entries now.log ≡ entry.Kept fault ∷ before
  pub run : IsJournal (setting_by now.lanes now.options now.version info) (entries now.log)
  pub lawful : IsLawfulSight now

-- The work of a worker over its half.
abbrev pub WorksOverHalf : {Service : Type 0} → (Result (Unit {0}) Error → WorkerState Service → WorkerState Service
    → Type 0)
    → Result (Unit {0}) Error → LinkView Service → LinkView Service → Type 0
WorksOverHalf Did r before now = (m : Token) × ((n : Token) × Did r (m, before) (n, now))

-- The bytes are one frame, and after this journal this error is the first thing that is wrong with it.
pub record IsWrongFrame (e : Error) (past : List Entry) (bytes : List ℕ) : Type 0 where
  pub body : List ℕ
  pub framed : bytes ≡ frame body
  pub short : length body ≤ MAX_BODY_LEN
  pub error : TakeError
  pub is : e ≡ error_of error
  pub first : refuses past (reply_at body) ≡ Some error

-- Bytes that show why the worker that reads stopped by this error: no whole frame came, or a wrong one.
abbrev pub ShowsWhy : Error → List Entry → List ℕ → Type 0
ShowsWhy e past bytes = TellsWhy e bytes ⊎ IsWrongFrame e past bytes

-- A frame was received for each of these replies, in order, and then bytes that show why the worker stopped.
abbrev pub GotThenWhy : Error → List Entry → List (ℕ × Reply) → List Piece → List Piece → Type 0
GotThenWhy e past replies before now = (bytes : List ℕ) × ((more : List ℕ) × (AreFramesOf replies bytes
    × (ShowsWhy e past more × GotOn before now (bytes ++ more))))

module _ {A B : Type 0} (lanes : List Lane) (options : SftpOptions) (out out' : LinkView A) (input input' : LinkView B)
  where
    -- The journal of the run's session ends by the fault of this error, by which one of the two workers stopped. The one
    -- half shows the Sends of the journal, up to an error of the worker that sends; the other shows its Takes. If the
    -- worker that reads stopped by the error, what came after the frames of the Takes shows why.
    pub record FaultEnds (e : Error) : Type 0 where
      pub journal : StopsJournal lanes options e
      pub sent : Result (Unit {0}) Error
      pub got : Result (Unit {0}) Error
      pub stops : (sent ≡ Err e) ⊎ (got ≡ Err e)
      pub sends : WorksOverHalf FlushWorks sent out out'
      pub reads : WorksOverHalf ReadWorks got input input'
      pub sends_shown : IfLogged (SentUnless sent (sent_bytes journal.before)) out.log out'.log
      pub takes_shown : IfLogged (GotUnless got (taken_replies journal.before)) input.log input'.log
      pub why : got ≡ Err e
          → IfLogged (GotThenWhy e journal.before (taken_replies journal.before)) input.log input'.log
