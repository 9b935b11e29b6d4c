-- Files that are downloaded at once, by whole reads in flight over one session.
use Rattle.std.specs.Prelude.{◌≡◌, ◌⊎◌, ℕ, List, [], ◌∷◌, ◌++◌, false, Ok}
use Rattle.bytes.specs.Filled.{Filled}
use Rattle.sftp_core.specs.Core.{Core}
use Rattle.sftp_link.specs.Views.{LinkView}
use Rattle.plan_state.specs.declared.poll.Poll.TheVariants.{Pending, Ready}
use Rattle.plan_state.specs.declared.stage.Stage.{Stage}
use Rattle.plan_state.specs.declared.stage.Stage.TheVariants.{Asked, Came}
use Rattle.plan_state.specs.declared.told.Told.TheVariants.{Granted}
use Rattle.sftp_fs_read.specs.WholeReads.{FsReadValue, IsNoneOfRead, IsReadHeld, ReadOn, ReadsFrom, is_over}
use Rattle.sftp_fs_read.specs.declared.fs_read.Whole.{Whole}
use Rattle.sftp_fs_read.specs.declared.fs_read.Whole.TheVariants as whole
use Rattle.sftp_client.specs.Calls.{IsUsable}
use Rattle.sftp_client.specs.Sessions.{SftpValue, with_core}
use Rattle.sftp_client.specs.Waits.{SendsAndTakes}
use Rattle.sftp_client.specs.declared.walk_entry.WalkEntry.{WalkEntry}
use Rattle.example_client.specs.Progress.{ReachesBySteps}
use Rattle.example_client.specs.declared.downloads.Download.{Download}
use Rattle.example_client.specs.declared.downloads.Reading.{Reading}

-- ---- Reads in flight

abbrev pub IsOneOf : ℕ → List ℕ → Type 0
IsOneOf id [] = ⊥
IsOneOf id (ticket ∷ later) = (id ≡ ticket) ⊎ IsOneOf id later

abbrev pub IsOneOfCall : Stage → ℕ → Type 0
IsOneOfCall (Asked ticket) id = id ≡ ticket
IsOneOfCall (Came (Granted g)) id = id ≡ g.id
IsOneOfCall other id = ⊥

-- The number is the read's: that of its file, or of a reply that it awaits.
abbrev pub IsOneOfRead : Whole → ℕ → Type 0
IsOneOfRead (whole.Opening call facts) id = IsOneOfCall call.stage id
IsOneOfRead (whole.Open grant reads tickets) id = (id ≡ grant.id) ⊎ IsOneOf id tickets.items
IsOneOfRead whole.Ended id = ⊥

-- No number of the one read is the other's.
abbrev pub AreApart : Whole → Whole → Type 0
AreApart p q = (id : ℕ) → IsOneOfRead q id → IsNoneOfRead p id

abbrev pub IsApartFromAll : Whole → List Reading → Type 0
IsApartFromAll p [] = Unit {0}
IsApartFromAll p (reading ∷ later) = AreApart p reading.call.stage × IsApartFromAll p later

-- Each of these reads can be continued, and no two have a number in common.
abbrev pub AreReadsHeld : Core → List Reading → Type 0
AreReadsHeld core [] = Unit {0}
AreReadsHeld core (reading ∷ later) = (is_over reading.call.stage ≡ false) × (IsReadHeld core reading.call.stage
    × (IsApartFromAll reading.call.stage later × AreReadsHeld core later))

-- The reads are in flight, and the session can continue.
pub record AreReadsUnderWay {L S : Type 0} (state : L → LinkView S) (s : SftpValue L) (reads : List Reading) : Type 0
  where
    pub usable : IsUsable state s
    pub held : AreReadsHeld s.core reads

-- ---- Steps

-- The progress of a program: its session, the files still to be opened, the reads in flight, and the files whose bytes
-- came, in the order in which their reads ended.
pub record Downloading (L : Type 0) : Type 0 where
  pub sftp : SftpValue L
  pub files : List WalkEntry
  pub reads : List Reading
  pub done : List Download

abbrev pub downloading_of : {L : Type 0} → SftpValue L → List WalkEntry → List Reading → List Download → Downloading L
downloading_of sftp files reads done = record { sftp = sftp; files = files; reads = reads; done = done }

-- The read of the next file was started, and is the last one.
pub record StartsNextRead {L : Type 0} (old new : Downloading L) : Type 0 where
  pub file : WalkEntry
  pub call : FsReadValue
  pub starts : ReadsFrom file.path [] old.sftp.core new.sftp.core (Ok call)
  pub left : new.sftp ≡ with_core old.sftp new.sftp.core
  pub next : old.files ≡ file ∷ new.files
  pub last : new.reads ≡ old.reads ++ record { file = file; call = call } ∷ []
  pub done : new.done ≡ old.done

-- The first read returned all bytes of its file.
pub record EndsFirstRead {L : Type 0} (old new : Downloading L) : Type 0 where
  pub reading : Reading
  pub ended : FsReadValue
  pub bytes : Filled
  pub polls : ReadOn old.sftp.core new.sftp.core reading.call.stage ended.stage (Ready (Ok bytes))
  pub left : new.sftp ≡ with_core old.sftp new.sftp.core
  pub first : old.reads ≡ reading ∷ new.reads
  pub last : new.done ≡ old.done ++ record { file = reading.file; bytes = bytes } ∷ []
  pub files : new.files ≡ old.files

-- The first read has no result yet, and is the last one now.
pub record AwaitsFirstRead {L : Type 0} (old new : Downloading L) : Type 0 where
  pub reading : Reading
  pub after : FsReadValue
  pub later : List Reading
  pub polls : ReadOn old.sftp.core new.sftp.core reading.call.stage after.stage Pending
  pub left : new.sftp ≡ with_core old.sftp new.sftp.core
  pub was : old.reads ≡ reading ∷ later
  pub is : new ≡ downloading_of new.sftp old.files (later ++ record { file = reading.file; call = after } ∷ []) old.done

-- The queued frames were sent, and then a frame was taken.
pub record MakesRound {L S : Type 0} (state : L → LinkView S) (old new : Downloading L) : Type 0 where
  pub round : SendsAndTakes state old.sftp new.sftp
  pub is : new ≡ record old { sftp = new.sftp }

abbrev pub IsDownloadStep : {L S : Type 0} → (L → LinkView S) → Downloading L → Downloading L → Type 0
IsDownloadStep state old new = (StartsNextRead old new ⊎ EndsFirstRead old new)
    ⊎ (AwaitsFirstRead old new ⊎ MakesRound state old new)

abbrev pub DownloadsBySteps : {L S : Type 0} → (L → LinkView S) → Downloading L → Downloading L → Type 0
DownloadsBySteps state old new = ReachesBySteps (IsDownloadStep state) old new

-- Each file was opened and read to its end, all at once. The bytes of each are those that its own read returned.
abbrev pub AreDownloads : {L S : Type 0} → List WalkEntry → (L → LinkView S) → SftpValue L → SftpValue L
    → List Download → Type 0
AreDownloads files state old new done = DownloadsBySteps state (downloading_of old files [] [])
    (downloading_of new [] [] done)

abbrev pub downloaded_file : Download → WalkEntry
downloaded_file done = done.file
