-- Calls that a session starts and runs to their end in one.
use Rattle.std.specs.Prelude.{◌≡◌, ◌≢◌, ◌⊎◌, ◌<◌, ◌≤◌, ◌-◌, ◌^◌, ℕ, List, [], Option, None, Some, Result, Ok, Err, IsSome, IfOk, OnErr}
use Rattle.bytes.specs.Filled.{Filled}
use Rattle.sftp_model.specs.declared.error.Error.{Error}
use Rattle.sftp_model.specs.declared.error.Error.TheVariants as error
use Rattle.sftp_model.specs.declared.error.Fault.{Fault}
use Rattle.sftp_model.specs.declared.open_options.OpenOptions.{OpenOptions}
use Rattle.sftp_model.specs.declared.slot.FileAt.{FileAt}
use Rattle.sftp_model.specs.declared.slot.Site.{Site}
use Rattle.sftp_core.specs.Core.{Core, IsGrant, kept_of}
use Rattle.sftp_core.specs.Grant.{GrantValue}
use Rattle.sftp_core.specs.Info.{MAX_IDS, info_of}
use Rattle.sftp_link.specs.Views.{LinkView}
use Rattle.plan_model.specs.TransferPlans.{read_next, write_all_next}
use Rattle.plan_state.specs.Asked.{IsReady}
use Rattle.plan_state.specs.Calls.{CallValue, CancelsAwaited, IsNoneOfCall}
use Rattle.plan_state.specs.Keeping.{KeepsHeld, SparesOthers}
use Rattle.plan_state.specs.Runners.{Meaning}
use Rattle.sftp_file.specs.Copies.{CopyStarts, CopyValue}
use Rattle.sftp_file.specs.Files.{FilePlan, FileValue, StartsOnFile}
use Rattle.sftp_file.specs.Opens.{open_meaning}
use Rattle.sftp_file.specs.Reads.{ReadValue, read_meaning}
use Rattle.sftp_file.specs.Settles.{settle_meaning}
use Rattle.sftp_file.specs.Writes.{WriteAllValue, writing_all}
use Rattle.sftp_file.specs.declared.short_calls.Settling.{Settling}
use Rattle.sftp_fs.specs.Directories.{OpensFrom, opening_dir}
use Rattle.sftp_fs.specs.PathStarts.{PathPlan, StartsFrom}
use Rattle.sftp_fs.specs.WholeWrites.{WritesFrom}
use Rattle.sftp_fs_read.specs.WholeReads.{ReadsFrom}
use Rattle.sftp_client.specs.Opening.{OpensFile}
use Rattle.sftp_client.specs.Sessions.{IsKept, SftpValue, with_core}
use Rattle.sftp_client.specs.Waits.{HasFinished, HasFinishedOn}
use Rattle.sftp_client.specs.WholeWaits.{HasCopied, HasFinishedRead}
use Rattle.sftp_client.specs.WriteWaits.{HasFinishedWrite}

-- A session that may be used: it is open, and its link may count another fault.
pub record IsUsable {L S : Type 0} (state : L → LinkView S) (s : SftpValue L) : Type 0 where
  pub opened : IsSome (info_of s.core.phase)
  pub count : (state s.link).faults < 2 ^ 64 - 1

-- A session whose calls in one may be made: it is open, and if it keeps no fault its link may count another one.
pub record IsCallable {L S : Type 0} (state : L → LinkView S) (s : SftpValue L) : Type 0 where
  pub opened : IsSome (info_of s.core.phase)
  pub alive : s.core.fault ≡ None → (state s.link).faults < 2 ^ 64 - 1

-- ---- Starts

-- A start changed nothing of the session but its core.
abbrev pub OnCore : {L C : Type 0} → (Core → Core → Result C Error → Type 0) → SftpValue L → SftpValue L
    → Result C Error → Type 0
OnCore Starts old new result = Starts old.core new.core result × (new ≡ with_core old new.core)

-- All ids were in use, and nothing changed.
pub record HasNoId {L : Type 0} (old new : SftpValue L) (e : Error) : Type 0 where
  pub all : MAX_IDS ≤ kept_of old.core
  pub error : e ≡ error.OutOfMemory
  pub unchanged : new ≡ old

-- A call may be started and run.
pub record MayStart {L S : Type 0} (state : L → LinkView S) (s : SftpValue L) : Type 0 where
  pub usable : IsUsable state s
  pub ready : IsReady s.core

-- No call was started: all ids were in use, or a fault is kept. Nothing changed.
abbrev pub IsUnstarted : {L : Type 0} → SftpValue L → SftpValue L → Error → Type 0
IsUnstarted old new e = HasNoId old new e ⊎ IsKept old new e

abbrev pub MayStartOr : {L S : Type 0} → (L → LinkView S) → SftpValue L → Result (Unit {0}) Error → Type 0
MayStartOr state s (Ok u) = MayStart state s
MayStartOr state s (Err e) = IsUnstarted s s e

-- A call was started if an id was left and no fault is kept.
abbrev pub IfIdLeft : {L C : Type 0} → (SftpValue L → SftpValue L → Result C Error → Type 0) → SftpValue L → SftpValue L
    → Result C Error → Type 0
IfIdLeft Starts old new (Ok call) = Starts old new (Ok call)
IfIdLeft Starts old new (Err e) = IsUnstarted old new e ⊎ Starts old new (Err e)

-- ---- Calls in one

-- A call was started, and then run to its end.
pub record StartsThenRuns {L C V : Type 0} (Starts : SftpValue L → SftpValue L → Result C Error → Type 0)
    (Runs : SftpValue L → SftpValue L → C → Result V Error → Type 0) (old new : SftpValue L) (result : Result V Error) :
    Type 0 where
  pub started : SftpValue L
  pub call : C
  pub starts : Starts old started (Ok call)
  pub runs : Runs started new call result

-- A value is the result of a call that was started and run; an error may also be that of the start.
abbrev pub RunsInOne : {L C V : Type 0} → (SftpValue L → SftpValue L → Result C Error → Type 0)
    → (SftpValue L → SftpValue L → C → Result V Error → Type 0) → SftpValue L → SftpValue L → Result V Error → Type 0
RunsInOne Starts Runs old new (Ok value) = StartsThenRuns Starts Runs old new (Ok value)
RunsInOne Starts Runs old new (Err e) = Starts old new (Err e) ⊎ StartsThenRuns Starts Runs old new (Err e)

-- After a value the session may be used further. After each error its calls in one may still be made.
abbrev pub IsUsableAfter : {L S V : Type 0} → (L → LinkView S) → SftpValue L → Result V Error → Type 0
IsUsableAfter state new (Ok value) = IsUsable state new
IsUsableAfter state new (Err e) = IsCallable state new

-- A call was run in one. Whatever its result, the core still holds each ticket and each grant that it held, and the
-- session stays open.
pub record RunsCall {L S C V : Type 0} (Starts : SftpValue L → SftpValue L → Result C Error → Type 0)
    (Runs : SftpValue L → SftpValue L → C → Result V Error → Type 0) (state : L → LinkView S) (old new : SftpValue L)
    (result : Result V Error) : Type 0 where
  pub runs : RunsInOne Starts Runs old new result
  pub keeps : KeepsHeld old.core new.core
  pub usable : IsUsableAfter state new result

-- ---- On paths

-- A call on paths was run in one, by its plan; a relative path begins where the session began.
abbrev pub CallsOnPath : {M V L S : Type 0} → Meaning Site M V → PathPlan → (L → LinkView S) → SftpValue L
    → SftpValue L → Result V Error → Type 0
CallsOnPath s plan state old new result = RunsCall (IfIdLeft (OnCore (StartsFrom s plan []))) (HasFinished s state) state
    old new result

-- The file of a path was read whole.
abbrev pub ReadsPath : {L S : Type 0} → List ℕ → (L → LinkView S) → SftpValue L → SftpValue L → Result Filled Error
    → Type 0
ReadsPath path state old new result = RunsCall (IfIdLeft (OnCore (ReadsFrom path []))) (HasFinishedRead state) state old
    new result

-- The file of a path was written whole.
abbrev pub WritesPath : {L S : Type 0} → List ℕ → List ℕ → (L → LinkView S) → SftpValue L → SftpValue L
    → Result (Unit {0}) Error → Type 0
WritesPath path content state old new result = RunsCall (IfIdLeft (OnCore (WritesFrom path content [])))
    (HasFinishedWrite state) state old new result

-- ---- Opens and closes

-- A file or a directory was opened. The core counts its grant, whose number is none that others have.
pub record OpensHandle {W M V L S : Type 0} (Starts : SftpValue L → SftpValue L → Result (CallValue M) Error → Type 0)
    (s : Meaning W M V) (grant : V → GrantValue) (state : L → LinkView S) (old new : SftpValue L)
    (result : Result V Error) : Type 0 where
  pub calls : RunsCall (IfIdLeft Starts) (HasFinished s state) state old new result
  pub held : IfOk result (λ value. IsGrant new.core (grant value))
  pub apart : IfOk result (λ value. SparesOthers old.core new.core (λ id. Unit {0}) (λ id. id ≢ (grant value).id))

-- The file of a path was opened.
abbrev pub OpensPath : {L S : Type 0} → OpenOptions → List ℕ → (L → LinkView S) → SftpValue L → SftpValue L
    → Result FileValue Error → Type 0
OpensPath options path state old new result = OpensHandle (OpensFile options path) open_meaning (λ file. file.grant)
    state old new result

-- The directory of a path was opened.
abbrev pub OpensDirectory : {L S : Type 0} → List ℕ → (L → LinkView S) → SftpValue L → SftpValue L
    → Result GrantValue Error → Type 0
OpensDirectory path state old new result = OpensHandle (OnCore (OpensFrom path [])) opening_dir (λ dir. dir) state old
    new result

-- A fault was kept, and is returned. The call was given up, and nothing was sent or read.
pub record GivesUpKept {M L : Type 0} (old new : SftpValue L) (call : CallValue M) (e : Error) : Type 0 where
  pub fault : Fault
  pub kept : old.core.fault ≡ Some fault
  pub is : e ≡ error.BackgroundTaskFailure fault
  pub given_up : CancelsAwaited old.core new.core call.stage
  pub left : new ≡ with_core old new.core

-- A close was run to its end, or a kept fault was returned first.
abbrev pub EndsClose : {L S : Type 0} → (L → LinkView S) → SftpValue L → SftpValue L → CallValue Settling
    → Result (Unit {0}) Error → Type 0
EndsClose state old new call (Ok u) = HasFinished settle_meaning state old new call (Ok u)
EndsClose state old new call (Err e) = HasFinished settle_meaning state old new call (Err e)
    ⊎ GivesUpKept old new call e

-- What others hold stays held.
pub record FinishesClose {L S : Type 0} (state : L → LinkView S) (old new : SftpValue L) (call : CallValue Settling)
    (result : Result (Unit {0}) Error) : Type 0 where
  pub runs : EndsClose state old new call result
  pub spares : SparesOthers old.core new.core (IsNoneOfCall call.stage) (λ id. Unit {0})
  pub usable : IsUsableAfter state new result

-- A file or a directory was closed. What others hold stays held; one user of the grant is gone.
pub record ClosesHandle {L S : Type 0} (Ends : Core → Core → CallValue Settling → Type 0) (IsTheirs : ℕ → Type 0)
    (state : L → LinkView S) (old new : SftpValue L) (result : Result (Unit {0}) Error) : Type 0 where
  pub core : Core
  pub call : CallValue Settling
  pub releases : Ends old.core core call
  pub runs : EndsClose state (with_core old core) new call result
  pub spares : SparesOthers old.core new.core IsTheirs (λ id. Unit {0})
  pub usable : IsUsableAfter state new result

-- It was closed without waiting: the CLOSE is queued, and its reply counts for nothing.
pub record ReleasesHandle {L : Type 0} (Ends : Core → Core → CallValue Settling → Type 0) (IsTheirs : ℕ → Type 0)
    (old new : SftpValue L) : Type 0 where
  pub core : Core
  pub call : CallValue Settling
  pub releases : Ends old.core core call
  pub given_up : CancelsAwaited core new.core call.stage
  pub left : new ≡ with_core old new.core
  pub spares : SparesOthers old.core new.core IsTheirs (λ id. Unit {0})
  pub fault : new.core.fault ≡ old.core.fault

-- The number is not that of the file's grant.
abbrev pub IsNoneOfFile : FileValue → ℕ → Type 0
IsNoneOfFile file id = id ≢ file.grant.id

-- ---- On files

-- A call on a file was started, or the file stays as it was.
abbrev pub StartsOr : {W M V L : Type 0} → Meaning W M V → W → FilePlan → FileValue → FileValue → SftpValue L
    → SftpValue L → Result (CallValue M) Error → Type 0
StartsOr s w plan before after old new result =
    IfIdLeft (OnCore (StartsOnFile s w plan before)) old new result × OnErr result (after ≡ before)

-- A call on a file was run in one, by its plan; the file is at the offset that it has reached, and may be closed still.
pub record CallsOnFile {W M V L S : Type 0} (s : Meaning W M V) (w : W) (at : M → FileAt) (plan : FilePlan)
    (state : L → LinkView S) (before after : FileValue) (old new : SftpValue L) (result : Result V Error) : Type 0 where
  pub calls : RunsCall (StartsOr s w plan before after)
      (λ started last call done. HasFinishedOn s at state started last call before after done) state old new result
  pub held : IsGrant new.core after.grant

-- At most this many bytes were read at the offset of the file; None at its end.
abbrev pub ReadsFile : {L S : Type 0} → ℕ → (L → LinkView S) → FileValue → FileValue → SftpValue L → SftpValue L
    → Result (Option (List ℕ)) Error → Type 0
ReadsFile len state before after old new result = CallsOnFile read_meaning tt (λ (m : ReadValue). m.file)
    (read_next 0 len) state before after old new result

-- These bytes were written at the offset of the file.
abbrev pub WritesFile : {L S : Type 0} → List ℕ → (L → LinkView S) → FileValue → FileValue → SftpValue L → SftpValue L
    → Result (Unit {0}) Error → Type 0
WritesFile bytes state before after old new result = CallsOnFile writing_all tt (λ (m : WriteAllValue). m.file)
    (write_all_next 0 bytes) state before after old new result

-- A copy was started, or both files stay as they were.
abbrev pub CopyStartsOr : {L : Type 0} → ℕ → FileValue → FileValue → FileValue → FileValue → SftpValue L → SftpValue L
    → Result (CallValue CopyValue) Error → Type 0
CopyStartsOr n f f' g g' old new result = IfIdLeft (OnCore (CopyStarts f g n)) old new result
    × OnErr result ((f' ≡ f) × (g' ≡ g))

-- A copy was run in one; both files are at the offsets that it has reached, and may be closed still.
pub record CopiesFile {L S : Type 0} (n : ℕ) (state : L → LinkView S) (f f' g g' : FileValue) (old new : SftpValue L)
    (result : Result (Unit {0}) Error) : Type 0 where
  pub calls : RunsCall (CopyStartsOr n f f' g g') (λ started last call done. HasCopied state started last call f f' g g'
      done) state old new result
  pub source : IsGrant new.core f'.grant
  pub target : IsGrant new.core g'.grant
