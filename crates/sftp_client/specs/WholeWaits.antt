-- Copies, reads of `n` bytes and whole reads that are run to their end over a session's link.
use Rattle.std.specs.Prelude.{◌≡◌, ◌≢◌, ◌⊎◌, ◌≤◌, ◌-◌, ◌^◌, ◌++◌, ℕ, zero, suc, false, Result, Ok, Err, IsSome}
use Rattle.bytes.specs.Filled.{Filled}
use Rattle.sftp_model.specs.declared.error.Error.{Error}
use Rattle.sftp_model.specs.declared.error.Error.TheVariants as error
use Rattle.sftp_core.specs.Core.{Core, kept_of}
use Rattle.sftp_core.specs.Info.{MAX_IDS, info_of}
use Rattle.sftp_link.specs.Views.{LinkView}
use Rattle.plan_state.specs.Calls.{CallValue}
use Rattle.plan_state.specs.Keeping.{SparesOthers}
use Rattle.plan_state.specs.declared.poll.Poll.TheVariants as poll
use Rattle.sftp_file.specs.Copies.{CopyValue, StandsAt, copy_meaning}
use Rattle.sftp_file.specs.Files.{FileValue, IsMoved, file_at, file_in}
use Rattle.sftp_file.specs.Gathers.{GivesBytes, ReadAllValue, bytes_out, reading_all, without_bytes}
use Rattle.sftp_file.specs.declared.whole_reads.ReadAllError.{ReadAllError}
use Rattle.sftp_fs_read.specs.WholeReads.{
  CancelsRead,
  FsReadValue,
  IsNoneOfRead,
  IsReadHeld,
  ReadAnswer,
  ReadOn,
  is_over,
}
use Rattle.sftp_client.specs.Sessions.{SftpValue, with_core}
use Rattle.sftp_client.specs.Waits.{HasFinished, HasWaited, KeepsFaults, MayWait, RoundFails, SendsAndTakes}

-- ---- Copies

-- The copy can be run to its end on the files at their offsets.
pub record MayWaitCopy (core : Core) (call : CallValue CopyValue) (f g : FileValue) : Type 0 where
  pub may : MayWait copy_meaning core call
  pub source : call.runner.source ≡ file_in 0 f
  pub target : call.runner.target ≡ file_in 1 g

-- The copy was run, and both files are at the offsets that it has reached.
pub record HasWaitedCopy {L S : Type 0} (state : L → LinkView S) (old new : SftpValue L) (p q : CallValue CopyValue)
    (f f' g g' : FileValue) (result : Result (Unit {0}) Error) : Type 0 where
  pub waited : HasWaited copy_meaning state old new p q result
  pub source : StandsAt 0 f f' q.runner.source
  pub target : StandsAt 1 g g' q.runner.target

-- The copy was run to its end and given up there.
pub record HasCopied {L S : Type 0} (state : L → LinkView S) (old new : SftpValue L) (p : CallValue CopyValue)
    (f f' g g' : FileValue) (result : Result (Unit {0}) Error) : Type 0 where
  pub finished : HasFinished copy_meaning state old new p result
  pub source : StandsAt 0 f f' finished.last.runner.source
  pub target : StandsAt 1 g g' finished.last.runner.target

-- ---- Reads of `n` bytes

-- The read can be run to its end on the file at its offset.
pub record MayWaitBytes (core : Core) (call : CallValue ReadAllValue) (file : FileValue) : Type 0 where
  pub may : MayWait reading_all core call
  pub stands : call.runner.file ≡ file_at file

-- The read was run. If it has ended, its bytes were returned; otherwise it keeps them.
pub record HasWaitedBytes {L S : Type 0} (state : L → LinkView S) (old new : SftpValue L) (p q : CallValue ReadAllValue)
    (before after : FileValue) (result : Result Filled ReadAllError) : Type 0 where
  pub last : CallValue ReadAllValue
  pub answer : Result (Unit {0}) Error
  pub waited : HasWaited reading_all state old new p last answer
  pub gives : GivesBytes (bytes_out last) answer result
  pub left : q ≡ without_bytes last
  pub moved : IsMoved before after last.runner.file

-- The read was run to its end and given up there; all bytes were returned, with any result.
pub record HasReadBytes {L S : Type 0} (state : L → LinkView S) (old new : SftpValue L) (p : CallValue ReadAllValue)
    (before after : FileValue) (result : Result Filled ReadAllError) : Type 0 where
  pub answer : Result (Unit {0}) Error
  pub finished : HasFinished reading_all state old new p answer
  pub gives : GivesBytes (finished.last.runner.before ++ finished.last.runner.got) answer result
  pub moved : IsMoved before after finished.last.runner.file

-- ---- Whole reads

-- The read can be run to its end: it has not returned its result, and the session is open.
pub record MayWaitRead (core : Core) (p : FsReadValue) : Type 0 where
  pub opened : IsSome (info_of core.phase)
  pub over : is_over p.stage ≡ false
  pub held : IsReadHeld core p.stage

-- A poll of the read changed nothing of the session but its core; or all ids were in use, and nothing changed.
abbrev pub ReadIn : {L : Type 0} → SftpValue L → SftpValue L → FsReadValue → FsReadValue → ReadAnswer → Type 0
ReadIn old new p q result = (ReadOn old.core new.core p.stage q.stage result × (new ≡ with_core old new.core))
    ⊎ ((MAX_IDS ≤ kept_of old.core) × ((result ≡ poll.Ready (Err error.OutOfMemory)) × ((new ≡ old) × (q ≡ p))))

-- The read was polled without an answer. Then the queue was sent and a frame taken, if one was awaited; or it was
-- polled again.
pub record IsReadRound {L S : Type 0} (state : L → LinkView S) (old new : SftpValue L) (p q : FsReadValue) : Type 0
  where
    pub mid : SftpValue L
    pub reads : ReadIn old mid p q poll.Pending
    pub round : ((new ≡ mid) × (kept_of mid.core ≢ kept_of old.core))
        ⊎ ((kept_of mid.core ≡ kept_of old.core) × SendsAndTakes state mid new)

-- There was such a round, or none if another number of ids is in use; or it failed.
abbrev pub MayRound : {L S : Type 0} → (L → LinkView S) → ℕ → SftpValue L → SftpValue L → Result (Unit {0}) Error
    → Type 0
MayRound state kept old new (Ok u) = ((new ≡ old) × (kept_of old.core ≢ kept))
    ⊎ ((kept_of old.core ≡ kept) × SendsAndTakes state old new)
MayRound state kept old new (Err e) = RoundFails state old new e

abbrev pub AreReadRounds : {L S : Type 0} → (L → LinkView S) → ℕ → SftpValue L → SftpValue L → FsReadValue → FsReadValue
    → Type 0
AreReadRounds state zero old new p q = (new ≡ old) × (q ≡ p)
AreReadRounds {L = L} state (suc n) old new p q = (mid : SftpValue L) × ((m : FsReadValue)
    × (AreReadRounds state n old mid p m × IsReadRound state mid new m q))

-- The end of the wait: the read returned its result; a round failed; or the greatest count of rounds is reached.
abbrev pub ReadStops : {L S : Type 0} → (L → LinkView S) → ℕ → SftpValue L → SftpValue L → FsReadValue → FsReadValue
    → Result Filled Error → Type 0
ReadStops {L = L} state count old new p q result = ReadIn old new p q (poll.Ready result)
    ⊎ (((mid : SftpValue L) × ((e : Error) × (ReadIn old mid p q poll.Pending
    × (RoundFails state mid new e × (result ≡ Err e)))))
    ⊎ ((count ≡ 2 ^ 64 - 1) × ((result ≡ Err error.OutOfMemory) × ((new ≡ old) × (q ≡ p)))))

-- The read was polled, and round after round the queue was sent and a frame taken, until it returned its result or a
-- round failed. Then it may be run further or given up. What others have is still theirs, and the session is open.
pub record HasWaitedRead {L S : Type 0} (state : L → LinkView S) (old new : SftpValue L) (p q : FsReadValue)
    (result : Result Filled Error) : Type 0 where
  pub count : ℕ
  pub mid : SftpValue L
  pub call : FsReadValue
  pub rounds : AreReadRounds state count old mid p call
  pub stops : ReadStops state count mid new call q result
  pub held : IsReadHeld new.core q.stage
  pub spares : SparesOthers old.core new.core (IsNoneOfRead p.stage) (IsNoneOfRead q.stage)
  pub faults : KeepsFaults (state old.link).faults (state new.link).faults new.core.fault result

-- The read was run to its end and given up there, so that nothing is left of it. What others have stays in any case,
-- and the session is open.
pub record HasFinishedRead {L S : Type 0} (state : L → LinkView S) (old new : SftpValue L) (p : FsReadValue)
    (result : Result Filled Error) : Type 0 where
  pub mid : SftpValue L
  pub last : FsReadValue
  pub waited : HasWaitedRead state old mid p last result
  pub given_up : CancelsRead mid.core new.core last.stage
  pub left : new ≡ with_core mid new.core
  pub spares : SparesOthers old.core new.core (IsNoneOfRead p.stage) (λ id. Unit {0})
