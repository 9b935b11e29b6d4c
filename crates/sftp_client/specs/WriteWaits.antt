-- Whole writes that are run to their end over a session's link.
use Rattle.std.specs.Prelude.{◌≡◌, ◌⊎◌, ◌≤◌, ◌-◌, ◌^◌, ℕ, zero, suc, false, Result, Err, IsSome}
use Rattle.sftp_model.specs.declared.error.Error.{Error}
use Rattle.sftp_model.specs.declared.error.Error.TheVariants as error
use Rattle.sftp_core.specs.Core.{Core, kept_of}
use Rattle.sftp_core.specs.Info.{MAX_IDS, info_of}
use Rattle.sftp_link.specs.Views.{LinkView}
use Rattle.plan_state.specs.Keeping.{SparesOthers}
use Rattle.plan_state.specs.declared.poll.Poll.TheVariants as poll
use Rattle.sftp_fs.specs.WholeWrites.{
  CancelsWrite,
  FsWriteValue,
  IsNoneOfWrite,
  IsWriteHeld,
  PollsWrite,
  WriteAnswer,
  is_over,
}
use Rattle.sftp_client.specs.Sessions.{SftpValue, with_core}
use Rattle.sftp_client.specs.Waits.{KeepsFaults, RoundFails, SendsAndTakes}

-- The write can be run to its end: it has not returned its result, and the session is open.
pub record MayWaitWrite (core : Core) (p : FsWriteValue) : Type 0 where
  pub opened : IsSome (info_of core.phase)
  pub over : is_over p.stage ≡ false
  pub held : IsWriteHeld core p.stage

-- A poll of the write changed nothing of the session but its core; or all ids were in use, and nothing changed.
abbrev pub WriteIn : {L : Type 0} → SftpValue L → SftpValue L → FsWriteValue → FsWriteValue → WriteAnswer → Type 0
WriteIn old new p q result = (PollsWrite old.core new.core p q result × (new ≡ with_core old new.core))
    ⊎ ((MAX_IDS ≤ kept_of old.core) × ((result ≡ poll.Ready (Err error.OutOfMemory)) × ((new ≡ old) × (q ≡ p))))

-- The write was polled without an answer. Then the queue was sent and a frame taken, if one was awaited.
pub record IsWriteRound {L S : Type 0} (state : L → LinkView S) (old new : SftpValue L) (p q : FsWriteValue) : Type 0
  where
    pub mid : SftpValue L
    pub writes : WriteIn old mid p q poll.Pending
    pub round : SendsAndTakes state mid new

-- This many rounds, one after another.
abbrev pub AreWriteRounds : {L S : Type 0} → (L → LinkView S) → ℕ → SftpValue L → SftpValue L → FsWriteValue
    → FsWriteValue → Type 0
AreWriteRounds state zero old new p q = (new ≡ old) × (q ≡ p)
AreWriteRounds {L = L} state (suc n) old new p q = (mid : SftpValue L) × ((m : FsWriteValue)
    × (AreWriteRounds state n old mid p m × IsWriteRound state mid new m q))

-- The end of the wait: the write returned its result; a round failed; or the greatest count of rounds is reached.
abbrev pub WriteStops : {L S : Type 0} → (L → LinkView S) → ℕ → SftpValue L → SftpValue L → FsWriteValue → FsWriteValue
    → Result (Unit {0}) Error → Type 0
WriteStops {L = L} state count old new p q result = WriteIn old new p q (poll.Ready result)
    ⊎ (((mid : SftpValue L) × ((e : Error) × (WriteIn old mid p q poll.Pending
    × (RoundFails state mid new e × (result ≡ Err e)))))
    ⊎ ((count ≡ 2 ^ 64 - 1) × ((result ≡ Err error.OutOfMemory) × ((new ≡ old) × (q ≡ p)))))

-- The write was polled, and round after round the queue was sent and a frame taken, until it returned its result or a
-- round failed. Then it may be run further or given up. What others have is still theirs, and the session is open.
pub record HasWaitedWrite {L S : Type 0} (state : L → LinkView S) (old new : SftpValue L) (p q : FsWriteValue)
    (result : Result (Unit {0}) Error) : Type 0 where
  pub count : ℕ
  pub mid : SftpValue L
  pub call : FsWriteValue
  pub rounds : AreWriteRounds state count old mid p call
  pub stops : WriteStops state count mid new call q result
  pub held : IsWriteHeld new.core q.stage
  pub spares : SparesOthers old.core new.core (IsNoneOfWrite p.stage) (IsNoneOfWrite q.stage)
  pub faults : KeepsFaults (state old.link).faults (state new.link).faults new.core.fault result

-- The write was run to its end and given up there, so that nothing is left of it. What others have stays in any case,
-- and the session is open.
pub record HasFinishedWrite {L S : Type 0} (state : L → LinkView S) (old new : SftpValue L) (p : FsWriteValue)
    (result : Result (Unit {0}) Error) : Type 0 where
  pub mid : SftpValue L
  pub last : FsWriteValue
  pub waited : HasWaitedWrite state old mid p last result
  pub given_up : CancelsWrite mid.core new.core last.stage
  pub left : new ≡ with_core mid new.core
  pub spares : SparesOthers old.core new.core (IsNoneOfWrite p.stage) (λ id. Unit {0})
