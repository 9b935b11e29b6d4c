-- believed, except IsReadyOr, MayWait, RoundEnds, MayWaitOn, HasWaitedOn, HasFinishedOn
-- Calls that are run to their end over a session's link.
use Rattle.std.specs.Prelude.{◌≡◌, ◌⊎◌, ◌≤◌, ◌-◌, ◌^◌, ℕ, zero, suc, Bool, true, Option, Result, Ok, Err, IsSome, OnOk}
use Rattle.sftp_model.specs.declared.answers.Expected.{Expected}
use Rattle.sftp_model.specs.declared.error.Error.{Error}
use Rattle.sftp_model.specs.declared.error.Error.TheVariants as error
use Rattle.sftp_model.specs.declared.error.Fault.{Fault}
use Rattle.sftp_model.specs.declared.slot.FileAt.{FileAt}
use Rattle.sftp_core.specs.Core.{Core, kept_of}
use Rattle.sftp_core.specs.Info.{MAX_IDS, info_of}
use Rattle.sftp_link.specs.Views.{LinkView}
use Rattle.plan_state.specs.Asked.{HoldsTicket, IsReady}
use Rattle.plan_state.specs.Calls.{
  CallValue,
  CancelsAwaited,
  HoldsReady,
  IsHeld,
  IsNoneOfCall,
  IsNotOf,
  IsUnderWay,
  KeepsOtherTickets,
  StepsByPlan,
}
use Rattle.plan_state.specs.Keeping.{KeepsGrants, SparesOthers}
use Rattle.plan_state.specs.Runners.{Meaning}
use Rattle.plan_state.specs.declared.poll.Poll.{Poll}
use Rattle.plan_state.specs.declared.poll.Poll.TheVariants as poll
use Rattle.sftp_file.specs.Files.{FileValue, IsMoved, file_at}
use Rattle.sftp_client.specs.Sessions.{FlushesQueue, SftpValue, TakesOrKept, with_core}

-- Another request may be submitted, or all ids are in use.
abbrev pub IsReadyOr : Core → Result (Unit {0}) Error → Type 0
IsReadyOr core (Ok u) = IsReady core
IsReadyOr core (Err e) = (e ≡ error.OutOfMemory) × (MAX_IDS ≤ kept_of core)

-- A call can be run to its end: it has not returned its result, and the session is open.
pub record MayWait {W M V : Type 0} (s : Meaning W M V) (core : Core) (call : CallValue M) : Type 0 where
  pub opened : IsSome (info_of core.phase)
  pub under_way : IsUnderWay s core call

-- ---- Rounds

-- The queue was sent, and then a frame was taken, or none was awaited.
pub record SendsAndTakes {L S : Type 0} (state : L → LinkView S) (old new : SftpValue L) : Type 0 where
  pub mid : SftpValue L
  pub took : Bool
  pub sends : FlushesQueue state old mid (Ok tt)
  pub takes : TakesOrKept state mid new (Ok took)

-- Not all of the queue was sent, or no frame was taken.
abbrev pub RoundFails : {L S : Type 0} → (L → LinkView S) → SftpValue L → SftpValue L → Error → Type 0
RoundFails {L = L} state old new e = FlushesQueue state old new (Err e)
    ⊎ ((mid : SftpValue L) × (FlushesQueue state old mid (Ok tt) × TakesOrKept state mid new (Err e)))

abbrev pub RoundEnds : {L S : Type 0} → (L → LinkView S) → SftpValue L → SftpValue L → Result (Unit {0}) Error → Type 0
RoundEnds state old new (Ok u) = SendsAndTakes state old new
RoundEnds state old new (Err e) = RoundFails state old new e

-- ---- Calls

-- A poll of a call changed nothing of the session but its core; or all ids were in use, and nothing changed.
abbrev pub PolledIn : {W M V L : Type 0} → Meaning W M V → SftpValue L → SftpValue L → CallValue M → CallValue M
    → Poll (Result V Error) → Type 0
PolledIn s old new p q result = (StepsByPlan s old.core new.core p q result × (new ≡ with_core old new.core))
    ⊎ ((MAX_IDS ≤ kept_of old.core) × ((result ≡ poll.Ready (Err error.OutOfMemory)) × ((new ≡ old) × (q ≡ p))))

-- A poll had no answer yet, and then a round succeeded in which a frame was taken.
pub record IsPollRound {C L S : Type 0} (Waits : SftpValue L → SftpValue L → C → C → Type 0) (state : L → LinkView S)
    (old new : SftpValue L) (p q : C) : Type 0 where
  pub mid : SftpValue L
  pub waits : Waits old mid p q
  pub round : SendsAndTakes state mid new
  pub took : round.took ≡ true

-- This many rounds, one after another.
abbrev pub ArePollRounds : {C L S : Type 0} → (SftpValue L → SftpValue L → C → C → Type 0) → (L → LinkView S) → ℕ
    → SftpValue L → SftpValue L → C → C → Type 0
ArePollRounds Waits state zero old new p q = (new ≡ old) × (q ≡ p)
ArePollRounds {C = C} {L = L} Waits state (suc n) old new p q = (mid : SftpValue L) × ((m : C)
    × (ArePollRounds Waits state n old mid p m × IsPollRound Waits state mid new m q))

-- The call had no answer yet.
abbrev pub WaitsIn : {W M V L : Type 0} → Meaning W M V → SftpValue L → SftpValue L → CallValue M → CallValue M → Type 0
WaitsIn s old new p q = PolledIn s old new p q poll.Pending

-- The end of the wait: the call returned its result, or a round failed.
abbrev pub WaitEnds : {W M V L S : Type 0} → Meaning W M V → (L → LinkView S) → SftpValue L → SftpValue L → CallValue M
    → CallValue M → Result V Error → Type 0
WaitEnds {L = L} s state old new p q result = PolledIn s old new p q (poll.Ready result)
    ⊎ ((mid : SftpValue L) × ((e : Error) × (PolledIn s old mid p q poll.Pending
    × (RoundFails state mid new e × (result ≡ Err e)))))

-- The same, or the greatest count of rounds is reached.
abbrev pub WaitStops : {W M V L S : Type 0} → Meaning W M V → (L → LinkView S) → ℕ → SftpValue L → SftpValue L
    → CallValue M → CallValue M → Result V Error → Type 0
WaitStops s state count old new p q result = WaitEnds s state old new p q result
    ⊎ ((count ≡ 2 ^ 64 - 1) × ((result ≡ Err error.OutOfMemory) × ((new ≡ old) × (q ≡ p))))

-- The link's count of faults is unchanged, unless the error is that of a link that failed: a fault is kept then.
abbrev pub KeepsFaults : {V : Type 0} → ℕ → ℕ → Option Fault → Result V Error → Type 0
KeepsFaults before now kept (Err error.LinkFault) = (now ≡ before) ⊎ IsSome kept
KeepsFaults before now kept other = now ≡ before

-- A call was polled, and round after round the queue was sent and a frame taken, until it returned its result or a
-- round failed. Then it may be run further or given up. The core holds what belongs to its value, each grant stays,
-- what others have is still theirs, and the session is open.
pub record HasWaited {W M V L S : Type 0} (s : Meaning W M V) (state : L → LinkView S) (old new : SftpValue L)
    (p q : CallValue M) (result : Result V Error) : Type 0 where
  pub count : ℕ
  pub mid : SftpValue L
  pub call : CallValue M
  pub rounds : ArePollRounds (WaitsIn s) state count old mid p call
  pub ends : WaitStops s state count mid new call q result
  pub held : IsHeld s new.core q
  pub holds : HoldsReady s new.core (poll.Ready result)
  pub grants : KeepsGrants old.core new.core
  pub others : KeepsOtherTickets old.core new.core p.stage q.stage
  pub spares : SparesOthers old.core new.core (IsNoneOfCall p.stage) (IsNoneOfCall q.stage)
  pub faults : KeepsFaults (state old.link).faults (state new.link).faults new.core.fault result

-- A call was run to its end and given up there, so that nothing is left of it. If it returned a value the core holds
-- what belongs to that, and each grant stays. What others have stays in any case, and the session is open.
pub record HasFinished {W M V L S : Type 0} (s : Meaning W M V) (state : L → LinkView S) (old new : SftpValue L)
    (p : CallValue M) (result : Result V Error) : Type 0 where
  pub mid : SftpValue L
  pub last : CallValue M
  pub waited : HasWaited s state old mid p last result
  pub given_up : CancelsAwaited mid.core new.core last.stage
  pub left : new ≡ with_core mid new.core
  pub holds : HoldsReady s new.core (poll.Ready result)
  pub grants : OnOk result (KeepsGrants old.core new.core)
  pub others : (ticket : ℕ) (kind : Expected) → IsNotOf p.stage ticket → HoldsTicket old.core ticket kind
      → HoldsTicket new.core ticket kind
  pub spares : SparesOthers old.core new.core (IsNoneOfCall p.stage) (λ id. Unit {0})

-- ---- Calls that move a file

-- The call can be run to its end on the file at its offset.
pub record MayWaitOn {W M V : Type 0} (s : Meaning W M V) (at : M → FileAt) (core : Core) (call : CallValue M)
    (file : FileValue) : Type 0 where
  pub may : MayWait s core call
  pub stands : at call.runner ≡ file_at file

-- The call was run, and the file is at the offset that the call has reached.
pub record HasWaitedOn {W M V L S : Type 0} (s : Meaning W M V) (at : M → FileAt) (state : L → LinkView S)
    (old new : SftpValue L) (p q : CallValue M) (before after : FileValue) (result : Result V Error) : Type 0 where
  pub waited : HasWaited s state old new p q result
  pub moved : IsMoved before after (at q.runner)

-- The call was run to its end and given up there, and the file is at the offset that the call has reached.
pub record HasFinishedOn {W M V L S : Type 0} (s : Meaning W M V) (at : M → FileAt) (state : L → LinkView S)
    (old new : SftpValue L) (p : CallValue M) (before after : FileValue) (result : Result V Error) : Type 0 where
  pub finished : HasFinished s state old new p result
  pub moved : IsMoved before after (at finished.last.runner)
