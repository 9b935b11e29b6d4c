-- believed, except IsOfFile, IsOfParts, IsNumberOf, AreDisjoint, AreApartFrom, AreTogether, IsOfNone, SparesAll,
--   CopierValue, AdvanceDid, AdvancesCopies
-- Copies of many files in progress over one core.
use Rattle.std.specs.Prelude.{
  ◌≡◌,
  ◌⊎◌,
  ℕ,
  zero,
  suc,
  List,
  [],
  ◌∷◌,
  ◌++◌,
  Option,
  Some,
  None,
  Result,
  Ok,
  Err,
}
use Rattle.std.specs.String.{string_bytes}
use Rattle.sftp_model.specs.declared.error.Error.{Error}
use Rattle.sftp_core.specs.Core.{Core, record_at}
use Rattle.sftp_core.specs.declared.id_record.IdRecord.{IdRecord}
use Rattle.sftp_link.specs.Views.{LinkView}
use Rattle.sftp_client.specs.Sessions.{SftpValue, with_core}
use Rattle.transfer_copy.specs.declared.copy_error.CopyError.{CopyError}
use Rattle.transfer_copy.specs.declared.holding.FileHold.{FileHold}
use Rattle.transfer_copy.specs.declared.holding.FileHold.TheVariants as hold
use Rattle.transfer_copy.specs.declared.holding.Part.{Part}
use Rattle.transfer_copy.specs.declared.progress.Progress.{Progress}
use Rattle.transfer_copy.specs.declared.progress.Progress.TheVariants as progress
use Rattle.transfer_copy.specs.Gets.{GetStepDid, IsGetting, MayGet, get_begun}
use Rattle.transfer_copy.specs.Holdings.{HoldingValue, IsOfOthers, SparesIds, nothing_held}
use Rattle.transfer_copy.specs.Local.{LocalAct}
use Rattle.transfer_copy.specs.PutEnds.{PutStepDid}
use Rattle.transfer_copy.specs.Puts.{IsPutting, MayPut, put_begun}
use Rattle.transfer_pool.specs.Sessions.{IsGoing, TookTurn}
use Rattle.transfer_pool.specs.declared.copier.Advance.{Advance}
use Rattle.transfer_pool.specs.declared.copier.Advance.TheVariants as advance
use Rattle.transfer_pool.specs.declared.copier.CopierStep.{CopierStep}
use Rattle.transfer_pool.specs.declared.copier.CopierStep.TheVariants as copier_step
use Rattle.transfer_pool.specs.declared.copy_job.Copied.{Copied}
use Rattle.transfer_pool.specs.declared.copy_job.CopyJob.{CopyJob}
use Rattle.transfer_pool.specs.declared.copy_job.CopyState.{CopyState}
use Rattle.transfer_pool.specs.declared.copy_job.CopyState.TheVariants as state
use Rattle.transfer_pool.specs.declared.copy_job.Running.{Running}
use Rattle.transfer_args.specs.declared.asked.Direction.{Direction}
use Rattle.transfer_args.specs.declared.asked.Direction.TheVariants as way

-- ---- One copy

-- A copy in this direction that has asked for nothing, at its offset and with the attributes and the sync of its job.
abbrev pub copy_begun : Direction → ℕ → CopyJob → CopyState
copy_begun way.Get window job = state.Get (get_begun window job.begins_at job.sync)
copy_begun way.Put window job = state.Put (put_begun window job.begins_at job.mode job.attrs job.sync)

-- The copy of a job, at its start.
abbrev pub job_begun : CopyJob → ℕ → CopyState
job_begun job window = copy_begun job.way window job

-- The entries that it has in the core.
abbrev pub holding_of : CopyState → HoldingValue
holding_of (state.Get g) = g.holding
holding_of (state.Put p) = p.holding

-- It has not ended, and may take a step.
abbrev pub MayStepCopy : Core → CopyState → Type 0
MayStepCopy core (state.Get g) = MayGet core g
MayStepCopy core (state.Put p) = MayPut core p

-- It may be cancelled, or has ended.
abbrev pub MayCancel : Core → CopyState → Type 0
MayCancel core (state.Get g) = IsGetting core g
MayCancel core (state.Put p) = IsPutting core p

-- One step of the copy of this file.
abbrev pub CopyStepDid : {H : Type 0} → (LocalAct → H → H) → CopyJob → Core → CopyState → Core → CopyState → H → H
    → Progress → Type 0
CopyStepDid done job core (state.Get g) after (state.Get k) before now result =
    GetStepDid done (string_bytes job.from) (string_bytes job.part) (string_bytes job.to) core g after k before now
    result
    g.stage
CopyStepDid done job core (state.Put p) after (state.Put q) before now result =
    PutStepDid done (string_bytes job.from) (string_bytes job.part) (string_bytes job.to) core p after q before now
    result
    p.stage
CopyStepDid done job core old after other before now result = ⊥

-- After the step it may take another, or has ended.
abbrev pub StandsAfter : Core → CopyState → Progress → Type 0
StandsAfter core s (progress.Ended result) = MayCancel core s
StandsAfter core s other = MayStepCopy core s

-- A copy took one step: its own, with its own local file. The entries of others in the core are unchanged.
pub record StepsCopy {F H : Type 0} (done : LocalAct → H → H) (history : F → H) (core : Core) (old : Running F)
    (after : Core) (new : Running F) (result : Progress) : Type 0 where
  pub job : new.job ≡ old.job
  pub did : CopyStepDid done old.job core old.state after new.state (history old.local) (history new.local) result
  pub stands : StandsAfter after new.state result
  pub spares : SparesIds (holding_of old.state) (holding_of new.state) core after

-- The report on a copy that has ended.
pub record IsEndedAs {F : Type 0} (running : Running F) (result : Result ℕ CopyError) (copied : Copied F) : Type 0 where
  pub job : copied.job ≡ running.job
  pub local : copied.local ≡ running.local
  pub is : copied.result ≡ result

-- ---- Many copies

-- The number belongs to a request or a grant.
abbrev pub IsOfFile : ℕ → FileHold → Type 0
IsOfFile id hold.Nothing = ⊥
IsOfFile id (hold.Asked ticket kind) = id ≡ ticket
IsOfFile id (hold.Opened grant) = id ≡ grant.id

abbrev pub IsOfParts : ℕ → List Part → Type 0
IsOfParts id [] = ⊥
IsOfParts id (part ∷ later) = (id ≡ part.ticket) ⊎ IsOfParts id later

abbrev pub IsNumberOf : ℕ → HoldingValue → Type 0
IsNumberOf id h = IsOfFile id h.file ⊎ IsOfParts id h.parts

-- No number belongs to both.
abbrev pub AreDisjoint : HoldingValue → HoldingValue → Type 0
AreDisjoint a b = (id : ℕ) → IsNumberOf id a → IsOfOthers id b

abbrev pub AreApartFrom : {F : Type 0} → HoldingValue → List (Running F) → Type 0
AreApartFrom h [] = Unit {0}
AreApartFrom h (r ∷ later) = AreDisjoint (holding_of r.state) h × AreApartFrom h later

-- Each copy may take a step, and no two have a number of the core in common.
abbrev pub AreTogether : {F : Type 0} → Core → List (Running F) → Type 0
AreTogether core [] = Unit {0}
AreTogether core (r ∷ later) = MayStepCopy core r.state × AreApartFrom (holding_of r.state) later
    × AreTogether core later

-- The number belongs to no copy.
abbrev pub IsOfNone : {F : Type 0} → ℕ → List (Running F) → Type 0
IsOfNone id [] = Unit {0}
IsOfNone id (r ∷ later) = IsOfOthers id (holding_of r.state) × IsOfNone id later

-- An entry of the core under a number of no copy is unchanged.
pub record SparesAll {F : Type 0} (copies : List (Running F)) (old new : Core) : Type 0 where
  pub places : (id : ℕ) (place : IdRecord) → IsOfNone id copies → record_at old id ≡ Some place → record_at new id
      ≡ Some place
  pub phase : new.phase ≡ old.phase
  pub fault : new.fault ≡ old.fault

-- The copies that have not ended, in the order of their turns.
pub record CopierValue (F : Type 0) : Type 0 where
  pub running : List (Running F)

-- ---- One step of the first copy

-- It has not ended, and is the last then.
pub record TakesTurn {F H : Type 0} (done : LocalAct → H → H) (history : F → H) (core : Core) (old : List (Running F))
    (after : Core) (new : List (Running F)) (result : Progress) : Type 0 where
  pub copy : Running F
  pub later : List (Running F)
  pub next : Running F
  pub first : old ≡ copy ∷ later
  pub now : new ≡ later ++ next ∷ []
  pub goes : StepsCopy done history core copy after next result

-- It has ended, and is removed from them.
pub record EndsTurn {F H : Type 0} (done : LocalAct → H → H) (history : F → H) (core : Core) (old : List (Running F))
    (after : Core) (new : List (Running F)) (copied : Copied F) : Type 0 where
  pub copy : Running F
  pub later : List (Running F)
  pub last : Running F
  pub mid : Core
  pub first : old ≡ copy ∷ later
  pub now : new ≡ later
  pub goes : StepsCopy done history core copy mid last (progress.Ended copied.result)
  pub ended : IsEndedAs last copied.result copied
  pub spent : SparesIds (holding_of last.state) nothing_held mid after

abbrev pub CopierSteps : {F H : Type 0} → (LocalAct → H → H) → (F → H) → Core → List (Running F) → Core
    → List (Running F) → CopierStep F → Type 0
CopierSteps done history core old after new copier_step.Idle = (old ≡ []) × (new ≡ []) × (after ≡ core)
CopierSteps done history core old after new copier_step.Waits = TakesTurn done history core old after new progress.Waits
CopierSteps done history core old after new copier_step.Moved = TakesTurn done history core old after new progress.Moved
CopierSteps done history core old after new (copier_step.Ended copied) =
    EndsTurn done history core old after new copied

-- ---- Until a copy has ended

-- A session, and the copies over its core.
pub record Working (L F : Type 0) : Type 0 where
  pub session : SftpValue L
  pub running : List (Running F)

-- One step; only the core of the session changes with it.
pub record StepsCopies {L F H : Type 0} (done : LocalAct → H → H) (history : F → H) (old new : Working L F)
    (result : CopierStep F) : Type 0 where
  pub steps : CopierSteps done history old.session.core old.running new.session.core new.running result
  pub rest : new.session ≡ with_core old.session new.session.core

-- The session took a turn, and the copies took none.
pub record TurnsSession {L S F : Type 0} (state : L → LinkView S) (old new : Working L F) : Type 0 where
  pub result : Result (Unit {0}) Error
  pub turned : TookTurn state old.session new.session result
  pub same : new.running ≡ old.running

-- A step of a copy that has not ended, or a turn of the session.
abbrev pub WorksOnce : {L S F H : Type 0} → (L → LinkView S) → (LocalAct → H → H) → (F → H) → Working L F → Working L F
    → Type 0
WorksOnce state done history old new = StepsCopies done history old new copier_step.Waits
    ⊎ StepsCopies done history old new copier_step.Moved
    ⊎ TurnsSession state old new

-- A run of `n` such steps and turns.
abbrev pub WorkedOn : {L S F H : Type 0} → (L → LinkView S) → (LocalAct → H → H) → (F → H) → ℕ → Working L F
    → Working L F → Type 0
WorkedOn state done history zero old new = new ≡ old
WorkedOn {L = L} {F = F} state done history (suc n) old new = (mid : Working L F)
    × WorkedOn state done history n old mid
    × WorksOnce state done history mid new

-- The effect of one advance.
abbrev pub AdvanceDid : {L S F H : Type 0} → (L → LinkView S) → (LocalAct → H → H) → (F → H) → Working L F
    → Working L F → Advance F → Type 0
AdvanceDid state done history old new advance.On = (n : ℕ) × WorkedOn state done history n old new
AdvanceDid state done history old new (advance.Over (Some copied)) =
    StepsCopies done history old new (copier_step.Ended copied)
AdvanceDid state done history old new (advance.Over None) = StepsCopies done history old new copier_step.Idle
AdvanceDid state done history old new (advance.Stopped e) = (n : ℕ) × WorkedOn state done history n old new

pub record AdvancesCopies {L S F H : Type 0} (state : L → LinkView S) (done : LocalAct → H → H) (history : F → H)
    (old new : Working L F) (result : Advance F) : Type 0 where
  pub going : IsGoing state new.session
  pub together : AreTogether new.session.core new.running
  pub did : AdvanceDid state done history old new result

-- Steps and turns, and then one copy ended; or no copy was in progress.
abbrev pub NextEnded : {L S F H : Type 0} → (L → LinkView S) → (LocalAct → H → H) → (F → H) → Working L F
    → Working L F → Result (Option (Copied F)) CopyError → Type 0
NextEnded {L = L} {F = F} state done history old new (Ok (Some copied)) = (n : ℕ) × (last : Working L F)
    × WorkedOn state done history n old last
    × StepsCopies done history last new (copier_step.Ended copied)
NextEnded {L = L} {F = F} state done history old new (Ok None) = (n : ℕ) × (last : Working L F)
    × WorkedOn state done history n old last
    × StepsCopies done history last new copier_step.Idle
NextEnded state done history old new (Err e) = (n : ℕ) × WorkedOn state done history n old new
