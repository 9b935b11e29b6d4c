-- believed, except NotesJob, NotesOver, MayJoin, BeginsJob, ToldDid, TellsNext, JobTurnDid, JobTurned
-- A list of files that are copied, several at once.
use Rattle.std.specs.Prelude.{
  ◌≡◌,
  ◌⊎◌,
  ◌<◌,
  ◌+◌,
  ℕ,
  zero,
  suc,
  Bool,
  true,
  false,
  length,
  List,
  [],
  ◌∷◌,
  ◌++◌,
  Option,
  Some,
  None,
  Result,
  Ok,
  Err,
  IsSome,
}
use Rattle.sftp_core.specs.Core.{Core}
use Rattle.sftp_core.specs.Info.{info_of}
use Rattle.sftp_link.specs.Views.{LinkView}
use Rattle.sftp_client.specs.Sessions.{SftpValue}
use Rattle.transfer_copy.specs.declared.copy_error.CopyError.{CopyError}
use Rattle.transfer_copy.specs.Local.{LocalAct}
use Rattle.transfer_pool.specs.declared.jobs.Beginning.{Beginning}
use Rattle.transfer_pool.specs.declared.jobs.Beginning.TheVariants as beginning
use Rattle.transfer_pool.specs.declared.jobs.JobTurn.{JobTurn}
use Rattle.transfer_pool.specs.declared.jobs.JobTurn.TheVariants as turn
use Rattle.transfer_pool.specs.declared.jobs.Telling.{Telling}
use Rattle.transfer_pool.specs.declared.jobs.Telling.TheVariants as telling
use Rattle.transfer_pool.specs.declared.jobs.Wanted.{Wanted}
use Rattle.transfer_pool.specs.declared.copy_job.Copied.{Copied}
use Rattle.transfer_pool.specs.declared.copy_job.CopyJob.{CopyJob}
use Rattle.transfer_pool.specs.declared.copy_job.Running.{Running}
use Rattle.transfer_pool.specs.Copies.{AreTogether, CopierValue, NextEnded, Working, job_begun}
use Rattle.transfer_pool.specs.Sessions.{IsGoing}

-- A job was given, no job was left, or the result of one was reported.
pub data JobNote (F : Type 0) : Type 0 where
  Given : Wanted F → JobNote F
  NoMore : JobNote F
  Over : Copied F → JobNote F

-- The record made when a job was asked for.
abbrev pub NotesJob : {F N : Type 0} → (JobNote F → N → N) → Option (Wanted F) → N → N → Type 0
NotesJob noted (Some wanted) before after = after ≡ noted (Given wanted) before
NotesJob noted None before after = after ≡ noted NoMore before

-- The record made when a result was reported.
abbrev pub NotesOver : {F N : Type 0} → (JobNote F → N → N) → Copied F → N → N → Type 0
NotesOver noted copied before after = after ≡ noted (Over copied) before

-- A session, the copies over its core, a flag that is true if there may be more jobs, and the records made of them.
pub record Jobs (L F N : Type 0) : Type 0 where
  pub session : SftpValue L
  pub running : List (Running F)
  pub more : Bool
  pub notes : N

abbrev pub working_in : {L F N : Type 0} → Jobs L F N → Working L F
working_in j = record { session = j.session; running = j.running }

-- The copy of a job that was given is the last.
abbrev pub with_copy : {F : Type 0} → List (Running F) → Wanted F → ℕ → List (Running F)
with_copy running wanted window =
    running ++ record { job = wanted.job; local = wanted.local; state = job_begun wanted.job window } ∷ []

-- A copy that has asked for nothing may run beside others.
abbrev pub MayJoin : {F : Type 0} → List (Running F) → List (Running F) → Type 0
MayJoin old new = (core : Core) → IsSome (info_of core.phase) → AreTogether core old → AreTogether core new

-- If fewer copies than `most` are in progress, a job was given and its copy started, or no job was left.
abbrev pub BeginsOrNot : {L F N : Type 0} → (JobNote F → N → N) → ℕ → ℕ → Jobs L F N → Jobs L F N → Type 0
BeginsOrNot {F = F} noted window most old new = (old.more ≡ true) × (length old.running < most)
    × (((wanted : Wanted F) × (new ≡ record old {
      running = with_copy old.running wanted window;
      notes = noted (Given wanted) old.notes;
    }))
    ⊎ (new ≡ record old { more = false; notes = noted NoMore old.notes }))

-- The effect of starting the next job.
abbrev pub BeginsJob : {F N : Type 0} → (JobNote F → N → N) → ℕ → CopierValue F → CopierValue F → N → N → Beginning
    → Type 0
BeginsJob {F = F} noted window old new before after beginning.Begun = (wanted : Wanted F)
    × (new ≡ record old { running = with_copy old.running wanted window })
    × (after ≡ noted (Given wanted) before)
    × MayJoin old.running new.running
BeginsJob noted window old new before after beginning.NoJob = (new ≡ old) × (after ≡ noted NoMore before)
BeginsJob {F = F} noted window old new before after beginning.Short = (new ≡ old)
    × ((wanted : Wanted F) × (after ≡ noted (Given wanted) before))

-- One copy ended, and its result was reported.
pub record TellsOne {L S F H N : Type 0} (state : L → LinkView S) (done : LocalAct → H → H) (history : F → H)
    (noted : JobNote F → N → N) (old new : Jobs L F N) : Type 0 where
  pub copied : Copied F
  pub ended : NextEnded state done history (working_in old) (working_in new) (Ok (Some copied))
  pub more : new.more ≡ old.more
  pub told : new.notes ≡ noted (Over copied) old.notes

abbrev pub JobStep : {L S F H N : Type 0} → (L → LinkView S) → (LocalAct → H → H) → (F → H) → (JobNote F → N → N) → ℕ
    → ℕ → Jobs L F N → Jobs L F N → Type 0
JobStep state done history noted window most old new = BeginsOrNot noted window most old new
    ⊎ TellsOne state done history noted old new

-- A run of `n` such steps.
abbrev pub JobSteps : {L S F H N : Type 0} → (L → LinkView S) → (LocalAct → H → H) → (F → H) → (JobNote F → N → N) → ℕ
    → ℕ → ℕ → Jobs L F N → Jobs L F N → Type 0
JobSteps state done history noted window most zero old new = new ≡ old
JobSteps {L = L} {F = F} {N = N} state done history noted window most (suc n) old new = (mid : Jobs L F N)
    × JobSteps state done history noted window most n old mid
    × JobStep state done history noted window most mid new

-- The result of one copy was reported, or no copy was in progress; or an allocation failed.
abbrev pub ToldDid : {L S F H N : Type 0} → (L → LinkView S) → (LocalAct → H → H) → (F → H) → (JobNote F → N → N)
    → Working L F → Working L F → N → N → Telling → Type 0
ToldDid {F = F} state done history noted old new before after telling.Told = (copied : Copied F)
    × NextEnded state done history old new (Ok (Some copied)) × (after ≡ noted (Over copied) before)
ToldDid state done history noted old new before after telling.NoCopy = NextEnded state done history old new (Ok None)
    × (after ≡ before)
ToldDid state done history noted old new before after (telling.Failed e) = after ≡ before

pub record TellsNext {L S F H N : Type 0} (state : L → LinkView S) (done : LocalAct → H → H) (history : F → H)
    (noted : JobNote F → N → N) (old new : Working L F) (before after : N) (result : Telling) : Type 0 where
  pub going : IsGoing state new.session
  pub together : AreTogether new.session.core new.running
  pub did : ToldDid state done history noted old new before after result

-- Nothing was recorded, or one job that was given but whose copy was not started.
abbrev pub NotesUnbegun : {F N : Type 0} → (JobNote F → N → N) → N → N → Type 0
NotesUnbegun {F = F} noted before after = (after ≡ before)
    ⊎ ((wanted : Wanted F) × (after ≡ noted (Given wanted) before))

-- A step of jobs; or no copy was in progress and none could be started; or an allocation failed.
abbrev pub JobTurnDid : {L S F H N : Type 0} → (L → LinkView S) → (LocalAct → H → H) → (F → H) → (JobNote F → N → N)
    → ℕ → ℕ → Jobs L F N → SftpValue L → List (Running F) → N → JobTurn → Type 0
JobTurnDid state done history noted window most old session running notes (turn.On more) =
    JobStep state done history noted window most old
    (record { session = session; running = running; more = more; notes = notes })
JobTurnDid state done history noted window most old session running notes turn.Over =
    NextEnded state done history (working_in old) (record { session = session; running = running }) (Ok None)
    × (old.more ≡ true → length old.running < most → ⊥)
    × (notes ≡ old.notes)
JobTurnDid state done history noted window most old session running notes (turn.Stopped e) =
    NotesUnbegun noted old.notes notes

pub record JobTurned {L S F H N : Type 0} (state : L → LinkView S) (done : LocalAct → H → H) (history : F → H)
    (noted : JobNote F → N → N) (window most : ℕ) (old : Jobs L F N) (session : SftpValue L)
    (running : List (Running F))
    (notes : N) (result : JobTurn) : Type 0 where
  pub going : IsGoing state session
  pub together : AreTogether session.core running
  pub did : JobTurnDid state done history noted window most old session running notes result

-- Steps of jobs until no job is left and no copy is in progress. Or an allocation failed, perhaps when the copy of a
-- given job was to start.
abbrev pub JobsDone : {L S F H N : Type 0} → (L → LinkView S) → (LocalAct → H → H) → (F → H) → (JobNote F → N → N) → ℕ
    → ℕ → Jobs L F N → SftpValue L → List (Running F) → N → Result (Unit {0}) CopyError → Type 0
JobsDone {L = L} {F = F} {N = N} state done history noted window most old session running notes (Ok u) = (n : ℕ)
    × (last : Jobs L F N)
    × JobSteps state done history noted window most n old last
    × (last.more ≡ false)
    × (last.running ≡ [])
    × (running ≡ [])
    × (notes ≡ last.notes)
JobsDone {L = L} {F = F} {N = N} state done history noted window most old session running notes (Err e) = (n : ℕ)
    × (last : Jobs L F N)
    × JobSteps state done history noted window most n old last
    × NotesUnbegun noted last.notes notes

-- Jobs over a session for which nothing was asked yet.
abbrev pub jobs_at : {L F N : Type 0} → SftpValue L → List (Running F) → N → Jobs L F N
jobs_at session running notes = record { session = session; running = running; more = true; notes = notes }

-- ---- The records

abbrev pub all_noted : {F N : Type 0} → (JobNote F → N → N) → List (JobNote F) → N → N
all_noted noted [] notes = notes
all_noted noted (note ∷ later) notes = all_noted noted later (noted note notes)

abbrev pub one_if : Bool → ℕ
one_if true = 1
one_if false = 0

-- The number of jobs given that pass a test.
abbrev pub given_in : {F : Type 0} → (CopyJob → Bool) → List (JobNote F) → ℕ
given_in test [] = 0
given_in test (Given wanted ∷ later) = one_if (test wanted.job) + given_in test later
given_in test (other ∷ later) = given_in test later

-- The number of such jobs whose result was reported.
abbrev pub over_in : {F : Type 0} → (CopyJob → Bool) → List (JobNote F) → ℕ
over_in test [] = 0
over_in test (Over copied ∷ later) = one_if (test copied.job) + over_in test later
over_in test (other ∷ later) = over_in test later
