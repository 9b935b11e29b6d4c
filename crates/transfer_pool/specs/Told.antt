-- believed
-- The results of all jobs.
use Rattle.std.specs.Prelude.{◌≡◌, ℕ, Bool, List, [], ◌∷◌, Result, OnErr, OnOk}
use Rattle.sftp_link.specs.Views.{LinkView}
use Rattle.sftp_client.specs.Sessions.{SftpValue}
use Rattle.transfer_copy.specs.declared.copy_error.CopyError.{CopyError}
use Rattle.transfer_copy.specs.Local.{LocalAct}
use Rattle.transfer_pool.specs.declared.copy_job.Copied.{Copied}
use Rattle.transfer_pool.specs.declared.copy_job.CopyJob.{CopyJob}
use Rattle.transfer_pool.specs.declared.copy_job.Running.{Running}
use Rattle.transfer_pool.specs.CopyLegs.{HasOwnLegs, done_legs}
use Rattle.transfer_pool.specs.Jobs.{JobNote, JobsDone, Over, all_noted, given_in, jobs_at, over_in}

-- This holds for each copy that was reported.
abbrev pub AreCopiesTold : {F : Type 0} → (Copied F → Type 0) → List (JobNote F) → Type 0
AreCopiesTold Holds [] = Unit {0}
AreCopiesTold Holds (Over copied ∷ later) = Holds copied × AreCopiesTold Holds later
AreCopiesTold Holds (other ∷ later) = AreCopiesTold Holds later

-- These records were made. The result of each job that was given was reported once, and of no other job: for each test
-- of jobs, the reported jobs that pass it are equal in number to the given ones. And `Holds` holds for each copy that
-- was reported.
pub record IsEachTold {F N : Type 0} (noted : JobNote F → N → N) (Holds : List (JobNote F) → Copied F → Type 0)
    (before after : N) : Type 0 where
  pub notes : List (JobNote F)
  pub noted_all : after ≡ all_noted noted notes before
  pub each : (test : CopyJob → Bool) → over_in test notes ≡ given_in test notes
  pub copies : AreCopiesTold (Holds notes) notes

-- These records were made, and `Holds` holds for each copy that was reported.
pub record AreNoted {F N : Type 0} (noted : JobNote F → N → N) (Holds : List (JobNote F) → Copied F → Type 0)
    (before after : N) : Type 0 where
  pub notes : List (JobNote F)
  pub noted_all : after ≡ all_noted noted notes before
  pub copies : AreCopiesTold (Holds notes) notes

-- All jobs over a session on which none was in progress: steps of jobs until no job is left. The result of each was
-- reported, and each was copied by steps of its own among these. Or an allocation failed, and this holds for each copy
-- that was reported before.
pub record CopiesAll {L S F H N : Type 0} (state : L → LinkView S) (done : LocalAct → H → H) (history : F → H)
    (noted : JobNote F → N → N) (window most : ℕ) (old : SftpValue L) (before after : N)
    (result : Result (Unit {0}) CopyError) : Type 0 where
  pub session : SftpValue L
  pub running : List (Running F)
  pub did : JobsDone state done history noted window most (jobs_at old [] before) session running after result
  pub each : OnOk result (IsEachTold noted (HasOwnLegs done history window
      (done_legs state done history noted window most (jobs_at old [] before) session running after result did))
      before after)
  pub stopped : OnErr result (AreNoted noted (HasOwnLegs done history window
      (done_legs state done history noted window most (jobs_at old [] before) session running after result did))
      before after)
