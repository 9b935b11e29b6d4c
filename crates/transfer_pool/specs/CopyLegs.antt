-- believed
-- The steps of each copy, among the steps that all copies over one session took.
use Rattle.std.specs.Prelude.{◌≡◌, ◌⊎◌, ℕ, zero, suc, List, [], ◌∷◌, ◌++◌, map, Some, Result, Ok, Err}
use Rattle.std.proofs.Common.{inl, inr}
use Rattle.std.specs.List.{Contains}
use Rattle.std.specs.String.{string_bytes}
use Rattle.sftp_core.specs.Core.{Core}
use Rattle.sftp_link.specs.Views.{LinkView}
use Rattle.sftp_client.specs.Sessions.{SftpValue}
use Rattle.transfer_copy.specs.Local.{LocalAct}
use Rattle.transfer_copy.specs.declared.copy_error.CopyError.{CopyError}
use Rattle.transfer_copy.specs.declared.get.FileGet.{FileGet}
use Rattle.transfer_copy.specs.declared.progress.Progress.{Progress}
use Rattle.transfer_copy.specs.declared.progress.Progress.TheVariants as progress
use Rattle.transfer_copy.specs.declared.put.FilePut.{FilePut}
use Rattle.transfer_copy.specs.Gets.{get_begun}
use Rattle.transfer_copy.specs.Legs.{IsWholeCopy, CopyStep}
use Rattle.transfer_copy.specs.Puts.{put_begun}
use Rattle.transfer_copy.specs.WholeGets.{GotWhole, IsGetLeg}
use Rattle.transfer_copy.specs.WholePuts.{IsPutLeg, SentWhole}
use Rattle.transfer_pool.specs.declared.jobs.Wanted.{Wanted}
use Rattle.transfer_pool.specs.declared.copy_job.Copied.{Copied}
use Rattle.transfer_pool.specs.declared.copy_job.CopyJob.{CopyJob}
use Rattle.transfer_pool.specs.declared.copy_job.CopyState.{CopyState}
use Rattle.transfer_pool.specs.declared.copy_job.CopyState.TheVariants as state
use Rattle.transfer_pool.specs.declared.copy_job.Running.{Running}
use Rattle.transfer_args.specs.declared.asked.Direction.{Direction}
use Rattle.transfer_args.specs.declared.asked.Direction.TheVariants as way
use Rattle.transfer_pool.specs.Copies.{NextEnded, WorkedOn, Working}
use Rattle.transfer_pool.specs.Jobs.{Given, JobNote, JobSteps, Jobs, JobsDone, working_in}

-- ---- The steps that were taken

-- A step of the copy of a job.
pub record JobLeg (H : Type 0) : Type 0 where
  pub job : CopyJob
  pub leg : CopyStep CopyState H

-- The step that a copy took.
abbrev pub leg_of : {F H : Type 0} → (F → H) → Core → Running F → Core → Running F → Progress → JobLeg H
leg_of history core old after new result =
    record {
      job = old.job;
      leg = record {
        core = core;
        old = old.state;
        before = history old.local;
        after = after;
        new = new.state;
        now = history new.local;
        result = result;
      };
    }

-- The steps of copies that continued, the newest first. A turn of the session is none.
abbrev pub worked_legs : {L S F H : Type 0} → (state : L → LinkView S) → (done : LocalAct → H → H) → (history : F → H)
    → (n : ℕ) → (old new : Working L F) → WorkedOn state done history n old new → List (JobLeg H)
worked_legs state done history zero old new same = []
worked_legs state done history (suc n) old new (mid, earlier, inl s) =
    leg_of history mid.session.core s.steps.copy new.session.core s.steps.next progress.Waits
    ∷ worked_legs state done history n old mid earlier
worked_legs state done history (suc n) old new (mid, earlier, inr (inl s)) =
    leg_of history mid.session.core s.steps.copy new.session.core s.steps.next progress.Moved
    ∷ worked_legs state done history n old mid earlier
worked_legs state done history (suc n) old new (mid, earlier, inr (inr turned)) =
    worked_legs state done history n old mid earlier

-- The steps of copies, with the last step of a copy that ended.
abbrev pub ended_legs : {L S F H : Type 0} → (state : L → LinkView S) → (done : LocalAct → H → H) → (history : F → H)
    → (old new : Working L F) → (copied : Copied F) → NextEnded state done history old new (Ok (Some copied))
    → List (JobLeg H)
ended_legs state done history old new copied (n, last, worked, ends) =
    leg_of history last.session.core ends.steps.copy ends.steps.mid ends.steps.last (progress.Ended copied.result)
    ∷ worked_legs state done history n old last worked

-- The steps of copies in all steps of jobs.
abbrev pub jobs_legs : {L S F H N : Type 0} → (state : L → LinkView S) → (done : LocalAct → H → H) → (history : F → H)
    → (noted : JobNote F → N → N) → (window most n : ℕ) → (old new : Jobs L F N)
    → JobSteps state done history noted window most n old new → List (JobLeg H)
jobs_legs state done history noted window most zero old new same = []
jobs_legs state done history noted window most (suc n) old new (mid, earlier, inl begins) =
    jobs_legs state done history noted window most n old mid earlier
jobs_legs state done history noted window most (suc n) old new (mid, earlier, inr one) =
    ended_legs state done history (working_in mid) (working_in new) one.copied one.ended
    ++ jobs_legs state done history noted window most n old mid earlier

abbrev pub done_legs : {L S F H N : Type 0} → (state : L → LinkView S) → (done : LocalAct → H → H) → (history : F → H)
    → (noted : JobNote F → N → N) → (window most : ℕ) → (old : Jobs L F N) → (session : SftpValue L)
    → (running : List (Running F)) → (notes : N) → (result : Result (Unit {0}) CopyError)
    → JobsDone state done history noted window most old session running notes result → List (JobLeg H)
done_legs state done history noted window most old session running notes (Ok u)
    (n, last, steps, more, over, none, same) =
    jobs_legs state done history noted window most n old last steps
done_legs state done history noted window most old session running notes (Err e) (n, last, steps, stopped) =
    jobs_legs state done history noted window most n old last steps

-- ---- The steps of one copy

-- The first list occurs in the second, in this order.
abbrev pub AreInOrderAmong : {X : Type 0} → List X → List X → Type 0
AreInOrderAmong [] all = Unit {0}
AreInOrderAmong (x ∷ xs) [] = ⊥
AreInOrderAmong (x ∷ xs) (y ∷ all) = ((x ≡ y) × AreInOrderAmong xs all) ⊎ AreInOrderAmong (x ∷ xs) all

-- The steps in one direction, as steps of a copy of this job.
abbrev pub legs_of : {S H : Type 0} → (S → CopyState) → CopyJob → List (CopyStep S H) → List (JobLeg H)
legs_of {S = S} {H = H} way_of job legs = map
    (λ (l : CopyStep S H).
    record {
      job = job;
      leg = record {
        core = l.core;
        old = way_of l.old;
        before = l.before;
        after = l.after;
        new = way_of l.new;
        now = l.now;
        result = l.result;
      };
    }) legs

-- All steps of the copy of a file from the server: from its start, with the local file that was given, to its result
-- and the local file that was reported. They are steps of its own job among all that were made over the session. If it
-- returned a count, the bytes that it wrote are those of the DATA that came to its READs.
pub record HasGot {F H : Type 0} (done : LocalAct → H → H) (history : F → H) (window : ℕ) (all : List (JobLeg H))
    (wanted : Wanted F) (copied : Copied F) : Type 0 where
  pub earlier : List (CopyStep FileGet H)
  pub last : CopyStep FileGet H
  pub whole : IsWholeCopy
      (IsGetLeg done (string_bytes wanted.job.from) (string_bytes wanted.job.part) (string_bytes wanted.job.to))
      (get_begun window wanted.job.begins_at wanted.job.sync) (history wanted.local) earlier last copied.result
  pub told : last.now ≡ history copied.local
  pub among : AreInOrderAmong (legs_of state.Get wanted.job (last ∷ earlier)) all
  pub got : (len : ℕ) → copied.result ≡ Ok len → GotWhole done (string_bytes wanted.job.from)
      (string_bytes wanted.job.part) (string_bytes wanted.job.to) wanted.job.sync wanted.job.begins_at len (history
      wanted.local)
      (history copied.local) (last ∷ earlier)

-- All steps of the copy of a file to the server. If it returned a count, the bytes that were read were carried by
-- WRITEs that had OK.
pub record HasPut {F H : Type 0} (done : LocalAct → H → H) (history : F → H) (window : ℕ) (all : List (JobLeg H))
    (wanted : Wanted F) (copied : Copied F) : Type 0 where
  pub earlier : List (CopyStep FilePut H)
  pub last : CopyStep FilePut H
  pub whole : IsWholeCopy
      (IsPutLeg done (string_bytes wanted.job.from) (string_bytes wanted.job.part) (string_bytes wanted.job.to))
      (put_begun window wanted.job.begins_at wanted.job.mode wanted.job.attrs wanted.job.sync) (history wanted.local)
      earlier last copied.result
  pub told : last.now ≡ history copied.local
  pub among : AreInOrderAmong (legs_of state.Put wanted.job (last ∷ earlier)) all
  pub sent : (len : ℕ) → copied.result ≡ Ok len → SentWhole done (string_bytes wanted.job.from)
      (string_bytes wanted.job.part) (string_bytes wanted.job.to) wanted.job.sync wanted.job.begins_at len (history
      wanted.local)
      (history copied.local) (last ∷ earlier)

abbrev pub HasLegs : {F H : Type 0} → (LocalAct → H → H) → (F → H) → ℕ → List (JobLeg H) → Wanted F → Copied F → Direction
    → Type 0
HasLegs done history window all wanted copied way.Get = HasGot done history window all wanted copied
HasLegs done history window all wanted copied way.Put = HasPut done history window all wanted copied

-- A copy that was reported belongs to a job that was given, and has steps of its own.
pub record HasOwnLegs {F H : Type 0} (done : LocalAct → H → H) (history : F → H) (window : ℕ) (all : List (JobLeg H))
    (notes : List (JobNote F)) (copied : Copied F) : Type 0 where
  pub wanted : Wanted F
  pub given : Contains notes (Given wanted)
  pub job : copied.job ≡ wanted.job
  pub copies : HasLegs done history window all wanted copied wanted.job.way
