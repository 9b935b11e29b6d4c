-- believed
-- The results of copying files and the files that it leaves, over a file machine.
use Rattle.std.specs.Prelude.{◌≡◌, ℕ, List, Some, slice_get}
use Rattle.sftp_model.specs.declared.config.Choice.{Choice}
use Rattle.machine_model.specs.Components.{components}
use Rattle.machine_model.specs.FileTree.{FileTree}
use Rattle.run_laws.specs.Steps.{FeignNoEnd, HasBytes}
use Rattle.mirror_jobs.specs.declared.job.Job.{Job}
use Rattle.mirror_jobs.specs.declared.job.Job.TheVariants as job
use Rattle.mirror_jobs.specs.declared.verdict.Verdict.{Verdict}
use Rattle.mirror_jobs.specs.declared.verdict.Verdict.TheVariants as verdict

-- This holds for all choices of the machine. A file reported as copied holds its content at the end. Bytes reported as
-- read are those that the file had at first, if no choice feigns an end.
pub record CopiesFiles (jobs : List Job) (choices : List Choice) (tree left : FileTree) (verdicts : List Verdict) :
    Type 0 where
  pub copied : (i : ℕ) (name content : List ℕ) → slice_get jobs i ≡ Some (job.Up name content)
      → slice_get verdicts i ≡ Some verdict.Copied → HasBytes left (components name) content
  pub got : (i : ℕ) (name : List ℕ) (bound : ℕ) (bytes : List ℕ) → FeignNoEnd choices
      → slice_get jobs i ≡ Some (job.Down name bound) → slice_get verdicts i ≡ Some (verdict.Got bytes)
      → HasBytes tree (components name) bytes
