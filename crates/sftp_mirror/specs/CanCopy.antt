-- The properties of a list of files that was read.
use Rattle.std.specs.Prelude.{◌≡◌, ◌≤◌, ℕ, true}
use Rattle.plan_model.specs.Lanes.{are_ok as lanes_are_ok}
use Rattle.script_grammar.specs.CanRun.{CanBegin}
use Rattle.mirror_jobs.specs.JobLanes.{lanes_of}
use Rattle.mirror_jobs.specs.Jobs.{are_ok}
use Rattle.sftp_mirror.specs.declared.list.CopyList.{CopyList}

-- A server may start with the lines of setup, the files may be copied together, and a session can be given the lanes
-- that copy them.
pub record CanCopy (list : CopyList) : Type 0 where
  pub begins : CanBegin list.script
  pub ok : are_ok list.jobs ≡ true
  pub lanes : (width : ℕ) → width ≤ 64 → lanes_are_ok (lanes_of width list.jobs) ≡ true
