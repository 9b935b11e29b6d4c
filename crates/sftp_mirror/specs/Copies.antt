-- believed: CopiesServed
-- The files that may be copied together, and the report on their copies.
use Rattle.std.specs.Prelude.{◌≡◌, ◌≤◌, ℕ, true, List, Option}
use Rattle.sftp_model.specs.declared.config.Choice.{Choice}
use Rattle.sftp_model.specs.declared.config.ServerConfig.{ServerConfig}
use Rattle.sftp_model.specs.declared.options.SftpOptions.{SftpOptions}
use Rattle.sftp_link.specs.declared.piece.Piece.{Piece}
use Rattle.machine_model.specs.Changes.{IsWellFormed}
use Rattle.machine_model.specs.FileTree.{FileTree}
use Rattle.plan_model.specs.Lanes.{are_ok as lanes_are_ok}
use Rattle.session_model.specs.declared.entry.Entry.{Entry}
use Rattle.session_model.specs.Served.{ServesJournal}
use Rattle.sftp_lanes.specs.Reported.{IsReport}
use Rattle.mirror_jobs.specs.declared.job.Job.{Job}
use Rattle.mirror_jobs.specs.declared.verdict.Verdict.{Verdict}
use Rattle.mirror_jobs.specs.JobLanes.{lanes_of, turns_of}
use Rattle.mirror_jobs.specs.Jobs.{are_ok}
use Rattle.mirror_jobs.specs.Verdicts.{verdicts_of}
use Rattle.mirror_jobs.specs.GoodJobs.{CopiesWell}
use Rattle.sftp_mirror.specs.declared.copy.CopyReport.{CopyReport}

-- The files may be copied together, by 1 to 64 lanes and in at most 4096 rounds, and a session can be given the lanes.
pub record MayCopy (width rounds : ℕ) (jobs : List Job) : Type 0 where
  pub ok : are_ok jobs ≡ true
  pub some : 1 ≤ width
  pub most : width ≤ 64
  pub few : rounds ≤ 4096
  pub lanes : lanes_are_ok (lanes_of width jobs) ≡ true

-- If the replies are those of a file machine, the reports on files are true. Each good file is copied or read if no
-- choice refuses a request.
abbrev pub CopiesServed : List Job → List Entry → List Verdict → Type 0
CopiesServed jobs past verdicts = (config : ServerConfig) (choices : List Choice) (tree left : FileTree)
    → IsWellFormed tree → ServesJournal config choices tree past left → CopiesWell jobs choices tree left verdicts

-- The report is that of a run of the lanes that copy these files, under the turns for this many rounds. The result of
-- each file follows from the outcomes of its calls. If the replies are those of a file machine, the results are true of
-- the files, and good files are copied or read.
pub record IsCopyReport (width rounds : ℕ) (jobs : List Job) (options : SftpOptions)
    (before after : Option (List Piece)) (r : CopyReport) : Type 0 where
  pub report : IsReport (lanes_of width jobs) options (turns_of width rounds jobs) before after r.report
  pub verdicts : r.verdicts ≡ verdicts_of width jobs r.report.outcomes
  pub copies : CopiesServed jobs report.past r.verdicts
