-- believed
-- The text that the program must write for the bytes of a list, over a server of its files in memory.
use Rattle.std.specs.Prelude.{◌≡◌, ℕ, List, [], ◌++◌, length, Option, Some}
use Rattle.sftp_model.specs.declared.options.SftpOptions.{SftpOptions}
use Rattle.sftp_model.specs.declared.flags.Extensions.{Extensions}
use Rattle.machine_model.specs.FileTree.{FileTree}
use Rattle.machine_model.specs.Trees.{IsTree}
use Rattle.session_model.specs.declared.entry.Entry.{Entry}
use Rattle.session_model.specs.Closes.{AreClosed}
use Rattle.session_model.specs.Readings.{outcomes_below}
use Rattle.session_model.specs.Runs.{IsRun}
use Rattle.session_model.specs.Settings.{version_reply_of, setting_of}
use Rattle.session_model.specs.Shown.{ShowsExchange}
use Rattle.run_laws.specs.Steps.{FeignNoEnd}
use Rattle.script_text.specs.Texts.{dir_lines, file_lines}
use Rattle.sftp_map_server.specs.Serving.{Serving, version_reply}
use Rattle.machine_laws.specs.ServedRuns.{IsServedRun}
use Rattle.mirror_jobs.specs.declared.job.Job.{Job}
use Rattle.mirror_jobs.specs.declared.verdict.Verdict.{Verdict}
use Rattle.mirror_jobs.specs.JobLanes.{lanes_of, turns_of}
use Rattle.mirror_jobs.specs.Verdicts.{verdict_lines, verdicts_of}
use Rattle.mirror_jobs.specs.GoodJobs.{CopiesWell}
use Rattle.program_shell.specs.Ended.{IsServerOf}
use Rattle.sftp_mirror.specs.declared.copy.CopyReport.{CopyReport}
use Rattle.sftp_mirror.specs.declared.list.CopyList.{CopyList}
use Rattle.sftp_mirror.specs.declared.schedule.Schedule.{Schedule}

-- ---- A run

-- The result of each file, by the journal of the lanes that copied them.
abbrev pub verdicts_in : Schedule → List Job → List Entry → List Verdict
verdicts_in schedule jobs past = verdicts_of schedule.width jobs
    (outcomes_below past (length (lanes_of schedule.width jobs)))

-- The report is that of a run of the lanes that copy these files over this server, whose log shows it: VERSION reported
-- the server's offers, and the log shows VERSION and the run's journal. The replies are those of one sequential run of
-- the file machine. Each handle was closed exactly as often as it was granted. The verdicts are those of the outcomes.
-- A file reported as copied holds its content now. Bytes reported as read are those of the file at first. Each good
-- file is copied or read if no choice refuses a request.
pub record IsServedCopy (schedule : Schedule) (jobs : List Job) (options : SftpOptions) (server : Serving)
    (report : CopyReport) : Type 0 where
  pub extensions : Extensions
  pub past : List Entry
  pub run : IsRun (setting_of (lanes_of schedule.width jobs) options extensions past)
      (turns_of schedule.width schedule.rounds jobs) past
  pub version : version_reply_of extensions ≡ version_reply server.first.state.machine.config
  pub shown : ShowsExchange (version_reply_of extensions) past [] server.log
  pub served : IsServedRun server.first past server.now.state.machine.tree
  pub closed : AreClosed past
  pub verdicts : report.verdicts ≡ verdicts_in schedule jobs past
  pub copies : CopiesWell jobs server.first.state.choices server.first.state.machine.tree server.now.state.machine.tree
      report.verdicts

-- ---- The text

-- The text of verdicts and of the files and directories that are left.
abbrev pub copy_text : List Job → List Verdict → FileTree → List ℕ
copy_text jobs verdicts tree = verdict_lines jobs verdicts ++ file_lines tree ++ dir_lines tree

-- The text is that of the copies of a list's files over the list's server, which was kept, and of the files and
-- directories that are left there. No choice of the server feigns an end, so bytes reported as read are
-- those that the file had at first.
pub record IsCopied (schedule : Schedule) (kept : Option Serving) (list : CopyList) (text : List ℕ) : Type 0 where
  pub server : Serving
  pub is_kept : kept ≡ Some server
  pub first : IsServerOf list.script server
  pub begins : FeignNoEnd server.first.state.choices × IsTree server.first.state.machine.tree
  pub report : CopyReport
  pub run : IsServedCopy schedule list.jobs list.script.options server report
  pub is : text ≡ copy_text list.jobs report.verdicts server.now.state.machine.tree
