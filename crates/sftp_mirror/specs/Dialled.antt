-- believed
-- The text that the program must write for a list whose files are copied over a link to a remote server.
use Rattle.std.specs.Prelude.{◌≡◌, ℕ, List, [], Option, Some}
use Rattle.sftp_link.specs.Views.{LastLink}
use Rattle.sftp_model.specs.declared.flags.Extensions.{Extensions}
use Rattle.session_model.specs.declared.entry.Entry.{Entry}
use Rattle.session_model.specs.Closes.{AreClosed}
use Rattle.session_model.specs.Runs.{IsRun}
use Rattle.session_model.specs.Settings.{version_reply_of, setting_of}
use Rattle.session_model.specs.Shown.{ShowsExchange}
use Rattle.sftp_lanes.specs.Seen.{session_inputs}
use Rattle.mirror_jobs.specs.JobLanes.{lanes_of, turns_of}
use Rattle.mirror_jobs.specs.Verdicts.{verdict_lines}
use Rattle.program_shell.specs.declared.ending.Answered.{Answered}
use Rattle.program_shell.specs.declared.ending.Answered.TheVariants.{Done, Stopped, Refused}
use Rattle.program_shell.specs.Stopped.{IsStopped}
use Rattle.sftp_mirror.specs.declared.list.CopyList.{CopyList}
use Rattle.sftp_mirror.specs.declared.schedule.Schedule.{Schedule}
use Rattle.sftp_mirror.specs.Copies.{CopiesServed}
use Rattle.sftp_mirror.specs.Printed.{verdicts_in}

-- ---- A whole run

-- The text is that of the verdicts of a run of the lanes that copy the list's files. The log of the link that was put
-- back shows VERSION and the run's journal. Each handle was closed exactly as often as it was granted. If the replies
-- are those of a file machine, the reports on files are true.
pub record IsShown (last : Option LastLink) (schedule : Schedule) (list : CopyList) (text : List ℕ) : Type 0 where
  pub extensions : Extensions
  pub past : List Entry
  pub link : LastLink
  pub back : last ≡ Some link
  pub run : IsRun (setting_of (lanes_of schedule.width list.jobs) list.script.options extensions past)
      (turns_of schedule.width schedule.rounds list.jobs) past
  pub shown : ShowsExchange (version_reply_of extensions) past [] link.log
  pub closed : AreClosed past
  pub copies : CopiesServed list.jobs past (verdicts_in schedule list.jobs past)
  pub is : text ≡ verdict_lines list.jobs (verdicts_in schedule list.jobs past)

-- ---- Any run

-- The text that is right for a run over a link: that of its verdicts, or the error that stopped it.
abbrev pub RunsOver : Schedule → Option LastLink → CopyList → Answered → List ℕ → Type 0
RunsOver schedule last list Done text = IsShown last schedule list text
RunsOver schedule last list Stopped text = IsStopped (session_inputs (lanes_of schedule.width list.jobs)
    list.script.options)
    (turns_of schedule.width schedule.rounds list.jobs) last text
RunsOver schedule last list Refused text = ⊥
