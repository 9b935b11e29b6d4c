-- believed
-- The server that copies of files leave.
use Rattle.std.specs.Prelude.{◌⊎◌, []}
use Rattle.sftp_model.specs.declared.error.Error.TheVariants as error
use Rattle.session_driver.specs.Logs.{EndsSession}
use Rattle.sftp_lanes.specs.Seen.{session_inputs}
use Rattle.sftp_map_server.specs.Serving.{Serving}
use Rattle.program_shell.specs.Ended.{IsServerOf}
use Rattle.mirror_jobs.specs.JobLanes.{lanes_of, turns_of}
use Rattle.sftp_mirror.specs.Printed.{IsServedCopy}
use Rattle.sftp_mirror.specs.declared.copy.CopyReport.{CopyReport}
use Rattle.sftp_mirror.specs.declared.list.CopyList.{CopyList}
use Rattle.sftp_mirror.specs.declared.schedule.Schedule.{Schedule}

-- The server was made of the list's lines of setup. A run of the lanes that copy the files ended with a report, or
-- stopped because an allocation failed. The server's log shows that run, and nothing after it.
pub record LeavesServer (schedule : Schedule) (list : CopyList) (server : Serving) : Type 0 where
  pub first : IsServerOf list.script server
  pub ran : ((report : CopyReport) × IsServedCopy schedule list.jobs list.script.options server report)
      ⊎ EndsSession (session_inputs (lanes_of schedule.width list.jobs) list.script.options)
      (turns_of schedule.width schedule.rounds list.jobs) server.ended error.OutOfMemory [] server.log
