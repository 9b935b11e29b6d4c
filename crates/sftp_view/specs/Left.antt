-- believed
-- The server that a view leaves.
use Rattle.std.specs.Prelude.{◌⊎◌, []}
use Rattle.sftp_model.specs.declared.error.Error.TheVariants as error
use Rattle.session_driver.specs.Logs.{EndsAs}
use Rattle.session_model.specs.Journals.{IsJournal}
use Rattle.sftp_lanes.specs.Seen.{session_inputs}
use Rattle.sftp_map_server.specs.Serving.{Serving}
use Rattle.program_shell.specs.Ended.{IsServerOf}
use Rattle.view_model.specs.declared.cache_size.CacheSize.{CacheSize}
use Rattle.view_model.specs.declared.list.ViewList.{ViewList}
use Rattle.sftp_view.specs.Doings.{one_lane}
use Rattle.sftp_view.specs.Printed.{IsServedView}
use Rattle.sftp_view.specs.declared.run.ViewReport.{ViewReport}

-- The server was made of the list's lines of setup. The session over it ended with a report, or stopped because an
-- allocation failed. Its log shows that session, and nothing after it.
pub record LeavesServer (size : CacheSize) (list : ViewList) (server : Serving) : Type 0 where
  pub first : IsServerOf list.script server
  pub ran : ((report : ViewReport) × IsServedView size list.ops list.script.options server report)
      ⊎ EndsAs (session_inputs one_lane list.script.options) IsJournal server.ended error.OutOfMemory [] server.log
