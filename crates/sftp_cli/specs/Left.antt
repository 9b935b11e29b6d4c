-- believed
-- The server that a run of a script leaves.
use Rattle.std.specs.Prelude.{◌⊎◌, []}
use Rattle.sftp_model.specs.declared.error.Error.TheVariants as error
use Rattle.session_model.specs.declared.report.Report.{Report}
use Rattle.session_driver.specs.Logs.{EndsSession}
use Rattle.sftp_lanes.specs.Seen.{session_inputs}
use Rattle.sftp_map_server.specs.Serving.{Serving}
use Rattle.script_grammar.specs.declared.script.Script.{Script}
use Rattle.program_shell.specs.Ended.{IsServerOf}
use Rattle.sftp_cli.specs.Printed.{IsServedReport}

-- The server was made of the script's lines. A run of the script's lanes over it ended with a report, or stopped
-- because an allocation failed. Its log shows that run, and nothing after it.
pub record LeavesServer (script : Script) (server : Serving) : Type 0 where
  pub first : IsServerOf script server
  pub ran : ((report : Report) × IsServedReport script.lanes script.options script.turns server report)
      ⊎ EndsSession (session_inputs script.lanes script.options) script.turns server.ended error.OutOfMemory [] server.log
