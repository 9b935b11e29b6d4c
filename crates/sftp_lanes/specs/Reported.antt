-- believed
-- The report of a whole run of lanes.
use Rattle.std.specs.Prelude.{◌≡◌, List, length, Option, Some}
use Rattle.sftp_model.specs.declared.config.Choice.{Choice}
use Rattle.sftp_model.specs.declared.config.ServerConfig.{ServerConfig}
use Rattle.sftp_model.specs.declared.flags.Extensions.{Extensions}
use Rattle.machine_model.specs.Changes.{IsWellFormed}
use Rattle.machine_model.specs.FileTree.{FileTree}
use Rattle.sftp_model.specs.declared.options.SftpOptions.{SftpOptions}
use Rattle.sftp_link.specs.declared.piece.Piece.{Piece}
use Rattle.sftp_link.specs.Told.{IfLogged}
use Rattle.plan_model.specs.declared.call.Lane.{Lane}
use Rattle.session_model.specs.declared.entry.Entry.{Entry}
use Rattle.session_model.specs.declared.report.Report.{Report}
use Rattle.session_model.specs.declared.turn.Turn.{Turn}
use Rattle.session_model.specs.Calls.{Setting}
use Rattle.session_model.specs.Closes.{AreClosed}
use Rattle.session_model.specs.Readings.{outcomes_below, trace_of}
use Rattle.session_model.specs.Runs.{IsRun}
use Rattle.session_model.specs.Served.{ServesJournal}
use Rattle.session_model.specs.Settings.{version_reply_of, setting_of}
use Rattle.session_model.specs.Shown.{ShowsExchange}
use Rattle.run_laws.specs.KeepsFiles.{KeepsFiles}

-- If the replies are those of a file machine, the bytes that were written are read back and remain.
abbrev pub KeepsServed : List Lane → Setting → List Entry → Type 0
KeepsServed lanes s past =
    (config : ServerConfig) (choices : List Choice) (tree left : FileTree) → IsWellFormed tree
    → ServesJournal config choices tree past left
    → KeepsFiles lanes config choices tree s past left (outcomes_below past (length lanes))

-- The report is that of a run of the lanes under these turns, which the link's log shows if it reports one. Each handle
-- was closed exactly as often as it was granted. If the replies are those of a file machine, the bytes that were
-- written are read back and remain.
pub record IsReport (lanes : List Lane) (options : SftpOptions) (schedule : List Turn)
    (before after : Option (List Piece)) (report : Report) : Type 0 where
  pub extensions : Extensions
  pub past : List Entry
  pub run : IsRun (setting_of lanes options extensions past) schedule past
  pub hello : report.hello ≡ Some (version_reply_of extensions)
  pub trace : report.trace ≡ trace_of past
  pub outcomes : report.outcomes ≡ outcomes_below past (length lanes)
  pub closed : AreClosed past
  pub log : IfLogged (ShowsExchange (version_reply_of extensions) past) before after
  pub files : KeepsServed lanes (setting_of lanes options extensions past) past
