-- Links to a server of files, according to their logs.
use Rattle.std.specs.Prelude.{List}
use Rattle.sftp_model.specs.declared.config.Choice.{Choice}
use Rattle.sftp_model.specs.declared.config.ServerConfig.{ServerConfig}
use Rattle.sftp_model.specs.declared.flags.Extensions.{Extensions}
use Rattle.machine_model.specs.FileTree.{FileTree}
use Rattle.sftp_model.specs.declared.options.SftpOptions.{SftpOptions}
use Rattle.sftp_link.specs.declared.piece.Piece.{Piece}
use Rattle.plan_model.specs.declared.call.Lane.{Lane}
use Rattle.session_model.specs.declared.entry.Entry.{Entry}
use Rattle.session_model.specs.declared.turn.Turn.{Turn}
use Rattle.session_model.specs.Runs.{IsRun}
use Rattle.session_model.specs.Served.{ServesJournal}
use Rattle.session_model.specs.Settings.{version_reply_of, setting_of}
use Rattle.session_model.specs.Shown.{ShowsExchange}

-- A link served files from one tree to another, under these choices: for each run of the lanes that its log shows since
-- it was `before`, the replies are those of the file machine.
abbrev pub ServesFiles : List Lane → SftpOptions → ServerConfig → List Choice → FileTree → FileTree → List Piece
    → List Piece → Type 0
ServesFiles lanes options config choices tree left before log =
    (extensions : Extensions) (turns : List Turn) (past : List Entry)
    → IsRun (setting_of lanes options extensions past) turns past
    → ShowsExchange (version_reply_of extensions) past before log → ServesJournal config choices tree past left
