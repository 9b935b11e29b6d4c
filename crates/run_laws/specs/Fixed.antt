-- Runs of a session over files in memory, of which everything is given except the ids of requests.
use Rattle.std.specs.Prelude.{ℕ, List}
use Rattle.sftp_model.specs.declared.options.SftpOptions.{SftpOptions}
use Rattle.sftp_model.specs.declared.config.Choice.{Choice}
use Rattle.sftp_model.specs.declared.config.ServerConfig.{ServerConfig}
use Rattle.sftp_model.specs.declared.flags.Extensions.{Extensions}
use Rattle.machine_model.specs.FileTree.{FileTree}
use Rattle.plan_model.specs.declared.call.Lane.{Lane}
use Rattle.session_model.specs.declared.entry.Entry.{Entry}
use Rattle.session_model.specs.declared.turn.Turn.{Turn}
use Rattle.session_model.specs.Runs.{IsRun}
use Rattle.session_model.specs.Served.{ServesJournal, IsPicked, IsNumbered}
use Rattle.session_model.specs.Settings.{setting_of}

-- A run of these lanes under these turns. A machine with this configuration serves it under these choices, from the
-- first tree to the last one. The replies come in the order of the picks, and the handles are numbered by the grants.
pub record IsFixedBy (lanes : List Lane) (options : SftpOptions) (extensions : Extensions) (turns : List Turn)
    (config : ServerConfig)
    (choices : List Choice) (picks : List ℕ) (first : FileTree) (past : List Entry) (left : FileTree) : Type 0 where
  pub run : IsRun (setting_of lanes options extensions past) turns past
  pub served : ServesJournal config choices first past left
  pub picked : IsPicked picks past
  pub numbered : IsNumbered past
