-- believed
-- The files that a whole run of lanes reads and leaves.
use Rattle.std.specs.Prelude.{List}
use Rattle.sftp_model.specs.declared.config.Choice.{Choice}
use Rattle.sftp_model.specs.declared.config.ServerConfig.{ServerConfig}
use Rattle.sftp_model.specs.declared.outcome.Outcome.{Outcome}
use Rattle.machine_model.specs.FileTree.{FileTree}
use Rattle.plan_model.specs.declared.call.Lane.{Lane}
use Rattle.session_model.specs.declared.entry.Entry.{Entry}
use Rattle.session_model.specs.Calls.{Setting}
use Rattle.run_laws.specs.FlushesWrites.{FlushesWrites}
use Rattle.run_laws.specs.LeavesFiles.{LeavesFiles}
use Rattle.run_laws.specs.ListsDirectories.{ListsDirectories}
use Rattle.run_laws.specs.ReadsBack.{ReadsBack}
use Rattle.run_laws.specs.ReadsFlushed.{ReadsFlushed}

-- The files that a whole run of lanes reads and leaves, over a file machine that had this tree at first, under these
-- choices.
pub record KeepsFiles (lanes : List Lane) (config : ServerConfig) (choices : List Choice) (tree : FileTree)
    (s : Setting) (past : List Entry) (left : FileTree) (outcomes : List (List Outcome)) : Type 0 where
  pub reads_back : ReadsBack lanes choices tree outcomes
  pub reads_flushed : ReadsFlushed lanes choices outcomes
  pub leaves : LeavesFiles lanes tree left outcomes
  pub lists : ListsDirectories lanes config choices tree s past outcomes
  pub flushes : FlushesWrites lanes config choices tree s past left outcomes
