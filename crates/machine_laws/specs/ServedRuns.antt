-- believed
-- Runs over a server of files and directories.
use Rattle.std.specs.Prelude.{List}
use Rattle.machine_model.specs.FileTree.{FileTree}
use Rattle.session_model.specs.declared.entry.Entry.{Entry}
use Rattle.session_model.specs.Served.{IsNumbered, IsPicked, ServesJournal}
use Rattle.sftp_map_server.specs.Serving.{Server}

-- The replies of a whole run's journal are those of one sequential run of the file machine, which grants the handles 0,
-- 1, 2 and so on, and is left with this tree. They were taken in the order of the picks.
pub record IsServedRun (first : Server) (past : List Entry) (left : FileTree) : Type 0 where
  pub serves : ServesJournal first.state.machine.config first.state.choices first.state.machine.tree past left
  pub by_picks : IsPicked first.output.picks past
  pub numbered : IsNumbered past
