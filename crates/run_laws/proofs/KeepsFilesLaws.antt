-- What whole runs of lanes give of files and leave of them, over a file machine.
use Rattle.std.specs.Prelude.{List, length}
use Rattle.sftp_model.specs.declared.options.SftpOptions.{SftpOptions}
use Rattle.sftp_model.specs.declared.config.Choice.{Choice}
use Rattle.sftp_model.specs.declared.config.ServerConfig.{ServerConfig}
use Rattle.sftp_model.specs.declared.flags.Extensions.{Extensions}
use Rattle.machine_model.specs.Changes.{IsWellFormed}
use Rattle.machine_model.specs.FileTree.{FileTree}
use Rattle.plan_model.specs.declared.call.Lane.{Lane}
use Rattle.session_model.specs.declared.entry.Entry.{Entry}
use Rattle.session_model.specs.declared.turn.Turn.{Turn}
use Rattle.session_model.specs.Readings.{outcomes_below}
use Rattle.session_model.specs.Runs.{IsRun}
use Rattle.session_model.specs.Served.{ServesJournal}
use Rattle.session_model.specs.Settings.{setting_of}
use Rattle.run_laws.specs.KeepsFiles.{KeepsFiles}
use Rattle.run_laws.proofs.ListsFlushes.{run_flushes_writes, run_lists_directories}
use Rattle.run_laws.proofs.ReadsBackLaws.{run_leaves_files, run_reads_back, run_reads_flushed}

pub run_keeps_files : (lanes : List Lane) (options : SftpOptions) (extensions : Extensions) (turns : List Turn)
    (past : List Entry) (config : ServerConfig) (choices : List Choice) (tree left : FileTree)
    → IsRun (setting_of lanes options extensions past) turns past
    → IsWellFormed tree → ServesJournal config choices tree past left
    → KeepsFiles lanes config choices tree (setting_of lanes options extensions past) past left
    (outcomes_below past (length lanes))
run_keeps_files lanes options extensions turns past config choices tree left run well served =
    record {
      reads_back = run_reads_back lanes options extensions turns past config choices tree left run well served;
      reads_flushed = run_reads_flushed lanes options extensions turns past config choices tree left run well served;
      leaves = run_leaves_files lanes options extensions turns past config choices tree left run well served;
      lists = run_lists_directories lanes options extensions turns past config choices tree left run served;
      flushes = run_flushes_writes lanes options extensions turns past config choices tree left run well;
    }
