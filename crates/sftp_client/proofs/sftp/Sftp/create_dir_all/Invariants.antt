use Rattle.std.proofs.Common.{Ok}
use Rattle.sftp_client.specs.CreatedDirs.{MakesDirs}
use Rattle.sftp_client.specs.DirPaths.{dirs_before}
use Rattle.sftp_client.proofs.sftp.Sftp.create_dir_all.Given as goal

abbrev pub invariant-loop-end : goal.invariant-loop-end
invariant-loop-end g l = MakesDirs g.L.LinkState.state (dirs_before l.fn.path l.end) l.fn.self l.self (Ok tt)
