use Rattle.sftp_fs.proofs.DirectoryLaws.{opens_from}
use Rattle.sftp_fs.proofs.fs.Fs.start_open_dir.Goals as goal

pub returns : goal.returns
returns c =
    opens_from c.args.path.now c.args.self.now _ _ c.args.core.now c.ask.new.core c.ask.result c.in_ok-path.ensures.path
    c.ask.ensures
