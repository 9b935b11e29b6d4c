use Rattle.std.proofs.Common.{refl}
use Rattle.sftp_client.proofs.DirCalling.{dir_let_off}
use Rattle.sftp_client.proofs.sftp.Sftp.release_dir.Goals as goal

pub returns : goal.returns
returns g c =
    dir_let_off c.args.listing c.args.self.now _ _ c.start_close.new.core c.start_close.result c.requires
    c.self.view_is c.start_close.ensures c.cancel.ensures refl
