use Rattle.std.proofs.Common.{refl}
use Rattle.sftp_client.proofs.HandleCalling.{file_let_off}
use Rattle.sftp_client.proofs.sftp.Sftp.release_file.Goals as goal

pub returns : goal.returns
returns g c =
    file_let_off c.args.file c.args.self.now _ _ c.start_close.new.core c.start_close.result c.requires
    c.self.view_is c.start_close.ensures c.cancel.ensures refl
