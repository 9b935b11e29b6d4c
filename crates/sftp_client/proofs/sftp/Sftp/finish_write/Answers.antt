use Rattle.std.proofs.Common.{refl}
use Rattle.sftp_client.proofs.WriteWaiting.{finished_write}
use Rattle.sftp_client.proofs.sftp.Sftp.finish_write.Goals as goal

pub returns : goal.returns
returns g c =
    finished_write g.L.LinkState.state c.args.self.now c.wait_write-answer.new.self _ _ c.args.call
    c.wait_write-answer.new.call c.wait_write-answer.result c.wait_write-answer.ensures c.self.view_is c.cancel.ensures
    refl
