use Rattle.std.proofs.Common.{refl}
use Rattle.sftp_client.proofs.WholeWaiting.{finished_read}
use Rattle.sftp_client.proofs.sftp.Sftp.finish_read.Goals as goal

pub returns : goal.returns
returns g c =
    finished_read g.L.LinkState.state c.args.self.now c.wait_read-answer.new.self _ _ c.args.call
    c.wait_read-answer.new.call c.wait_read-answer.result c.wait_read-answer.ensures c.self.view_is c.cancel.ensures
    refl
