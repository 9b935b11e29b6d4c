use Rattle.std.proofs.Common.{refl}
use Rattle.sftp_client.proofs.WholeWaiting.{finished_copy}
use Rattle.sftp_client.proofs.sftp.Sftp.finish_copy.Goals as goal

pub returns : goal.returns
returns g c =
    finished_copy g.L.LinkState.state c.args.self.now c.wait_copy-answer.new.self _ _ c.args.call
    c.wait_copy-answer.new.call c.args.from.now c.wait_copy-answer.new.from c.args.to.now c.wait_copy-answer.new.to
    c.wait_copy-answer.result c.wait_copy-answer.ensures c.self.view_is c.cancel.ensures refl
