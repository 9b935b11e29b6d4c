use Rattle.std.proofs.Common.{refl}
use Rattle.sftp_client.proofs.Moving.{finished_on}
use Rattle.sftp_client.proofs.sftp.Sftp.finish_on.Goals as goal

pub returns : goal.returns
returns g c =
    finished_on g.M.PlanRunner.meaning g.M.OnFile.file g.L.LinkState.state c.args.self.now c.wait_on-answer.new.self _ _
    c.args.call
    c.wait_on-answer.new.call c.args.file.now c.wait_on-answer.new.file c.wait_on-answer.result c.wait_on-answer.ensures
    c.self.view_is c.cancel.ensures refl
