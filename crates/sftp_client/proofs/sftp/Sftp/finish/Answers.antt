use Rattle.std.proofs.Common.{refl}
use Rattle.sftp_client.proofs.Waiting.{finished}
use Rattle.sftp_client.proofs.sftp.Sftp.finish.Goals as goal

pub returns : goal.returns
returns g c =
    finished g.M.PlanRunner.meaning g.L.LinkState.state c.args.self.now c.run-answer.new.self _ _ c.args.call
    c.run-answer.new.call c.run-answer.result c.run-answer.ensures c.self.view_is c.cancel.ensures refl
