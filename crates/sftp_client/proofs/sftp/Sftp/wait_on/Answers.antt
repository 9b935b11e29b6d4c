use Rattle.std.proofs.Common.{rules}
use Rattle.sftp_client.proofs.Moving.{moved_by}
use Rattle.sftp_client.proofs.sftp.Sftp.wait_on.Goals as goal

pub returns : goal.returns
returns g c =
    record {
      waited = c.run-value.ensures;
      moved = moved_by g.M.PlanRunner.meaning g.M.OnFile.file (search rules) g.L.LinkState.state c.args.self.now
          c.run-value.new.self
          c.args.call.now c.run-value.new.call c.args.file.now c.stand.new.self c.run-value.result c.requires.may.stands
          (search rules) c.run-value.ensures;
    }
