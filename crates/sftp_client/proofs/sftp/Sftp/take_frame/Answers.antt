use Rattle.sftp_client.proofs.Taking.{whole_taken}
use Rattle.sftp_client.proofs.sftp.Sftp.take_frame.Goals as goal

pub returns : goal.returns
returns g c = whole_taken g.L.LinkState.state c.args.self.now c.pull.new.self c.take_pulled.new.self
    c.in_ok-pull.field-0
    c.take_pulled.result c.requires.sent c.in_ok-pull.ensures c.take_pulled.ensures
