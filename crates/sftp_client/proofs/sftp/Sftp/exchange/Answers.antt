use Rattle.sftp_client.proofs.Opening.{exchanged}
use Rattle.sftp_client.proofs.sftp.Sftp.exchange.Goals as goal

pub returns : goal.returns
returns g c = exchanged g.L.LinkState.state c.args.self.now c.flush_unfailed.new.self c.take_frame.new.self
    c.in_ok-flush_unfailed.field-0
    c.take_frame.result c.in_ok-flush_unfailed.ensures c.take_frame.ensures
