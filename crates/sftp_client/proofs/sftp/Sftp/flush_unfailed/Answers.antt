use Rattle.std.proofs.Common.{rules}
use Rattle.sftp_client.proofs.Opening.{flushed_after}
use Rattle.sftp_client.proofs.sftp.Sftp.flush_unfailed.Goals as goal

pub returns : goal.returns
returns g c = flushed_after g.L.LinkState.state c.args.self.now c.send_rest.new.self c.put_out.new.self
    c.send_rest-2.new.self
    c.send_rest-2.result c.in_ok-send_rest.ensures (search rules) c.send_rest-2.ensures
