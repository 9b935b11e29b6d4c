use Rattle.ssh_channel.proofs.Calls.{fails_on, sends_after}
use Rattle.ssh_channel.proofs.channel.SshChannel.wait_and_send.Goals as goal

pub returns-clause-sends : goal.returns-clause-sends
returns-clause-sends g c =
    sends_after g.L.LinkState.state c.args.bytes.now c.args.self.now c.wait_for.new.self c.send_message.new.self
    c.send_message.result
    (rw c.in-Ok.is at c.wait_for.ensures.receives) c.send_message.ensures.sends

pub returns-clause-fails : goal.returns-clause-fails
returns-clause-fails g c =
    fails_on g.L.LinkState.state c.args.self.now c.wait_for.new.self c.send_message.new.self c.send_message.result
    (rw c.in-Ok.is at c.wait_for.ensures.receives) c.send_message.ensures.fails
