use Rattle.std.proofs.Common.{ap, false}
use Rattle.ssh_channel.specs.Channels.{SshChannelState}
use Rattle.ssh_channel.proofs.Calls.{has_sent, send_did}
use Rattle.ssh_channel.proofs.channel.SshChannelLinkOut.send.Goals as goal

pub returns-clause-sends : goal.returns-clause-sends
returns-clause-sends g c =
    let new : SshChannelState g.row.L.Denot = record {
      link = c.self.inside.link;
      buffer = c.self.inside.buffer.items;
      channel = c.self.inside.state;
      refusal = c.self.inside.refusal;
      faults = c.self.inside.faults;
      ended = false;
    }
    in
    has_sent g.L.LinkState.state c.args.bytes.now c.args.self.now c.wait_and_send-sent.new.self new
    c.wait_and_send-sent.result
    c.wait_and_send-sent.ensures.sends c.wait_and_send-sent.ensures.keeps
    (ap (λ (k : SshChannelState g.row.L.Denot). record k { ended = false }) c.self.view_is)

pub returns-clause-did : goal.returns-clause-did
returns-clause-did g c =
    let new : SshChannelState g.row.L.Denot = record {
      link = c.self.inside.link;
      buffer = c.self.inside.buffer.items;
      channel = c.self.inside.state;
      refusal = c.self.inside.refusal;
      faults = c.self.inside.faults;
      ended = false;
    }
    in
    send_did g.L.LinkState.state c.args.bytes.now c.args.self.now c.wait_and_send-sent.new.self new
    c.wait_and_send-sent.result
    c.wait_and_send-sent.ensures.sends c.wait_and_send-sent.ensures.keeps c.wait_and_send-sent.ensures.fails
    (ap (λ (k : SshChannelState g.row.L.Denot). record k { ended = false }) c.self.view_is)
