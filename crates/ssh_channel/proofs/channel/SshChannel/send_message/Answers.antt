use Rattle.std.proofs.Common.{◌≡◌, ◌<◌, ◌∙◌, ℕ, take, ap, sym, refl, arith}
use Rattle.ssh_channel.specs.Channels.{SshChannelState}
use Rattle.ssh_channel.specs.Messages.{data_message, packet}
use Rattle.ssh_channel.specs.ChannelStates.{ChannelData}
use Rattle.ssh_channel.proofs.Calls.{sends_one}
use Rattle.ssh_channel.proofs.channel.SshChannel.send_message.Goals as goal

pub returns-clause-sends : goal.returns-clause-sends
returns-clause-sends g c =
    let mid : SshChannelState g.row.L.Denot = record {
      link = c.self-2.inside.link;
      buffer =
          c.self-2.inside.buffer.items;
      channel = c.self-2.inside.state;
      refusal = c.self-2.inside.refusal;
      faults =
          c.self-2.inside.faults;
      ended = c.self-2.inside.ended;
    } in
    let win : c.self.inside.state.window ≡ c.args.self.now.channel.window =
    ap (λ (k : SshChannelState g.row.L.Denot). k.channel.window) c.self.view_is in
    let longest : c.self.inside.state.max_packet ≡ c.args.self.now.channel.max_packet =
    ap (λ (k : SshChannelState g.row.L.Denot). k.channel.max_packet) c.self.view_is in
    let number : c.peer_number-number.result ≡ c.args.self.now.channel.peer_number = c.peer_number-number.ensures
    ∙ ap (λ (k : SshChannelState g.row.L.Denot). k.channel.peer_number) c.self.view_is in
    let some : 0 < c.self.inside.state.window = omega (arith, win, c.requires.writable.window) in
    sends_one g.L.LinkState.state c.args.bytes.now c.deref.result.now c.args.self.now c.args.self.now
    c.send_whole.new.self mid _ c.min-n.result c.in-Ok-send_whole.ensures c.requires.writable.unclosed (
      omega (arith, c.requires.writable.some, c.send_limit-most.ensures.some some, c.min-n.ensures),
      omega (arith, c.min-n.ensures),
    )
    (omega (arith, win, c.send_limit-most.ensures.window, c.min-n.ensures)) (
      omega (arith, longest, c.send_limit-most.ensures.most.0, c.min-n.ensures),
      omega (arith, c.send_limit-most.ensures.most.1, c.min-n.ensures),
    )
    (c.deref.ensures.value ∙ (c.in-Ok.ensures ∙ ap (λ (x : ℕ). packet
    (data_message x (take c.min-n.result c.args.bytes.now))) number))
    (ap (λ (t : ChannelData). record mid { channel = t }) c.spend_window.ensures)
    refl
    (sym c.self-2.view_is)
