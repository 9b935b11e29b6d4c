use Rattle.std.proofs.Common.{refl, subst, false, None}
use Rattle.ssh_channel.specs.Channels.{SshChannelState}
use Rattle.ssh_channel.specs.Handshakes.{StartsSubsystem}
use Rattle.ssh_channel.proofs.Openings.{opens}
use Rattle.ssh_channel.proofs.handshake.open.Goals as goal

pub returns : goal.returns
returns g c =
    let fresh : SshChannelState g.row.L.Denot = record {
      link = c.open_session.new.link;
      buffer = c.open_session.new.buffer.items;
      channel = c.in_ok-state.state;
      refusal = None;
      faults = 0;
      ended = false;
    } in
    opens g.L.LinkState.state c.args.subsystem.now c.args.link c.greet.new.link fresh c.start_subsystem.new.channel
    c.in_ok-greet.ensures c.in_ok-state.ensures (refl, refl, refl)
    (subst (λ (k : SshChannelState g.row.L.Denot). StartsSubsystem g.L.LinkState.state c.args.subsystem.now k
    c.start_subsystem.new.channel) c.new-channel.ensures c.in_ok-start_subsystem.ensures)
