use Rattle.std.proofs.Common.{◌≡◌, ◌<◌, true, ◌+◌, ℕ, List, ◌++◌}
use Rattle.ssh_channel.specs.ChannelStates.{meets_condition}
use Rattle.ssh_channel.specs.Channels.{ReceivesSome}
use Rattle.ssh_channel.proofs.channel.SshChannel.wait_for.Given as goal

abbrev pub invariant-loop-left : goal.invariant-loop-left
invariant-loop-left g l = record {
  early : meets_condition l.condition l.initial.self.channel ≡ true → (l.self ≡ l.initial.self) × (0 < l.left);
  received : ReceivesSome g.L.LinkState.state l.initial.self l.self;
  faults : (g.L.LinkState.state l.self.link).faults + l.self.faults
      ≡ (g.L.LinkState.state l.initial.self.link).faults + l.initial.self.faults;
  same : (g.L.LinkState.state l.self.link).service ≡ (g.L.LinkState.state l.initial.self.link).service;
  ahead : (more : List ℕ) × (l.self.channel.ahead ≡ l.initial.self.channel.ahead ++ more);
}

abbrev pub decreases-loop-left : goal.decreases-loop-left
decreases-loop-left g l = l.left
