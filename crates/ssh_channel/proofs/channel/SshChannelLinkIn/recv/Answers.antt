use Rattle.std.proofs.Common.{◌≡◌, ◌∙◌, ap, true, arith, refl, sym, subst}
use Rattle.std.specs.Prelude.{nat_eq}
use Rattle.ssh_channel.specs.ChannelStates.{meets_condition}
use Rattle.ssh_channel.specs.declared.condition.Condition.TheVariants.{Readable}
use Rattle.ssh_channel.specs.Channels.{ReceivesSome, SshChannelState}
use Rattle.ssh_channel.proofs.Calls.{is_ended, is_readable, returns_bytes}
use Rattle.ssh_channel.proofs.channel.SshChannelLinkIn.recv.Goals as goal

pub returns-in-Ok-clause-did : goal.returns-in-Ok-clause-did
returns-in-Ok-clause-did g c =
    let mid : SshChannelState g.row.L.Denot = record {
      link = c.self.inside.link;
      buffer = c.self.inside.buffer.items;
      channel = c.self.inside.state;
      refusal = c.self.inside.refusal;
      faults = c.self.inside.faults;
      ended = c.self.inside.ended;
    } in
    returns_bytes g.L.LinkState.state c.give-n.new.room c.args.self.now mid _ c.give-n.new.self
    (nat_eq c.give-n.result 0) c.give-n.result (omega (arith, c.requires.some, c.give-n.auto.room))
    (subst (λ (k : SshChannelState g.row.L.Denot). ReceivesSome g.L.LinkState.state c.args.self.now k)
    (sym c.self.view_is) c.in-Ok.ensures.receives)
    (is_ended c.self.inside.state (subst (λ (k : SshChannelState g.row.L.Denot). meets_condition Readable k.channel
    ≡ true) (sym c.self.view_is) c.in-Ok.ensures.met))
    c.give-n.ensures refl

pub returns-in-Ok-clause-first : goal.returns-in-Ok-clause-first
returns-in-Ok-clause-first g c = λ some. ap (λ (k : SshChannelState g.row.L.Denot). k.link)
    (c.self.view_is ∙ c.wait_for.ensures.early (is_readable c.args.self.now.channel some))

pub returns-in-Err-clause-first : goal.returns-in-Err-clause-first
returns-in-Err-clause-first g c = λ some. ap (λ (k : SshChannelState g.row.L.Denot). k.link)
    (c.self.view_is ∙ c.wait_for.ensures.early (is_readable c.args.self.now.channel some))
