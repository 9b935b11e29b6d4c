use Rattle.std.proofs.Common.{◌∙◌, refl, sym}
use Rattle.std.specs.Prelude.{Err}
use Rattle.ssh_channel.proofs.Calls.{ahead_on, exchanged_early, exchanges_on, fails_on}
use Rattle.ssh_channel.proofs.channel.SshChannel.wait_for.Goals as goal

pub loop-left-preserved : goal.loop-left-preserved
loop-left-preserved g c =
    record {
      early = λ met. (exchanged_early c.args.condition c.args.self.now c.loop-left.self
          (record {
            link = c.self.inside.link;
            buffer = c.self.inside.buffer.items;
            channel = c.self.inside.state;
            refusal = c.self.inside.refusal;
            faults = c.self.inside.faults;
            ended = c.self.inside.ended;
          })
          _ c.self.view_is (sym c.meets.ensures ∙ c.if-meets.false) (c.loop-left.invariant.early met).0 met);
      received = exchanges_on g.L.LinkState.state _ _ _ _ c.loop-left.invariant.received
          c.in-Ok.ensures.receives refl;
      faults = c.in-Ok.ensures.keeps.cause ∙ c.loop-left.invariant.faults;
      same = c.in-Ok.ensures.keeps.same ∙ c.loop-left.invariant.same;
      ahead = ahead_on c.args.self.now.channel.ahead c.loop-left.self.channel.ahead
          c.next_exchange.new.self.channel.ahead
          c.loop-left.invariant.ahead.0 c.in-Ok.ensures.keeps.ahead c.loop-left.invariant.ahead.1;
    }

pub returns-in-Err-clause-fails : goal.returns-in-Err-clause-fails
returns-in-Err-clause-fails g c =
    fails_on {T = Unit {0}} g.L.LinkState.state c.args.self.now c.loop-left.self c.next_exchange.new.self (Err c.in-Err.e)
    c.loop-left.invariant.received (rw c.in-Err.is at c.next_exchange.ensures.fails)

pub returns-in-Err-clause-early : goal.returns-in-Err-clause-early
returns-in-Err-clause-early g c = λ met.
    exchanged_early c.args.condition c.args.self.now c.loop-left.self
    (record {
      link = c.self.inside.link;
      buffer = c.self.inside.buffer.items;
      channel = c.self.inside.state;
      refusal = c.self.inside.refusal;
      faults = c.self.inside.faults;
      ended = c.self.inside.ended;
    })
    _ c.self.view_is (sym c.meets.ensures ∙ c.if-meets.false) (c.loop-left.invariant.early met).0 met
