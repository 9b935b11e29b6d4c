use Rattle.std.proofs.Common.{◌≤◌, [], ◌∷◌, length, take, refl, sym, subst}
use Rattle.std.specs.Prelude.{Ok}
use Rattle.std.proofs.lemmas.Result.{on_ok_weaker}
use Rattle.ssh_encoding.specs.Writing.{string}
use Rattle.sftp_link.specs.Told.{GotAll, IfLogged}
use Rattle.ssh_channel.specs.Channels.{AdjustsWindow, SshChannelState}
use Rattle.ssh_channel.proofs.Exchanges.{receives_one}
use Rattle.ssh_channel.proofs.channel.SshChannel.exchange.Goals as goal

pub returns-in-Ok-Whole-clause-receives : goal.returns-in-Ok-Whole-clause-receives
returns-in-Ok-Whole-clause-receives g c =
    let mid : SshChannelState g.row.L.Denot = record {
      link = c.self.inside.link;
      buffer = c.self.inside.buffer.items;
      channel = c.self.inside.state;
      refusal = c.self.inside.refusal;
      faults = c.self.inside.faults;
      ended =
          c.self.inside.ended;
    } in
    let got : SshChannelState g.row.L.Denot = record {
      link = c.next_packet.new.link;
      buffer =
          c.next_packet.new.buffer.items;
      channel = c.self.inside.state;
      refusal = c.self.inside.refusal;
      faults =
          c.self.inside.faults;
      ended = c.self.inside.ended;
    } in
    let adjusted : AdjustsWindow g.L.LinkState.state c.args.self.now mid (Ok tt) =
    subst (λ (k : SshChannelState g.row.L.Denot). AdjustsWindow g.L.LinkState.state c.args.self.now k (Ok tt))
    (sym c.self.view_is) c.in-Ok.ensures.adjusts in
    let came : (c.in-Ok-Whole.n ≤ length c.next_packet.new.buffer.items)
    × IfLogged (GotAll (string (take c.in-Ok-Whole.n c.next_packet.new.buffer.items)))
    (g.L.LinkState.state c.self.inside.link).log
    (g.L.LinkState.state c.next_packet.new.link).log = rw c.in-Ok-Whole.field-0-is at c.in-Ok-Whole.ensures.log in
    on_ok_weaker c.answer_body.result
    (λ answers. (
      take c.in-Ok-Whole.n c.next_packet.new.buffer.items ∷ [],
      receives_one g.L.LinkState.state c.in-Ok-Whole.n c.args.self.now mid got c.answer_body.new.self adjusted.log
          adjusted.left came.1 refl answers c.requires.usable,
    ))
    c.answer_body.ensures.answers
