use Rattle.std.proofs.Common.{◌∙◌, ℕ, List, take, subst}
use Rattle.std.specs.Prelude.{IfOk}
use Rattle.ssh_channel.specs.Handshakes.{ConfirmsSession, SendsPacket}
use Rattle.ssh_channel.proofs.Openings.{opens_session}
use Rattle.ssh_channel.proofs.handshake.open_session.Goals as goal

pub returns : goal.returns
returns g c =
    opens_session c.next_body.new.buffer.items c.in_ok-n.n (g.L.LinkState.state c.args.link.now)
    (g.L.LinkState.state c.send_packet.new.link) (g.L.LinkState.state c.next_body.new.link) c.read_confirmation.result
    (subst (λ (w : List ℕ). SendsPacket w (g.L.LinkState.state c.args.link.now)
    (g.L.LinkState.state c.send_packet.new.link)) (c.deref.ensures.value ∙ c.in_ok-request.ensures)
    c.in_ok-send_packet.ensures)
    c.in_ok-n.ensures
    (subst (λ (w : List ℕ). IfOk c.read_confirmation.result (λ channel. ConfirmsSession (take c.in_ok-n.n w) channel))
    c.deref-2.ensures.value c.read_confirmation.ensures)
