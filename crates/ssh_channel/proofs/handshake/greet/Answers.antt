use Rattle.std.proofs.Common.{◌∙◌, ℕ, List, take, subst}
use Rattle.ssh_channel.specs.Handshakes.{BeginsWith, SendsPacket}
use Rattle.ssh_channel.specs.Numbers.{MUX_MSG_HELLO, MUX_S_PROXY, MUX_VERSION}
use Rattle.ssh_channel.proofs.Openings.{greets}
use Rattle.ssh_channel.proofs.handshake.greet.Goals as goal

pub returns : goal.returns
returns g c =
    greets c.next_body.new.buffer.items c.next_body-2.new.buffer.items c.in_ok-n.n c.in_ok-n-2.n
    c.in_ok-check_proxy.field-0
    (g.L.LinkState.state c.args.link.now) (g.L.LinkState.state c.send_packet.new.link)
    (g.L.LinkState.state c.next_body.new.link) (g.L.LinkState.state c.send_packet-2.new.link)
    (g.L.LinkState.state c.next_body-2.new.link)
    (subst (λ (w : List ℕ). SendsPacket w (g.L.LinkState.state c.args.link.now)
    (g.L.LinkState.state c.send_packet.new.link)) (c.deref.ensures.value ∙ c.in_ok-hello.ensures)
    c.in_ok-send_packet.ensures)
    c.in_ok-n.ensures
    (subst (λ (w : List ℕ). BeginsWith MUX_MSG_HELLO MUX_VERSION (take c.in_ok-n.n w)) c.deref-2.ensures.value
    c.in_ok-check_hello.ensures)
    (subst (λ (w : List ℕ). SendsPacket w (g.L.LinkState.state c.next_body.new.link)
    (g.L.LinkState.state c.send_packet-2.new.link)) (c.deref-3.ensures.value ∙ c.in_ok-proxy.ensures)
    c.in_ok-send_packet-2.ensures)
    c.in_ok-n-2.ensures
    (subst (λ (w : List ℕ). BeginsWith MUX_S_PROXY c.in_ok-check_proxy.field-0 (take c.in_ok-n-2.n w))
    c.deref-4.ensures.value c.in_ok-check_proxy.ensures)
