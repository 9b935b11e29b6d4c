use Rattle.std.proofs.Common.{◌≡◌, ◌∙◌, length, arith}
use Rattle.ssh_channel.proofs.ReceivedPackets.{comes_so, comes_whole}
use Rattle.ssh_channel.proofs.packets.next_packet.Goals as goal

pub returns : goal.returns
returns g c =
    let len : length c.fill_start.new.buffer ≡ c.args.buffer.now.len =
    omega (arith, c.fill_start.auto.buffer, c.as_mut_slice.ensures.len) in
    comes_so c.recv_exact.new.room c.fill_start.new.buffer c.args.buffer.now.items c.args.buffer.now.len
    c.length_of-len.result
    (g.L.LinkState.state c.args.link.now) (g.L.LinkState.state c.recv_exact.new.link)
    (g.L.LinkState.state c.fill_start.new.link) len
    (comes_whole c.recv_exact.new.room c.fill_start.new.buffer c.length_of-len.result
    (g.L.LinkState.state c.args.link.now)
    (g.L.LinkState.state c.recv_exact.new.link) (g.L.LinkState.state c.fill_start.new.link)
    (omega (arith, c.recv_exact.auto.room))
    c.length_of-len.ensures.bytes
    c.length_of-len.ensures.number
    (omega (arith, len, c.if-len.false, c.len.ensures))
    (rw c.if-not-branch.false at c.in_ok-recv_exact.ensures.log)
    (rw c.if-not-branch-2.false at c.in_ok-fill_start.ensures.log)
    (c.in_ok-fill_start.ensures.cause ∙ c.in_ok-recv_exact.ensures.cause)
    (c.in_ok-fill_start.ensures.same ∙ c.in_ok-recv_exact.ensures.same))
