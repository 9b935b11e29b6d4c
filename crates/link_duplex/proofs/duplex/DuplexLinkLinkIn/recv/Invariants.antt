use Rattle.link_duplex.proofs.Receiving.{Turned}
use Rattle.link_duplex.proofs.duplex.DuplexLinkLinkIn.recv.Given as goal

abbrev pub invariant-loop : goal.invariant-loop
invariant-loop g l = Turned g.W.Wire.state l.fn.self l.self
