use Rattle.link_duplex.proofs.Putting.{Waiting}
use Rattle.link_duplex.proofs.puts.put_some.Given as goal

abbrev pub invariant-loop : goal.invariant-loop
invariant-loop g l = Waiting l.limit l.initial.ahead l.ahead (g.W.Wire.state l.initial.wire) (g.W.Wire.state l.wire)
