use Rattle.link_duplex.proofs.Putting.{way_came, way_ended, way_full, way_nothing}
use Rattle.link_duplex.proofs.puts.make_way.Goals as goal

pub returns-in-Ok-Came : goal.returns-in-Ok-Came
returns-in-Ok-Came g c =
    way_came c.args.limit c.args.ahead.now c.take.new.self (g.W.Wire.state c.args.wire.now)
    (g.W.Wire.state c.take.new.wire)
    (rw c.in-Ok-Came.field-0-is at (rw c.in-Ok-Came.is at c.take.ensures))

pub returns-in-Ok-Nothing : goal.returns-in-Ok-Nothing
returns-in-Ok-Nothing g c =
    way_nothing c.args.limit c.args.ahead.now c.take.new.self (g.W.Wire.state c.args.wire.now)
    (g.W.Wire.state c.take.new.wire)
    (g.W.Wire.state c.wait.new.self) c.wait.result (rw c.in-Ok-Nothing.field-0-is at
    (rw c.in-Ok-Nothing.is at c.take.ensures)) c.wait.ensures

pub returns-in-Ok-End : goal.returns-in-Ok-End
returns-in-Ok-End g c =
    way_ended c.args.limit c.args.ahead.now c.take.new.self (g.W.Wire.state c.args.wire.now)
    (g.W.Wire.state c.take.new.wire)
    (g.W.Wire.state c.wait-in-Ok-End.new.self) c.wait-in-Ok-End.result
    (rw c.in-Ok-End.field-0-is at (rw c.in-Ok-End.is at c.take.ensures))
    c.wait-in-Ok-End.ensures

pub returns-in-Ok-Full : goal.returns-in-Ok-Full
returns-in-Ok-Full g c =
    way_full c.args.limit c.args.ahead.now c.take.new.self (g.W.Wire.state c.args.wire.now)
    (g.W.Wire.state c.take.new.wire)
    (g.W.Wire.state c.wait-in-Ok-Full.new.self) c.wait-in-Ok-Full.result
    (rw c.in-Ok-Full.field-0-is at (rw c.in-Ok-Full.is at c.take.ensures)) c.wait-in-Ok-Full.ensures
