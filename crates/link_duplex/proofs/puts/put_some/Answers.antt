use Rattle.link_duplex.proofs.Putting.{waiting_on, waiting_put, waiting_stopped}
use Rattle.link_duplex.proofs.puts.put_some.Goals as goal

pub returns-in-Ok-Some : goal.returns-in-Ok-Some
returns-in-Ok-Some g c =
    waiting_put c.args.limit c.args.ahead.now c.loop.ahead c.args.bytes.now (g.W.Wire.state c.args.wire.now)
    (g.W.Wire.state c.loop.wire)
    (g.W.Wire.state c.put.new.self) c.in-Ok-Some.n c.loop.invariant
    (rw c.in-Ok-Some.field-0-is at (rw c.in-Ok-Some.is at c.put.ensures))

pub returns-in-Err-make_way : goal.returns-in-Err-make_way
returns-in-Err-make_way g c =
    waiting_stopped c.args.limit c.args.ahead.now c.loop.ahead c.make_way.new.ahead c.args.bytes.now
    (g.W.Wire.state c.args.wire.now)
    (g.W.Wire.state c.loop.wire) (g.W.Wire.state c.put.new.self) (g.W.Wire.state c.make_way.new.wire)
    c.in-Err-make_way.e c.loop.invariant
    (rw c.in-Ok-None.field-0-is at (rw c.in-Ok-None.is at c.put.ensures))
    (rw c.in-Err-make_way.is at c.make_way.ensures)

pub loop-preserved : goal.loop-preserved
loop-preserved g c =
    waiting_on c.args.limit c.args.ahead.now c.loop.ahead c.make_way.new.ahead c.args.bytes.now
    (g.W.Wire.state c.args.wire.now)
    (g.W.Wire.state c.loop.wire) (g.W.Wire.state c.put.new.self) (g.W.Wire.state c.make_way.new.wire) c.loop.invariant
    (rw c.in-Ok-None.field-0-is at (rw c.in-Ok-None.is at c.put.ensures)) (rw c.in-Ok.is at c.make_way.ensures)
