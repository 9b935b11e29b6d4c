use Rattle.std.proofs.Common.{arith, drop}
use Rattle.sftp_link.proofs.Telling.{rest_of}
use Rattle.link_duplex.proofs.Putting.{so_far_more, so_far_stops}
use Rattle.link_duplex.proofs.write_behind.put_from.Goals as goal

pub loop-passed-preserved : goal.loop-passed-preserved
loop-passed-preserved g c = record {
  within = omega (arith, c.in-Ok.ensures.within);
  so = so_far_more c.args.limit _ c.args.bytes.now c.loop-passed.passed c.in-Ok.n c.args.ahead.now c.loop-passed.ahead
      c.put_some.new.ahead
      (g.W.Wire.state c.args.wire.now) (g.W.Wire.state c.loop-passed.wire) (g.W.Wire.state c.put_some.new.wire)
      c.loop-passed.invariant.so
      (rw c.in-Ok.is at c.put_some.ensures);
}

pub returns-in-Err-clause-puts : goal.returns-in-Err-clause-puts
returns-in-Err-clause-puts g c =
    so_far_stops c.args.limit (drop c.args.passed.now c.args.bytes.now) (drop c.loop-passed.passed c.args.bytes.now)
    (rest_of c.args.bytes.now c.loop-passed.passed) c.args.ahead.now c.loop-passed.ahead c.put_some.new.ahead
    (g.W.Wire.state c.args.wire.now) (g.W.Wire.state c.loop-passed.wire) (g.W.Wire.state c.put_some.new.wire) c.in-Err.e
    c.loop-passed.invariant.so (rw c.in-Err.is at c.put_some.ensures)
