use Rattle.std.proofs.Common.{arith, ◌≡◌, drop, length, ap, Some, List, ℕ, length-drop}
use Rattle.std.specs.Prelude.{Ok}
use Rattle.sftp_link.proofs.Telling.{rest_is, rest_of}
use Rattle.link_duplex.specs.Wires.{HasPut}
use Rattle.link_duplex.proofs.Putting.{now_more}
use Rattle.link_duplex.proofs.write_behind.put_now_from.Goals as goal

pub loop-passed-preserved : goal.loop-passed-preserved
loop-passed-preserved g c =
    let put : HasPut (rest_of c.args.bytes.now c.loop-passed.passed) (g.W.Wire.state c.loop-passed.wire)
    (g.W.Wire.state c.put.new.self)
    (Ok (Some c.in-Ok-Some.n)) = rw c.in-Ok-Some.field-0-is at (rw c.in-Ok-Some.is at c.put.ensures) in
    let rest : length (rest_of c.args.bytes.now c.loop-passed.passed)
    ≡ length (drop c.loop-passed.passed c.args.bytes.now) =
    ap (λ (w : List ℕ). length w) (rest_is c.args.bytes.now c.loop-passed.passed) in
    record {
      within = omega (
        arith,
        put.within,
        rest,
        length-drop c.loop-passed.passed c.args.bytes.now,
        c.loop-passed.invariant.within,
      );
      so = now_more _ c.args.bytes.now c.loop-passed.passed c.in-Ok-Some.n (g.W.Wire.state c.args.wire.now)
          (g.W.Wire.state c.loop-passed.wire)
          (g.W.Wire.state c.put.new.self) c.loop-passed.invariant.so put;
    }
