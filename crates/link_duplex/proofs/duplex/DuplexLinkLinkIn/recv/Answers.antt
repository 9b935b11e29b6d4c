use Rattle.std.proofs.Common.{arith, ◌≡◌, ◌==◌, [], ap, false, refl}
use Rattle.std.proofs.lemmas.List.{nil_from_length}
use Rattle.link_duplex.specs.Duplex.{DuplexLinkState}
use Rattle.link_duplex.proofs.Receiving.{gives_ahead, recv_gives, recv_stops, turned_none, turned_on}
use Rattle.link_duplex.proofs.duplex.DuplexLinkLinkIn.recv.Goals as goal

pub returns-then-len-gt0-clause-did : goal.returns-then-len-gt0-clause-did
returns-then-len-gt0-clause-did g c =
    rw (← c.self.view_is) (gives_ahead g.W.Wire.state c.give.new.room
    (record {
      wire = c.self.inside.wire;
      ahead = c.self.inside.ahead;
      behind = c.self.inside.behind;
      limit =
          c.self.inside.limit;
      ended = c.self.inside.ended;
    })
    (record {
      wire = c.self.inside.wire;
      ahead = c.give.new.self;
      behind = c.self.inside.behind;
      limit =
          c.self.inside.limit;
      ended = false;
    })
    c.give.result (omega (arith, c.requires.some, c.give.auto.room)) (omega (arith, c.len.ensures, c.if-len-gt0.true))
    c.give.ensures refl).1

pub loop-init : goal.loop-init
loop-init g c =
    let none : c.self.inside.ahead ≡ [] = nil_from_length c.self.inside.ahead
    (omega (arith, c.len.ensures, c.if-len-gt0.false)) in
    rw (← c.self.view_is) (turned_none g.W.Wire.state
    (record {
      wire = c.self.inside.wire;
      ahead = c.self.inside.ahead;
      behind = c.self.inside.behind;
      limit =
          c.self.inside.limit;
      ended = c.self.inside.ended;
    })
    (record {
      wire = c.self.inside.wire;
      ahead = c.self.inside.ahead;
      behind = c.self.inside.behind;
      limit =
          c.self.inside.limit;
      ended = false;
    })
    none refl)

pub returns-in-Ok-Some-clause-did : goal.returns-in-Ok-Some-clause-did
returns-in-Ok-Some-clause-did g c =
    let set : DuplexLinkState g.row.W.Denot → DuplexLinkState g.row.W.Denot =
    λ b. record b { ended = c.in-Ok-Some.n == 0 } in
    (recv_gives g.W.Wire.state c.turn.new.room c.args.self.now c.loop.self c.turn.new.self _ c.in-Ok-Some.n
    c.loop.invariant
    (rw c.in-Ok-Some.field-0-is at (rw c.in-Ok-Some.is at c.turn.ensures)) (ap set c.self-in-loop.view_is)).1

pub returns-in-Err-clause-did : goal.returns-in-Err-clause-did
returns-in-Err-clause-did g c =
    (recv_stops g.W.Wire.state c.turn.new.room c.args.self.now c.loop.self c.turn.new.self c.in-Err.e c.loop.invariant
    (rw c.in-Err.is at c.turn.ensures)).1

pub loop-preserved : goal.loop-preserved
loop-preserved g c =
    turned_on g.W.Wire.state c.turn.new.room c.args.self.now c.loop.self c.turn.new.self c.loop.invariant
    (rw c.in-Ok-None.field-0-is at (rw c.in-Ok-None.is at c.turn.ensures))
