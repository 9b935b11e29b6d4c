use Rattle.std.proofs.Common.{◌≡◌, ◌++◌, false, refl}
use Rattle.link_duplex.proofs.Calling.{sends_after, sends_held, sends_unheld}
use Rattle.link_duplex.proofs.duplex.DuplexLinkLinkOut.send.Goals as goal

pub returns-in-Ok-clause-did : goal.returns-in-Ok-clause-did
returns-in-Ok-clause-did g c =
    let held : c.hold.new.self ≡ c.self.inside.behind ++ c.args.bytes.now = rw c.in-Ok.is at c.hold.ensures.ok in
    rw (← c.self.view_is) (sends_held g.W.Wire.state c.args.bytes.now
    (record {
      wire = c.self.inside.wire;
      ahead = c.self.inside.ahead;
      behind = c.self.inside.behind;
      limit =
          c.self.inside.limit;
      ended = c.self.inside.ended;
    })
    (record {
      wire = c.self.inside.wire;
      ahead = c.self.inside.ahead;
      behind = c.hold.new.self;
      limit =
          c.self.inside.limit;
      ended = false;
    }) c.requires.some
    (λ i. record {
      wire = c.self.inside.wire;
      ahead = c.self.inside.ahead;
      behind = held i;
      limit = c.self.inside.limit;
      ended = false;
    })).1

pub returns-in-Err-clause-did : goal.returns-in-Err-clause-did
returns-in-Err-clause-did g c =
    let held : c.hold.new.self ≡ c.self.inside.behind = rw c.in-Err.is at c.hold.ensures.err in
    rw (← c.self.view_is) (sends_unheld g.W.Wire.state c.args.bytes.now
    (record {
      wire = c.self.inside.wire;
      ahead = c.self.inside.ahead;
      behind = c.self.inside.behind;
      limit =
          c.self.inside.limit;
      ended = c.self.inside.ended;
    })
    (record {
      wire = c.self.inside.wire;
      ahead = c.self.inside.ahead;
      behind = c.hold.new.self;
      limit =
          c.self.inside.limit;
      ended = false;
    })
    (λ i. record {
      wire = c.self.inside.wire;
      ahead = c.self.inside.ahead;
      behind = held i;
      limit = c.self.inside.limit;
      ended = false;
    })).1

pub returns-in-Ok-put_all-clause-did : goal.returns-in-Ok-put_all-clause-did
returns-in-Ok-put_all-clause-did g c =
    rw (← c.self.view_is) (sends_after g.W.Wire.state c.args.bytes.now c.put_all.new.ahead
    (record {
      wire = c.self.inside.wire;
      ahead = c.self.inside.ahead;
      behind = c.self.inside.behind;
      limit =
          c.self.inside.limit;
      ended = c.self.inside.ended;
    })
    (record {
      wire = c.put_some.new.wire;
      ahead = c.put_some.new.ahead;
      behind = c.put_all.new.self;
      limit =
          c.self.inside.limit;
      ended = false;
    })
    c.put_all.new.wire c.put_some.result (rw c.in-Ok-put_all.is at c.put_all.ensures) c.put_some.ensures refl refl).1
