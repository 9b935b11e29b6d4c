use Rattle.std.proofs.Common.{◌∙◌, ap, refl}
use Rattle.link_duplex.proofs.Receiving.{reads_directly, reads_end, reads_failed, reads_nothing, reads_through}
use Rattle.link_duplex.proofs.duplex.DuplexLink.read_now.Goals as goal

pub returns-then-room-ge-STEP : goal.returns-then-room-ge-STEP
returns-then-room-ge-STEP g c =
    rw (← c.self.view_is) (reads_directly g.W.Wire.state c.get.new.room
    (record {
      wire = c.self.inside.wire;
      ahead = c.self.inside.ahead;
      behind = c.self.inside.behind;
      limit =
          c.self.inside.limit;
      ended = c.self.inside.ended;
    })
    (record {
      wire = c.get.new.self;
      ahead = c.self.inside.ahead;
      behind = c.self.inside.behind;
      limit =
          c.self.inside.limit;
      ended = c.self.inside.ended;
    })
    c.get.result (ap (λ b. b.ahead) c.self.view_is ∙ c.requires.none) refl c.get.ensures)

pub returns-in-Ok-Came : goal.returns-in-Ok-Came
returns-in-Ok-Came g c =
    rw (← c.self.view_is) (reads_through g.W.Wire.state c.give.new.room c.take.new.self
    (record {
      wire = c.self.inside.wire;
      ahead = c.self.inside.ahead;
      behind = c.self.inside.behind;
      limit =
          c.self.inside.limit;
      ended = c.self.inside.ended;
    })
    (record {
      wire = c.take.new.wire;
      ahead = c.give.new.self;
      behind = c.self.inside.behind;
      limit =
          c.self.inside.limit;
      ended = c.self.inside.ended;
    })
    c.give.result (ap (λ b. b.ahead) c.self.view_is ∙ c.requires.none)
    (rw c.in-Ok-Came.field-0-is at (rw c.in-Ok-Came.is at c.take.ensures)) c.give.ensures refl)

pub returns-in-Ok-End : goal.returns-in-Ok-End
returns-in-Ok-End g c =
    rw (← c.self.view_is) (reads_end g.W.Wire.state c.args.room.now
    (record {
      wire = c.self.inside.wire;
      ahead = c.self.inside.ahead;
      behind = c.self.inside.behind;
      limit =
          c.self.inside.limit;
      ended = c.self.inside.ended;
    })
    (record {
      wire = c.take.new.wire;
      ahead = c.take.new.self;
      behind = c.self.inside.behind;
      limit =
          c.self.inside.limit;
      ended = c.self.inside.ended;
    })
    (ap (λ b. b.ahead) c.self.view_is ∙ c.requires.none) (rw c.in-Ok-End.field-0-is at
    (rw c.in-Ok-End.is at c.take.ensures)) refl)

pub returns-in-Ok-Nothing : goal.returns-in-Ok-Nothing
returns-in-Ok-Nothing g c =
    rw (← c.self.view_is) (reads_nothing g.W.Wire.state c.args.room.now
    (record {
      wire = c.self.inside.wire;
      ahead = c.self.inside.ahead;
      behind = c.self.inside.behind;
      limit =
          c.self.inside.limit;
      ended = c.self.inside.ended;
    })
    (record {
      wire = c.take.new.wire;
      ahead = c.take.new.self;
      behind = c.self.inside.behind;
      limit =
          c.self.inside.limit;
      ended = c.self.inside.ended;
    })
    (ap (λ b. b.ahead) c.self.view_is ∙ c.requires.none) (rw c.in-Ok-Nothing.field-0-is at
    (rw c.in-Ok-Nothing.is at c.take.ensures)) refl)

pub returns-in-Err : goal.returns-in-Err
returns-in-Err g c =
    rw (← c.self.view_is) (reads_failed g.W.Wire.state c.args.room.now
    (record {
      wire = c.self.inside.wire;
      ahead = c.self.inside.ahead;
      behind = c.self.inside.behind;
      limit =
          c.self.inside.limit;
      ended = c.self.inside.ended;
    })
    (record {
      wire = c.take.new.wire;
      ahead = c.take.new.self;
      behind = c.self.inside.behind;
      limit =
          c.self.inside.limit;
      ended = c.self.inside.ended;
    })
    c.in-Err.e (ap (λ b. b.ahead) c.self.view_is ∙ c.requires.none) (rw c.in-Err.is at c.take.ensures) refl)
