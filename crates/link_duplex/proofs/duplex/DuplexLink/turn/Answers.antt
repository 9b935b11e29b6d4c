use Rattle.std.proofs.Common.{refl, sym, subst, Some, None}
use Rattle.std.specs.Prelude.{Ok, Err}
use Rattle.link_duplex.specs.Duplex.{DuplexLinkState, ReadsNow, TakesTurn, IsNeededReadiness}
use Rattle.link_duplex.proofs.Receiving.{turns_reads, turns_tired, turns_waits}
use Rattle.link_duplex.proofs.duplex.DuplexLink.turn.Goals as goal

pub returns-in-Ok-Some : goal.returns-in-Ok-Some
returns-in-Ok-Some g c =
    rw (← c.self.view_is) (turns_reads g.W.Wire.state c.read_now.new.room
    (record {
      wire = c.self.inside.wire;
      ahead = c.self.inside.ahead;
      behind = c.self.inside.behind;
      limit =
          c.self.inside.limit;
      ended = c.self.inside.ended;
    })
    (record {
      wire = c.put_now.new.wire;
      ahead = c.self.inside.ahead;
      behind = c.put_now.new.self;
      limit =
          c.self.inside.limit;
      ended = c.self.inside.ended;
    })
    c.read_now.new.self (Ok (Some c.in-Ok-Some.n)) (rw c.in-Ok.is at c.put_now.ensures) refl
    (rw c.in-Ok-Some.field-0-is at (rw c.in-Ok-Some.is at c.read_now.ensures)))

pub returns-in-Err-read_now : goal.returns-in-Err-read_now
returns-in-Err-read_now g c =
    rw (← c.self.view_is) (turns_reads g.W.Wire.state c.read_now.new.room
    (record {
      wire = c.self.inside.wire;
      ahead = c.self.inside.ahead;
      behind = c.self.inside.behind;
      limit =
          c.self.inside.limit;
      ended = c.self.inside.ended;
    })
    (record {
      wire = c.put_now.new.wire;
      ahead = c.self.inside.ahead;
      behind = c.put_now.new.self;
      limit =
          c.self.inside.limit;
      ended = c.self.inside.ended;
    })
    c.read_now.new.self (Err c.in-Err-read_now.e) (rw c.in-Ok.is at c.put_now.ensures) refl
    (rw c.in-Err-read_now.is at c.read_now.ensures))

pub returns-in-Err-wait : goal.returns-in-Err-wait
returns-in-Err-wait g c =
    let reads : ReadsNow g.W.Wire.state c.read_now.new.room
    (record {
      wire = c.put_now.new.wire;
      ahead = c.self.inside.ahead;
      behind = c.put_now.new.self;
      limit =
          c.self.inside.limit;
      ended = c.self.inside.ended;
    })
    c.read_now.new.self (Ok None) = rw c.in-Ok-None.field-0-is at (rw c.in-Ok-None.is at c.read_now.ensures) in
    let turn : TakesTurn g.W.Wire.state c.read_now.new.room
    (record {
      wire = c.self.inside.wire;
      ahead = c.self.inside.ahead;
      behind = c.self.inside.behind;
      limit =
          c.self.inside.limit;
      ended = c.self.inside.ended;
    })
    (record {
      wire = c.self-2.inside.wire;
      ahead = c.self-2.inside.ahead;
      behind = c.self-2.inside.behind;
      limit =
          c.self-2.inside.limit;
      ended = c.self-2.inside.ended;
    }) (Ok None) =
    subst (λ (w : DuplexLinkState g.row.W.Denot). TakesTurn g.W.Wire.state c.read_now.new.room
    (record {
      wire = c.self.inside.wire;
      ahead = c.self.inside.ahead;
      behind = c.self.inside.behind;
      limit =
          c.self.inside.limit;
      ended = c.self.inside.ended;
    })
    w (Ok None)) (sym c.self-2.view_is)
    (turns_reads g.W.Wire.state c.read_now.new.room
    (record {
      wire = c.self.inside.wire;
      ahead = c.self.inside.ahead;
      behind = c.self.inside.behind;
      limit =
          c.self.inside.limit;
      ended = c.self.inside.ended;
    })
    (record {
      wire = c.put_now.new.wire;
      ahead = c.self.inside.ahead;
      behind = c.put_now.new.self;
      limit =
          c.self.inside.limit;
      ended = c.self.inside.ended;
    })
    c.read_now.new.self (Ok None) (rw c.in-Ok.is at c.put_now.ensures) refl reads) in
    rw (← c.self.view_is) (turns_tired g.W.Wire.state c.read_now.new.room
    (record {
      wire = c.self.inside.wire;
      ahead = c.self.inside.ahead;
      behind = c.self.inside.behind;
      limit =
          c.self.inside.limit;
      ended = c.self.inside.ended;
    })
    (record {
      wire = c.self-2.inside.wire;
      ahead = c.self-2.inside.ahead;
      behind = c.self-2.inside.behind;
      limit =
          c.self-2.inside.limit;
      ended = c.self-2.inside.ended;
    })
    (record {
      wire = c.wait.new.self;
      ahead = c.self-2.inside.ahead;
      behind = c.self-2.inside.behind;
      limit =
          c.self-2.inside.limit;
      ended = c.self-2.inside.ended;
    })
    c.needed_readiness-readiness.result c.in-Err-wait.e turn (subst
    (λ (w : DuplexLinkState g.row.W.Denot). IsNeededReadiness
    c.needed_readiness-readiness.result w.behind) (sym c.self-2.view_is) c.needed_readiness-readiness.ensures)
    (rw c.in-Err-wait.is at c.wait.ensures) refl)

pub returns : goal.returns
returns g c =
    let reads : ReadsNow g.W.Wire.state c.read_now.new.room
    (record {
      wire = c.put_now.new.wire;
      ahead = c.self.inside.ahead;
      behind = c.put_now.new.self;
      limit =
          c.self.inside.limit;
      ended = c.self.inside.ended;
    })
    c.read_now.new.self (Ok None) = rw c.in-Ok-None.field-0-is at (rw c.in-Ok-None.is at c.read_now.ensures) in
    let turn : TakesTurn g.W.Wire.state c.read_now.new.room
    (record {
      wire = c.self.inside.wire;
      ahead = c.self.inside.ahead;
      behind = c.self.inside.behind;
      limit =
          c.self.inside.limit;
      ended = c.self.inside.ended;
    })
    (record {
      wire = c.self-2.inside.wire;
      ahead = c.self-2.inside.ahead;
      behind = c.self-2.inside.behind;
      limit =
          c.self-2.inside.limit;
      ended = c.self-2.inside.ended;
    }) (Ok None) =
    subst (λ (w : DuplexLinkState g.row.W.Denot). TakesTurn g.W.Wire.state c.read_now.new.room
    (record {
      wire = c.self.inside.wire;
      ahead = c.self.inside.ahead;
      behind = c.self.inside.behind;
      limit =
          c.self.inside.limit;
      ended = c.self.inside.ended;
    })
    w (Ok None)) (sym c.self-2.view_is)
    (turns_reads g.W.Wire.state c.read_now.new.room
    (record {
      wire = c.self.inside.wire;
      ahead = c.self.inside.ahead;
      behind = c.self.inside.behind;
      limit =
          c.self.inside.limit;
      ended = c.self.inside.ended;
    })
    (record {
      wire = c.put_now.new.wire;
      ahead = c.self.inside.ahead;
      behind = c.put_now.new.self;
      limit =
          c.self.inside.limit;
      ended = c.self.inside.ended;
    })
    c.read_now.new.self (Ok None) (rw c.in-Ok.is at c.put_now.ensures) refl reads) in
    rw (← c.self.view_is) (turns_waits g.W.Wire.state c.read_now.new.room
    (record {
      wire = c.self.inside.wire;
      ahead = c.self.inside.ahead;
      behind = c.self.inside.behind;
      limit =
          c.self.inside.limit;
      ended = c.self.inside.ended;
    })
    (record {
      wire = c.self-2.inside.wire;
      ahead = c.self-2.inside.ahead;
      behind = c.self-2.inside.behind;
      limit =
          c.self-2.inside.limit;
      ended = c.self-2.inside.ended;
    })
    (record {
      wire = c.wait.new.self;
      ahead = c.self-2.inside.ahead;
      behind = c.self-2.inside.behind;
      limit =
          c.self-2.inside.limit;
      ended = c.self-2.inside.ended;
    })
    c.needed_readiness-readiness.result turn (subst (λ (w : DuplexLinkState g.row.W.Denot). IsNeededReadiness
    c.needed_readiness-readiness.result w.behind) (sym c.self-2.view_is) c.needed_readiness-readiness.ensures)
    (rw c.in-Ok-wait.is at c.wait.ensures) refl)
