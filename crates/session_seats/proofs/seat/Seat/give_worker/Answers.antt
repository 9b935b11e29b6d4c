use Rattle.std.proofs.Common.{◌∙◌, false, sym}
use Rattle.session_seats.proofs.NewSeatLaws.{gives_keeps}
use Rattle.session_seats.proofs.seat.Seat.give_worker.Goals as goal

pub invariant_of-self : goal.invariant_of-self
invariant_of-self g c =
    let m = c.args.self.now.inner.me in
    let n = c.give_worker.new.from.me in
    let k = gives_keeps g.S.Held.shown false m n c.give_worker.result.me c.args.self.now.lane
    c.args.self.now.receipts.items c.give_worker.ensures.given in
    record {
      free = c.give_worker.ensures.free.0;
      shares = c.args.self.now.shares
          ∙ sym c.give_worker.ensures.given.share;
      named = k.0 c.args.self.now.named;
      told =
          λ whole. k.1 (c.args.self.now.told whole);
    }
