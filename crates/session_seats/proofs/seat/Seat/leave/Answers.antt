use Rattle.std.proofs.Common.{arith}
use Rattle.session_seats.proofs.UserLaws.{leaves_keeps}
use Rattle.session_seats.proofs.seat.Seat.leave.Goals as goal

pub invariant_of-self : goal.invariant_of-self
invariant_of-self g c =
    let m = c.args.self.now.inner.me in
    let n = c.leave_with-last.new.seat.me in
    let k = leaves_keeps g.S.Held.shown c.leave_with-last.result.0 m n c.args.self.now.lane c.args.self.now.receipts.items
    c.leave_with-last.ensures.left in
    let is = c.args.self.now.shares in
    let less = c.leave_with-last.ensures.left.share in
    record {
      free = c.leave_with-last.ensures.free;
      shares = omega (arith, is, less);
      named = k.0 c.args.self.now.named;
      told = λ whole. k.1 (c.args.self.now.told whole);
    }
