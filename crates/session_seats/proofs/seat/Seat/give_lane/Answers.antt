use Rattle.std.proofs.Common.{◌≡◌, ◌∙◌, ℕ, Some, sym}
use Rattle.atomic_table.specs.declared.shared.Seat.{Seat}
use Rattle.session_seats.specs.declared.view.View.{View}
use Rattle.session_seats.specs.Holds.{IsSeat}
use Rattle.session_seats.proofs.NewSeatLaws.{seat_keeps, seat_shares}
use Rattle.session_seats.proofs.seat.Seat.give_lane.Goals as goal

pub invariant_of-self : goal.invariant_of-self
invariant_of-self g c =
    let m = c.args.self.now.inner.me in
    let n = c.give_lane.new.from.me in
    let k = seat_keeps g.S.Held.shown m n c.give_lane.result (λ (a : Seat g.row.S.Denot View × ℕ). a.0.me)
    (λ (a : Seat g.row.S.Denot View × ℕ). Some a.1) (λ (a : Seat g.row.S.Denot View × ℕ). a.0.table_id
    ≡ c.args.self.now.inner.table_id) (λ (a : Seat g.row.S.Denot View × ℕ). IsSeat a.0.me)
    c.args.self.now.lane c.args.self.now.receipts.items c.give_lane.ensures.given c.give_lane.ensures.none in
    let share = seat_shares g.S.Held.shown m n c.give_lane.result (λ (a : Seat g.row.S.Denot View × ℕ). a.0.me)
    (λ (a : Seat g.row.S.Denot View × ℕ). Some a.1) (λ (a : Seat g.row.S.Denot View × ℕ). a.0.table_id
    ≡ c.args.self.now.inner.table_id) (λ (a : Seat g.row.S.Denot View × ℕ). IsSeat a.0.me)
    c.give_lane.ensures.given c.give_lane.ensures.none in
    record {
      free = c.give_lane.ensures.own.1;
      shares = c.args.self.now.shares ∙ sym share;
      named =
          k.0 c.args.self.now.named;
      told = λ whole. k.1 (c.args.self.now.told whole);
    }
