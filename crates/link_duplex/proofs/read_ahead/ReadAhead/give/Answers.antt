use Rattle.std.proofs.Common.{arith, ◌≡◌, ◌+◌, ◌-◌, ◌∙◌, take, drop}
use Rattle.link_duplex.proofs.ReadingAhead.{gave}
use Rattle.link_duplex.proofs.read_ahead.ReadAhead.give.Goals as goal

pub returns : goal.returns
returns c =
    let n : (c.self.inside.given + c.min-n.result) - c.self.inside.given ≡ c.min-n.result = omega arith in
    let copied : c.copy_from_slice.new.self ≡ take c.min-n.result (drop c.self.inside.given c.self.inside.room.items) =
    c.copy_from_slice.ensures.after ∙ (λ i. take (n i) (drop c.self.inside.given (c.deref.ensures.value i))) in
    rw (← c.self.view_is) (gave c.self.inside.room.items c.copy_from_slice.new.self c.args.room.now c.self.inside.given
    c.self.inside.came
    c.min-n.result c.self.invariant.returned c.self.invariant.room_for (omega (arith, c.min-n.ensures)) copied)
