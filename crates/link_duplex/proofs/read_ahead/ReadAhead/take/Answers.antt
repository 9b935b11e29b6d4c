use Rattle.std.proofs.Common.{arith, ◌≡◌, ◌≤◌, ◌-◌, ◌∙◌, List, ℕ, ap, length, drop, take, Some, ◌++◌, length-append, length-drop}
use Rattle.std.proofs.lemmas.List.{length-take}
use Rattle.std.specs.Prelude.{Ok}
use borrow.Rule.Slice.PartMut.{post_of}
use Rattle.link_duplex.specs.Wires.{HasGot}
use Rattle.link_duplex.proofs.ReadingAhead.{took}
use Rattle.link_duplex.proofs.read_ahead.ReadAhead.take.Goals as goal

pub returns-in-Ok-Some : goal.returns-in-Ok-Some
returns-in-Ok-Some g c =
    let got : HasGot c.get.new.room (g.W.Wire.state c.args.wire.now) (g.W.Wire.state c.get.new.self)
    (Ok (Some c.in-Ok-Some.n)) =
    rw c.in-Ok-Some.field-0-is at (rw c.in-Ok-Some.is at c.get.ensures) in
    let same : drop c.make_place.new.given (take c.make_place.new.came c.deref_mut.result.now) ≡ c.args.self.now =
    ap (λ (w : List ℕ). drop c.make_place.new.given (take c.make_place.new.came w)) c.deref_mut.ensures.value
    ∙ (c.make_place.ensures.same ∙ c.self.view_is) in
    let fits : c.make_place.new.came ≤ length c.deref_mut.result.now =
    omega (arith, c.make_place.ensures.within.room_for, ap (λ (w : List ℕ). length w) c.deref_mut.ensures.value) in
    let is_len : length (take c.make_place.new.came c.deref_mut.result.now ++ (c.get.new.room
    ++ post_of c.make_place.new.came (length c.deref_mut.result.now - c.make_place.new.came) c.deref_mut.result.now))
    ≡ c.make_place.new.room.len =
    omega (
      arith,
      fits,
      c.get.auto.room,
      c.deref_mut.ensures.len,
      length-append (take c.make_place.new.came c.deref_mut.result.now) (c.get.new.room
          ++ post_of c.make_place.new.came (length c.deref_mut.result.now - c.make_place.new.came)
          c.deref_mut.result.now),
      length-append c.get.new.room (post_of c.make_place.new.came
          (length c.deref_mut.result.now - c.make_place.new.came) c.deref_mut.result.now),
      length-take c.make_place.new.came c.deref_mut.result.now,
      length-drop c.make_place.new.came c.deref_mut.result.now,
      length-drop (length c.deref_mut.result.now - c.make_place.new.came)
          (drop c.make_place.new.came c.deref_mut.result.now),
      length-take (length c.deref_mut.result.now - c.make_place.new.came)
          (drop c.make_place.new.came c.deref_mut.result.now),
    ) in
    took c.args.limit c.args.self.now c.deref_mut.result.now c.get.new.room
    (post_of c.make_place.new.came (length c.deref_mut.result.now - c.make_place.new.came) c.deref_mut.result.now)
    c.make_place.new.room.items
    c.make_place.new.given c.make_place.new.came c.in-Ok-Some.n c.make_place.new.room.len
    (g.W.Wire.state c.args.wire.now) (g.W.Wire.state c.get.new.self) same
    c.make_place.ensures.within.returned fits got.within (omega (arith, c.in-Ok-Some.n-test)) is_len got
