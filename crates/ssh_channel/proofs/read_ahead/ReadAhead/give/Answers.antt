use Rattle.std.proofs.Common.{arith, ◌≡◌, ◌≤◌, ◌+◌, ◌-◌, ◌++◌, ◌∙◌, List, ℕ, min, take, drop, length, ap, sym, subst, length-append, length-drop}
use Rattle.std.proofs.lemmas.List.{take-append-drop, drop-drop, length-take}
use Rattle.std.proofs.Math.Seq.{take-append_seam}
use Rattle.ssh_channel.specs.ChannelStates.{GivesPrefix}
use Rattle.ssh_channel.proofs.read_ahead.ReadAhead.give.Goals as goal

-- Bytes were copied to the start of a room.
gave : (items copied room : List ℕ) (given n : ℕ) → given ≤ length items → n ≡ min (length room) (length items - given)
    → copied ≡ take n (drop given items) → GivesPrefix (drop given items) (drop (given + n) items)
    (copied ++ drop n room) n
gave items copied room given n le is copy =
    let len : length (drop given items) ≡ length items - given = omega (arith, length-drop given items) in
    let copied_len : length copied ≡ n = ap (λ (w : List ℕ). length w) copy
    ∙ omega (arith, is, length-take n (drop given items), length-drop given items) in
    let room_len : length (copied ++ drop n room) ≡ length room =
    omega (arith, is, copied_len, length-append copied (drop n room), length-drop n room) in
    let prefix : take n (copied ++ drop n room) ≡ copied = subst (λ (k : ℕ). take k (copied ++ drop n room) ≡ copied)
    copied_len (take-append_seam copied (drop n room)) in
    let firsts : take n (drop given items) ≡ take n (copied ++ drop n room) = sym copy ∙ sym prefix in (
      is ∙ (λ i. min (sym room_len i) (sym len i)),
      sym (take-append-drop n (drop given items)) ∙ (λ i. firsts i ++ drop-drop n given items i),
    )

pub returns : goal.returns
returns c =
    let items : c.deref.result.now ≡ c.self.inside.bytes.items = c.deref.ensures.value in
    let n : (c.self.inside.given + c.min-n.result) - c.self.inside.given ≡ c.min-n.result = omega arith in
    let copied : c.copy_from_slice.new.self ≡ take c.min-n.result (drop c.self.inside.given c.self.inside.bytes.items) =
    cc (c.copy_from_slice.ensures.after) in
    rw (← c.self.view_is) (gave c.self.inside.bytes.items c.copy_from_slice.new.self c.args.room.now c.self.inside.given
    c.min-n.result c.self.invariant
    (omega (arith, c.min-n.ensures, c.len.ensures)) copied)
