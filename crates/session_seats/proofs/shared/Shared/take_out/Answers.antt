use Rattle.std.proofs.Common.{rules, sym, ap, subst, ◌∙◌}
use Rattle.session_seats.specs.Closes.{TakesOut}
use Rattle.session_seats.proofs.HoldLaws.{is_seat, tie}
use Rattle.session_seats.proofs.NewSeatLaws.{look_can, looked, looked_at, looks_keeps}
use Rattle.session_seats.proofs.shared.Shared.take_out.Goals as goal

pub returns-in-Ok-clause-taken : goal.returns-in-Ok-clause-taken
returns-in-Ok-clause-taken g c =
    let m = c.args.seat.inner.me in
    let p = c.acquire.new.seat.me in
    let h = c.acquire.ensures.taken in
    let held = tie g.S.Held.shown m p h c.slot_mut-held.result.now c.slot_mut-held.ensures.value in (
      search rules,
      search rules,
      subst (λ x. TakesOut g.S.Held.shown (λ y. g.X.Ending.allows c.args.ending.now y c.in-Ok.made) m x)
          (ap (λ l. (p.0, l)) c.slot_mut-held.ensures.value) (
            h,
            subst (λ y. g.X.Ending.allows c.args.ending.now y c.in-Ok.made)
                (sym held) c.in-Ok.ensures.allowed,
          ),
    )

pub release-requires-clause-held : goal.release-requires-clause-held
release-requires-clause-held g c =
    let h = c.acquire.ensures.taken in
    let held = tie g.S.Held.shown c.args.seat.inner.me c.acquire.new.seat.me h c.slot_mut-held.result.now
    c.slot_mut-held.ensures.value in
    look_can g.S.Held.shown c.args.seat.inner.me c.acquire.new.seat.me h c.slot_mut-held.result.now
    (ap g.S.Held.shown (sym held))

pub invariant_of-seat-in-Err : goal.invariant_of-seat-in-Err
invariant_of-seat-in-Err g c =
    let m = c.args.seat.inner.me in
    let p = c.acquire.new.seat.me in
    let n = c.release.new.seat.me in
    let h = c.acquire.ensures.taken in
    let z = c.slot_mut-held.result.now in
    let held = tie g.S.Held.shown m p h z c.slot_mut-held.ensures.value in
    let l = looked g.S.Held.shown m p n h z (ap g.S.Held.shown (sym held)) c.release.ensures.gave in
    let k = looks_keeps g.S.Held.shown m n c.args.seat.lane c.args.seat.receipts.items l.1 in
    record {
      free = is_seat _ _ l.0;
      named = k.0 c.args.seat.named;
      shares = c.args.seat.shares ∙ sym l.1.share;
      told =
          λ whole. k.1 (c.args.seat.told whole);
    }

pub returns-in-Err-clause-kept : goal.returns-in-Err-clause-kept
returns-in-Err-clause-kept g c =
    let m = c.args.seat.inner.me in
    let p = c.acquire.new.seat.me in
    let n = c.release.new.seat.me in
    let h = c.acquire.ensures.taken in
    let z = c.slot_mut-held.result.now in
    let held = tie g.S.Held.shown m p h z c.slot_mut-held.ensures.value in
    let l = looked_at g.S.Held.shown m p n h z (ap g.S.Held.shown (sym held)) c.release.ensures.gave in
    record {
      looks = l.0;
      lane = search rules;
      receipts = search rules;
      whole = search rules;
      refuses = subst (λ y. g.X.Ending.refuses c.args.ending.now y c.in-Err.e) (sym l.1)
          (subst (λ y. g.X.Ending.refuses c.args.ending.now y c.in-Err.e) (sym held) c.in-Err.ensures.refused);
    }
