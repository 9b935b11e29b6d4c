use Rattle.std.proofs.Common.{rules, ◌≡◌, ◌∷◌, [], List, length, refl, sym, ap, ◌∙◌, subst, arith}
use Rattle.std.specs.Vec.Iter.{into_iter_items}
use Rattle.session_seats.specs.Closes.{AllOf}
use Rattle.session_seats.proofs.JoinLaws.{joining_all, joining_can, joining_first, joining_more, joining_none}
use Rattle.session_seats.proofs.shared.Shared.join_all.Goals as goal

pub loop-seat-init : goal.loop-seat-init
loop-seat-init g c =
    let items = c.into_iter-rest.ensures.rest in
    let long = ap (λ l. length l) items in
    let room = c.requires.may.1 in (
      joining_none g.S.Held.shown c.args.seats.items _ c.args.base.now.me c.args.base.now.table_id
          c.args.lists.now.items items
          (subst (λ z. AllOf z c.args.seats.items) (sym c.requires.own) c.requires.others),
      refl,
      search rules,
      omega arith,
    )

pub join_seat-requires : goal.join_seat-requires
join_seat-requires g c =
    let i = c.loop-seat.invariant in
    let s = c.in-Some.seat in
    let steps : into_iter_items c.loop-seat.rest ≡ s ∷ into_iter_items c.next.new.self = search rules in (
      i.1 ∙ c.requires.own,
      joining_first g.S.Held.shown _ _ _ _ _ _ _ _ s steps i.0 ∙ c.requires.own,
      ap (λ x. x.1) s.free,
      search rules,
      joining_can g.S.Held.shown _ _ _ c.loop-seat.base.me _ _ _ _ _ s c.requires.may.0 i.0,
    )

pub loop-seat-preserved : goal.loop-seat-preserved
loop-seat-preserved g c =
    let i = c.loop-seat.invariant in
    let s = c.in-Some.seat in
    let steps : into_iter_items c.loop-seat.rest ≡ s ∷ into_iter_items c.next.new.self = search rules in
    let short = ap (λ l. length l) steps in
    let gone = c.next.ensures.len in (
      joining_more g.S.Held.shown _ _ _ _ c.loop-seat.base.me c.join_seat.new.seat.me _ _ c.loop-seat.lists.items _ s
          steps c.join_seat.ensures.2 c.push_reserved.ensures.items i.0,
      c.join_seat.ensures.0 ∙ i.1,
      (let was = i.2 in search rules),
      (let room = i.3 in omega arith),
    )

nothing_left : {X : Type 0} (l : List X) → length l ≡ 0 → l ≡ []
nothing_left [] h = refl
nothing_left (x ∷ xs) h = absurd (omega arith)

pub returns-clause-joined : goal.returns-clause-joined
returns-clause-joined g c = (joining_all g.S.Held.shown _ _ _ _ _ _ _ (nothing_left _ (search rules)) c.loop-seat.invariant.0).0

pub returns-clause-lists : goal.returns-clause-lists
returns-clause-lists g c = (joining_all g.S.Held.shown _ _ _ _ _ _ _ (nothing_left _ (search rules)) c.loop-seat.invariant.0).1
