use Rattle.std.proofs.Common.{rules, arith, false, ap, ◌∙◌}
use Rattle.session_seats.specs.Rules.{giver}
use Rattle.session_seats.proofs.HoldLaws.{is_seat}
use Rattle.session_seats.proofs.NewSeatLaws.{hand_is, with_none, splits_at, gives_can, gave_seat, fresh_seat, gives, is_fresh}
use Rattle.session_seats.proofs.shared.Shared.give_worker.Goals as goal

pub split_seat-new-requires : goal.split_seat-new-requires
split_seat-new-requires g c = (
  search rules,
  search rules,
  splits_at g.S.Held.shown c.args.from.now.me
      c.acquire.new.seat.me c.acquire.ensures.taken false (omega arith) _,
)

pub release-requires-clause-held : goal.release-requires-clause-held
release-requires-clause-held g c =
    let sh = g.S.Held.shown in
    let m = c.args.from.now.me in
    let p = c.acquire.new.seat.me in
    let h = c.acquire.ensures.taken in
    let q = c.split_seat-new.new.seat.me in
    let is = with_none (sh h.value) in
    let q-is = c.split_seat-new.ensures.2 ∙ ap (λ l. (giver false p.0, l)) (hand_is sh m p h) in
    gives_can sh m p h false (omega arith) h.value is q q-is

pub returns-clause-free : goal.returns-clause-free
returns-clause-free g c =
    let sh = g.S.Held.shown in
    let m = c.args.from.now.me in
    let p = c.acquire.new.seat.me in
    let h = c.acquire.ensures.taken in
    let q = c.split_seat-new.new.seat.me in
    let is = with_none (sh h.value) in
    let q-is = c.split_seat-new.ensures.2 ∙ ap (λ l. (giver false p.0, l)) (hand_is sh m p h) in (
      is_seat _ _ (gave_seat sh m p h false (omega arith) h.value is q c.release.new.seat.me q-is
          c.release.ensures.gave),
      is_seat _ _ (fresh_seat sh m p h false (omega arith) h.value is
          c.split_seat-new.result.me c.split_seat-new.ensures.4),
    )

pub returns-clause-given : goal.returns-clause-given
returns-clause-given g c =
    let sh = g.S.Held.shown in
    let m = c.args.from.now.me in
    let p = c.acquire.new.seat.me in
    let h = c.acquire.ensures.taken in
    let q = c.split_seat-new.new.seat.me in
    let is = with_none (sh h.value) in
    let q-is = c.split_seat-new.ensures.2 ∙ ap (λ l. (giver false p.0, l)) (hand_is sh m p h) in
    gives sh m p h false (omega arith) h.value is c.release.new.seat.me c.split_seat-new.result.me
    (gave_seat sh m p h false (omega arith) h.value is q c.release.new.seat.me q-is c.release.ensures.gave)
    (fresh_seat sh m p h false (omega arith) h.value is c.split_seat-new.result.me c.split_seat-new.ensures.4)

pub returns-clause-fresh : goal.returns-clause-fresh
returns-clause-fresh g c =
    let sh = g.S.Held.shown in
    let m = c.args.from.now.me in
    let p = c.acquire.new.seat.me in
    let h = c.acquire.ensures.taken in
    let q = c.split_seat-new.new.seat.me in
    let is = with_none (sh h.value) in
    let q-is = c.split_seat-new.ensures.2 ∙ ap (λ l. (giver false p.0, l)) (hand_is sh m p h) in
    is_fresh sh m p h false (omega arith) h.value is c.split_seat-new.result.me
    (fresh_seat sh m p h false (omega arith) h.value is c.split_seat-new.result.me c.split_seat-new.ensures.4)
