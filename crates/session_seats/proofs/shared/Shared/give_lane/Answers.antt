use Rattle.std.proofs.Common.{rules, ◌<◌, ◌≤◌, length, true, sym, ap, ◌∙◌, subst}
use Rattle.session_seats.specs.NewSeats.{with_seat}
use Rattle.session_seats.proofs.HoldLaws.{is_seat, tie}
use Rattle.session_seats.proofs.NewSeatLaws.{looked, splits_at, gives_can, gave_seat, fresh_seat, gives_lane, has_none}
use Rattle.session_seats.proofs.shared.Shared.give_lane.Goals as goal

pub split_seat-new-requires : goal.split_seat-new-requires
split_seat-new-requires g c = (
  search rules,
  search rules,
  splits_at g.S.Held.shown c.args.from.now.me
      c.acquire.new.seat.me c.acquire.ensures.taken true c.requires.share _,
)

pub release-requires-clause-held : goal.release-requires-clause-held
release-requires-clause-held g c =
    let sh = g.S.Held.shown in
    let m = c.args.from.now.me in
    let p = c.acquire.new.seat.me in
    let h = c.acquire.ensures.taken in
    let held = tie sh m p h c.slot_mut-held.result.now c.slot_mut-held.ensures.value in
    let q = c.split_seat-new.new.seat.me in
    let z = c.seat_lane.new.self in
    let s = c.in-Some.ensures.given in
    let is = s.1 ∙ ap (λ y. with_seat true (sh y)) (sym held) in
    let q-is = c.split_seat-new.ensures.2 in
    gives_can sh m p h true c.requires.share z is q q-is

pub returns-in-Some-clause-own : goal.returns-in-Some-clause-own
returns-in-Some-clause-own g c =
    let sh = g.S.Held.shown in
    let m = c.args.from.now.me in
    let p = c.acquire.new.seat.me in
    let h = c.acquire.ensures.taken in
    let held = tie sh m p h c.slot_mut-held.result.now c.slot_mut-held.ensures.value in
    let q = c.split_seat-new.new.seat.me in
    let z = c.seat_lane.new.self in
    let s = c.in-Some.ensures.given in
    let is = s.1 ∙ ap (λ y. with_seat true (sh y)) (sym held) in
    let q-is = c.split_seat-new.ensures.2 in (
      search rules,
      is_seat _ _ (gave_seat sh m p h true c.requires.share z is q c.release.new.seat.me q-is
          c.release.ensures.gave),
    )

pub returns-in-Some-clause-given : goal.returns-in-Some-clause-given
returns-in-Some-clause-given g c =
    let sh = g.S.Held.shown in
    let m = c.args.from.now.me in
    let p = c.acquire.new.seat.me in
    let h = c.acquire.ensures.taken in
    let held = tie sh m p h c.slot_mut-held.result.now c.slot_mut-held.ensures.value in
    let q = c.split_seat-new.new.seat.me in
    let z = c.seat_lane.new.self in
    let s = c.in-Some.ensures.given in
    let is = s.1 ∙ ap (λ y. with_seat true (sh y)) (sym held) in
    let q-is = c.split_seat-new.ensures.2 in
    let w = c.split_seat-new.result.me in
    let w-is = fresh_seat sh m p h true c.requires.share z is w c.split_seat-new.ensures.4 in
    let lane = s.0 ∙ ap (λ y. (sh y).seated) (sym held) in
    let there = subst (λ y. c.in-Some.lane < length (sh y).lanes) (sym held) c.in-Some.ensures.some in
    let n-is = gave_seat sh m p h true c.requires.share z is q c.release.new.seat.me q-is c.release.ensures.gave in (
      gives_lane sh m p h z c.requires.share is c.release.new.seat.me w n-is w-is c.in-Some.lane lane there,
      search rules,
      is_seat _ _ w-is,
    )

pub returns-in-None-clause-own : goal.returns-in-None-clause-own
returns-in-None-clause-own g c =
    let sh = g.S.Held.shown in
    let m = c.args.from.now.me in
    let p = c.acquire.new.seat.me in
    let h = c.acquire.ensures.taken in
    let held = tie sh m p h c.slot_mut-held.result.now c.slot_mut-held.ensures.value in
    let z = c.seat_lane.new.self in
    let is = c.in-None.ensures.none ∙ ap (λ y. sh y) (sym held) in
    let l = looked sh m p c.release-in-None.new.seat.me h z is c.release-in-None.ensures.gave in
    (search rules, is_seat _ _ l.0)

pub returns-in-None-clause-none : goal.returns-in-None-clause-none
returns-in-None-clause-none g c =
    let sh = g.S.Held.shown in
    let m = c.args.from.now.me in
    let p = c.acquire.new.seat.me in
    let h = c.acquire.ensures.taken in
    let held = tie sh m p h c.slot_mut-held.result.now c.slot_mut-held.ensures.value in
    let z = c.seat_lane.new.self in
    let is = c.in-None.ensures.none ∙ ap (λ y. sh y) (sym held) in
    let all = subst (λ y. length (sh y).lanes ≤ (sh y).seated) (sym held) c.in-None.ensures.all in
    has_none sh m p h z c.release-in-None.new.seat.me is c.release-in-None.ensures.gave all
