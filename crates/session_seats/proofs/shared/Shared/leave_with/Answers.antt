use Rattle.std.proofs.Common.{◌≡◌, ◌<◌, ◌-◌, ◌==◌, sym, subst}
use Rattle.session_seats.specs.Sights.{one_if}
use Rattle.session_seats.specs.Users.{with_users}
use Rattle.session_seats.proofs.HoldLaws.{is_seat, tie}
use Rattle.session_seats.proofs.UserLaws.{can_leave, leave_can, leaves, turned}
use Rattle.session_seats.proofs.shared.Shared.leave_with.Goals as goal

pub leave-last-requires : goal.leave-last-requires
leave-last-requires g c =
    let sh = g.S.Held.shown in
    let h = c.acquire.ensures.taken in
    let held = tie sh c.args.seat.now.me c.acquire.new.seat.me h c.slot_mut-held.result.now
    c.slot_mut-held.ensures.value in
    subst (λ y. (0 < (sh y).users) × ((sh y).counts.stage ≡ 0)) held
    (can_leave sh c.args.seat.now.me c.acquire.new.seat.me h c.requires.share)

pub release-requires-clause-held : goal.release-requires-clause-held
release-requires-clause-held g c =
    let sh = g.S.Held.shown in
    let m = c.args.seat.now.me in
    let p = c.acquire.new.seat.me in
    let h = c.acquire.ensures.taken in
    let z = c.leave-last.new.self in
    let last = c.leave-last.result in
    let held = tie sh m p h c.slot_mut-held.result.now c.slot_mut-held.ensures.value in
    let did = subst (λ y. (last ≡ ((sh y).users == 1)) × (sh z ≡ with_users ((sh y).users - 1) (one_if last) (sh y)))
    (sym held) (c.leave-last.ensures.last, c.leave-last.ensures.left) in
    leave_can sh m p h c.requires.share z last did.1 did.0

pub returns-clause-free : goal.returns-clause-free
returns-clause-free g c =
    let sh = g.S.Held.shown in
    let m = c.args.seat.now.me in
    let p = c.acquire.new.seat.me in
    let h = c.acquire.ensures.taken in
    let z = c.leave-last.new.self in
    let last = c.leave-last.result in
    let held = tie sh m p h c.slot_mut-held.result.now c.slot_mut-held.ensures.value in
    let did = subst (λ y. (last ≡ ((sh y).users == 1)) × (sh z ≡ with_users ((sh y).users - 1) (one_if last) (sh y)))
    (sym held) (c.leave-last.ensures.last, c.leave-last.ensures.left) in
    is_seat _ _ (turned sh m p h z _ (one_if last) did.1 c.release.new.seat.me c.release.ensures.gave)

pub returns-clause-left : goal.returns-clause-left
returns-clause-left g c =
    let sh = g.S.Held.shown in
    let m = c.args.seat.now.me in
    let p = c.acquire.new.seat.me in
    let h = c.acquire.ensures.taken in
    let z = c.leave-last.new.self in
    let last = c.leave-last.result in
    let held = tie sh m p h c.slot_mut-held.result.now c.slot_mut-held.ensures.value in
    let did = subst (λ y. (last ≡ ((sh y).users == 1)) × (sh z ≡ with_users ((sh y).users - 1) (one_if last) (sh y)))
    (sym held) (c.leave-last.ensures.last, c.leave-last.ensures.left) in
    leaves sh m p h c.requires.share z last did.1 did.0 c.release.new.seat.me c.release.ensures.gave
