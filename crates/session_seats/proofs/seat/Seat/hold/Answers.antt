use Rattle.std.proofs.Common.{◌≡◌, ◌++◌, sym, ap, ◌∙◌, subst, List, length, reverse, OnOk, Result}
use Rattle.std.proofs.lemmas.List.{length-reverse}
use Rattle.session_model.specs.declared.entry.Entry.{Entry}
use Rattle.session_seats.specs.declared.view.Receipt.{Receipt}
use Rattle.session_seats.specs.Holds.{Applied, HasUsers, GoesByEntries, passes}
use Rattle.session_seats.specs.Sights.{made_on}
use Rattle.session_seats.specs.Wakes.{tide_of}
use Rattle.session_seats.proofs.HoldLaws.{
  can_release,
  concerned_on,
  has_users,
  holds,
  names_after,
  receipts_on,
  seat_after,
  shares_after,
  tie,
  told_after,
}
use Rattle.session_seats.proofs.seat.Seat.hold.Goals as goal

pub act-did-requires : goal.act-did-requires
act-did-requires g c =
    let h = c.acquire.ensures.taken in
    let held = tie g.S.Held.shown c.args.self.now.inner.me c.acquire.new.seat.me h c.slot_mut-held.result.now
    c.slot_mut-held.ensures.value in
    subst (λ y. HasUsers (g.E.Event.needs c.args.event) (g.S.Held.shown y)) held
    (has_users g.S.Held.shown c.args.self.now.inner.me c.acquire.new.seat.me h (g.E.Event.needs c.args.event)
    c.requires.may.1)

pub release-requires-clause-held : goal.release-requires-clause-held
release-requires-clause-held g c =
    let h = c.acquire.ensures.taken in
    let z = c.act-did.new.value in
    let held : h.value ≡ c.slot_mut-held.result.now = tie g.S.Held.shown c.args.self.now.inner.me c.acquire.new.seat.me h
    c.slot_mut-held.result.now c.slot_mut-held.ensures.value in
    let more = c.act-did.ensures.goes.0 in
    let goes = subst (λ y. GoesByEntries (passes (g.E.Event.only c.args.event) c.args.self.now.lane)
    (g.E.Event.needs c.args.event) more (g.S.Held.shown y) (g.S.Held.shown z)) (sym held) c.act-did.ensures.goes.1
    in
    can_release g.S.Held.shown c.args.self.now.inner.me c.acquire.new.seat.me h z c.args.self.now.lane
    (g.E.Event.only c.args.event c.args.self.now.lane) (g.E.Event.needs c.args.event) more goes
    c.args.self.now.named c.requires.may.0 c.requires.may.1

pub returns-clause-held : goal.returns-clause-held
returns-clause-held g c =
    let h = c.acquire.ensures.taken in
    let z = c.act-did.new.value in
    let held : h.value ≡ c.slot_mut-held.result.now = tie g.S.Held.shown c.args.self.now.inner.me c.acquire.new.seat.me h
    c.slot_mut-held.result.now c.slot_mut-held.ensures.value in
    let more = c.act-did.ensures.goes.0 in
    let goes = subst (λ y. GoesByEntries (passes (g.E.Event.only c.args.event) c.args.self.now.lane)
    (g.E.Event.needs c.args.event) more (g.S.Held.shown y) (g.S.Held.shown z)) (sym held) c.act-did.ensures.goes.1
    in
    let does = subst (λ y. g.E.Event.does c.args.event c.args.self.now.lane y z c.act-did.result) (sym held)
    c.act-did.ensures.does in
    let past = (g.S.Held.shown h.value).past in
    let from : length c.entries-from.result.now ≡ length past = sym (length-reverse c.entries-from.result.now)
    ∙ ap (λ (l : List Entry). length l) (c.entries-from.ensures ∙ ap (λ y. (g.S.Held.shown y).past) (sym held)) in
    let listed : reverse c.entries-journal.result.now ≡ more ++ past = c.entries-journal.ensures ∙ goes.past in
    let is = receipts_on c.entries-journal.result.now more past (length c.entries-from.result.now) listed from in
    let concerned = concerned_on c.entries-journal.result.now more past (length c.entries-from.result.now)
    c.tide-before.result (tide_of (g.S.Held.shown h.value).counts) c.tide-after.result (tide_of (g.S.Held.shown z).counts)
    listed from
    (c.tide-before.ensures ∙ ap (λ y. tide_of (g.S.Held.shown y).counts) (sym held)) c.tide-after.ensures in
    holds g.S.Held.shown c.args.self.now.inner.me c.acquire.new.seat.me h z c.args.self.now.lane
    (g.E.Event.only c.args.event c.args.self.now.lane) (g.E.Event.needs c.args.event) more goes
    c.release.new.seat.me _ c.release.ensures.gave (
      record {
        goes = goes;
        does = does;
        kept = subst (λ (r : List Receipt). OnOk c.copy_from-copied.result
            (c.copy_from-copied.new.receipts.items ≡ c.args.self.now.receipts.items ++ r)) is
            c.copy_from-copied.ensures;
      },
      c.concerned-concerned.ensures ∙ concerned,
    )

pub invariant_of-self : goal.invariant_of-self
invariant_of-self g c =
    let h = c.acquire.ensures.taken in
    let z = c.act-did.new.value in
    let held : h.value ≡ c.slot_mut-held.result.now = tie g.S.Held.shown c.args.self.now.inner.me c.acquire.new.seat.me h
    c.slot_mut-held.result.now c.slot_mut-held.ensures.value in
    let more = c.act-did.ensures.goes.0 in
    let goes = subst (λ y. GoesByEntries (passes (g.E.Event.only c.args.event) c.args.self.now.lane)
    (g.E.Event.needs c.args.event) more (g.S.Held.shown y) (g.S.Held.shown z)) (sym held) c.act-did.ensures.goes.1
    in
    let does = subst (λ y. g.E.Event.does c.args.event c.args.self.now.lane y z c.act-did.result) (sym held)
    c.act-did.ensures.does in
    let past = (g.S.Held.shown h.value).past in
    let from : length c.entries-from.result.now ≡ length past = sym (length-reverse c.entries-from.result.now)
    ∙ ap (λ (l : List Entry). length l) (c.entries-from.ensures ∙ ap (λ y. (g.S.Held.shown y).past) (sym held)) in
    let is = receipts_on c.entries-journal.result.now more past (length c.entries-from.result.now)
    (c.entries-journal.ensures ∙ goes.past) from in
    let Did = Applied g.S.Held.shown (passes (g.E.Event.only c.args.event) c.args.self.now.lane)
    (g.E.Event.needs c.args.event) (λ y z. g.E.Event.does c.args.event c.args.self.now.lane y z c.act-did.result)
    c.copy_from-copied.result c.args.self.now.receipts.items c.copy_from-copied.new.receipts.items in
    let hold = holds g.S.Held.shown c.args.self.now.inner.me c.acquire.new.seat.me h z c.args.self.now.lane
    (g.E.Event.only c.args.event c.args.self.now.lane) (g.E.Event.needs c.args.event) more goes
    c.release.new.seat.me Did c.release.ensures.gave
    record {
      goes = goes;
      does = does;
      kept = subst (λ (r : List Receipt). OnOk c.copy_from-copied.result
          (c.copy_from-copied.new.receipts.items ≡ c.args.self.now.receipts.items ++ r)) is c.copy_from-copied.ensures;
    } in
    record {
      free = seat_after g.S.Held.shown c.args.self.now.inner.me c.release.new.seat.me hold;
      named = names_after g.S.Held.shown c.args.self.now.inner.me c.release.new.seat.me hold c.args.self.now.lane
          c.args.self.now.named;
      shares = shares_after g.S.Held.shown c.args.self.now.inner.me c.acquire.new.seat.me h z
          (passes (g.E.Event.only c.args.event) c.args.self.now.lane)
          (g.E.Event.needs c.args.event) more goes c.requires.may.1 c.release.new.seat.me c.release.ensures.gave
          c.args.self.now.share
          c.users.result c.users-2.result c.args.self.now.shares (c.users.ensures
          ∙ ap (λ y. (g.S.Held.shown y).users) (sym held))
          c.users-2.ensures;
      told = λ whole. told_after g.S.Held.shown c.args.self.now.inner.me c.release.new.seat.me hold
          c.args.self.now.receipts.items c.copy_from-copied.new.receipts.items
          (c.args.self.now.told (c.has_kept-self.ensures.whole whole))
          (subst (λ (r : Result (Unit {0}) _). OnOk r (c.copy_from-copied.new.receipts.items
          ≡ c.args.self.now.receipts.items ++ made_on (length (g.S.Held.shown hold.before).past) hold.more))
          (c.has_kept-self.ensures.copied whole) hold.did.kept);
    }
