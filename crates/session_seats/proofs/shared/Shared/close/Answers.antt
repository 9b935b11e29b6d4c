use Rattle.std.proofs.Common.{rules, ◌≡◌, ℕ, ◌∷◌, map, List, sym, ap, ◌∙◌, subst, get_or, Global}
use Rattle.std.specs.declared.vec.Vec.{Vec}
use Rattle.atomic_table.specs.Table.{rest}
use Rattle.session_seats.specs.declared.view.Receipt.{Receipt}
use Rattle.session_seats.specs.Rules.{ShowsSight, sees}
use Rattle.session_seats.specs.Holds.{claim_of}
use Rattle.session_seats.specs.Closes.{AllWhole, Closes, together, receipts_of, items_of}
use Rattle.session_seats.proofs.JoinLaws.{checks_as, told_as, parts}
use Rattle.session_seats.proofs.CoverLaws.{covers}
use Rattle.session_seats.proofs.shared.Shared.close.Goals as goal

pub load-requires : goal.load-requires
load-requires g c =
    let h = c.in-Ok.ensures.taken.2.0 in
    let users = (g.S.Held.shown h.value).users in
    let mine = sees h.now (claim_of c.args.seat.inner.me) in
    let joined : c.join_all.new.base.me ≡ together users mine h.value c.args.others.items =
    c.join_all.ensures.joined users mine h.value h.is in (
      search rules,
      search rules,
      checks_as g.S.Held.shown _ _ c.join_all.new.base.me users mine h.value
          c.args.others.items joined,
    )

pub slot_mut-held-requires : goal.slot_mut-held-requires
slot_mut-held-requires g c =
    let h = c.in-Ok.ensures.taken.2.0 in
    let users = (g.S.Held.shown h.value).users in
    let mine = sees h.now (claim_of c.args.seat.inner.me) in
    let joined : c.join_all.new.base.me ≡ together users mine h.value c.args.others.items =
    c.join_all.ensures.joined users mine h.value h.is in
    let hand = ap (λ x. x.1) (c.load.ensures.2.0 ∙ joined) in
    (search rules, (h.value, hand ∙ ap (λ l. (0, h.value) ∷ rest l) (sym hand)))

pub returns : goal.returns
returns g c =
    let h = c.in-Ok.ensures.taken.2.0 in
    let users = (g.S.Held.shown h.value).users in
    let mine = sees h.now (claim_of c.args.seat.inner.me) in
    let joined : c.join_all.new.base.me ≡ together users mine h.value c.args.others.items =
    c.join_all.ensures.joined users mine h.value h.is in
    let told = told_as g.S.Held.shown 0 0 c.join_all.new.base.me c.load.new.seat.me users mine h.value
    c.args.others.items joined c.load.ensures.2 in
    let hand = ap (λ x. x.1) (c.load.ensures.2.0 ∙ joined) in
    let held : c.slot_mut-held.result.now ≡ h.value = ap (λ (l : List (ℕ × _)). (get_or l 0 (0, h.value)).1)
    (sym c.slot_mut-held.ensures.value ∙ hand) in
    let lists : c.join_all.new.lists.items ≡ c.args.seat.receipts ∷ receipts_of c.args.others.items = search rules in
    let all = c.has_all.ensures (search rules) in
    let whole = subst (λ (l : List _). AllWhole l) c.deref.ensures.value all.1 in
    let own = c.args.seat.told all.0 ∙ sym h.took.made in
    let closes : Closes g.S.Held.shown (c.args.seat ∷ c.args.others.items) record
    { value = c.replace-value.result; receipts = c.join_all.new.lists } = record {
      now = h.now;
      shows = subst (λ y. ShowsSight (g.S.Held.shown y) h.now) (sym (c.replace-value.ensures.value ∙ held))
          h.took.shows;
      lawful = told.lawful;
      receipts = ap (λ (l : List (Vec Receipt Global)). map items_of l) lists
          ∙ (λ i. own i ∷ parts h.now c.args.others.items whole told.all.1 i);
      distinct = told.distinct;
      told = (
        record { later = h.took.later; made = h.took.made; given = h.took.given; there = h.took.there },
        told.all.1,
      );
    } in
    record {
      closes = (closes, search rules);
      covers = covers g.S.Held.shown (c.args.seat ∷ c.args.others.items) _
          closes;
      kept = tt;
    }
