use Rattle.std.proofs.Common.{rules, ◌≡◌, ◌<◌, ap, sym, ◌∙◌, ℕ, List, Some, false, length}
use Rattle.std.specs.Prelude.{slice_get}
use Rattle.std.specs.List.{list_any}
use Rattle.sftp_model.specs.Slots.{grant_of, slot_has}
use Rattle.session_laws.specs.Lanes.{Held, LaneValue}
use Rattle.session_work.proofs.Unheld.{held_no_more, later_has, some_at}
use Rattle.session_work.proofs.lane.LaneState.closing.Goals as goal

pub returns-then-some_has-clause-none : goal.returns-then-some_has-clause-none
returns-then-some_has-clause-none c =
    let is : grant_of c.args.slot.now ≡ Some c.in-Some.grant = sym c.grant_of.ensures ∙ c.in-Some.is in
    λ none. later_has c.args.self.now.grants c.args.slot.now c.args.later.now c.in-Some.grant is
    (sym c.some_has.ensures ∙ c.if-some_has.true)

pub returns-clause-none : goal.returns-clause-none
returns-clause-none c =
    let v : LaneValue = c.args.self.now in
    let grants : c.deref.result.now ≡ v.grants = c.deref.ensures.value ∙ ap (λ (x : LaneValue). x.grants) c.self.view_is
    in
    let is : grant_of c.args.slot.now ≡ Some c.in-Some.grant = sym c.grant_of.ensures ∙ c.in-Some.is in
    λ none. held_no_more v.grants c.args.slot.now c.args.later.now c.in-Some.grant is
    (λ k g got. c.grant_at.ensures.missing k g none (ap (λ (gs : List Held). slice_get gs k) grants ∙ got))

pub returns-clause-some : goal.returns-clause-some
returns-clause-some c =
    let v : LaneValue = c.args.self.now in
    let grants : c.deref.result.now ≡ v.grants = c.deref.ensures.value ∙ ap (λ (x : LaneValue). x.grants) c.self.view_is
    in
    let is : grant_of c.args.slot.now ≡ Some c.in-Some.grant = sym c.grant_of.ensures ∙ c.in-Some.is in
    let later : list_any (slot_has c.in-Some.grant) c.args.later.now ≡ false = search rules in
    λ k found.
    (let lt : k < length c.deref.result.now = search rules in
    let g = some_at c.deref.result.now k lt in
    let stands : g.0.place ≡ c.in-Some.grant = c.grant_at.ensures.found k g.0 found g.1 in (
      g.0,
      (
        ap (λ (gs : List Held). slice_get gs k) (sym grants) ∙ g.1,
        is ∙ ap (λ (p : ℕ). Some p) (sym stands),
        ap (λ (p : ℕ). list_any (slot_has p) c.args.later.now) stands ∙ later,
      ),
    ))
