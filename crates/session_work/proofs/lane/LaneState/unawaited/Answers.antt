use Rattle.std.proofs.Common.{rules, ◌≡◌, ap, sym, ◌∙◌, List}
use Rattle.std.specs.Prelude.{slice_get}
use Rattle.std.specs.List.{list_any}
use Rattle.session_laws.specs.Lanes.{LaneValue, Ticketed}
use Rattle.session_work.specs.Tokens.{slot_awaits}
use Rattle.session_work.proofs.Forgotten.{none_awaits, some_awaits}
use Rattle.session_work.proofs.lane.LaneState.unawaited.Goals as goal

pub returns-clause-none : goal.returns-clause-none
returns-clause-none c = λ k t none got.
    (let v : LaneValue = c.args.self.now in
    let tickets : c.deref.result.now ≡ v.tickets = c.deref.ensures.value
    ∙ ap (λ (x : LaneValue). x.tickets) c.self.view_is in
    let slots : c.as_slice.result.now ≡ v.site.slots = search rules in
    some_awaits t.place v.site.slots (ap (list_any (slot_awaits t.place)) (sym slots)
    ∙ c.unawaited_at.ensures.missing k t none (ap (λ (ts : List Ticketed). slice_get ts k) tickets ∙ got)))

pub returns-clause-some : goal.returns-clause-some
returns-clause-some c = λ k t is got.
    (let v : LaneValue = c.args.self.now in
    let tickets : c.deref.result.now ≡ v.tickets = c.deref.ensures.value
    ∙ ap (λ (x : LaneValue). x.tickets) c.self.view_is in
    let slots : c.as_slice.result.now ≡ v.site.slots = search rules in
    none_awaits t.place v.site.slots (ap (list_any (slot_awaits t.place)) (sym slots)
    ∙ c.unawaited_at.ensures.found k t is (ap (λ (ts : List Ticketed). slice_get ts k) tickets ∙ got)))

pub returns-clause-first : goal.returns-clause-first
returns-clause-first c = λ k j t is below got.
    (let v : LaneValue = c.args.self.now in
    let tickets : c.deref.result.now ≡ v.tickets = c.deref.ensures.value
    ∙ ap (λ (x : LaneValue). x.tickets) c.self.view_is in
    let slots : c.as_slice.result.now ≡ v.site.slots = search rules in
    some_awaits t.place v.site.slots (ap (list_any (slot_awaits t.place)) (sym slots)
    ∙ c.unawaited_at.ensures.first k j t is below (ap (λ (ts : List Ticketed). slice_get ts j) tickets ∙ got)))
