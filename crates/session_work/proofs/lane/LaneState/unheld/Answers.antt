use Rattle.std.proofs.Common.{rules, ◌≡◌, ◌<◌, ap, sym, ◌∙◌, List, Some, length}
use Rattle.std.specs.Prelude.{slice_get}
use Rattle.sftp_model.specs.Slots.{has_grant}
use Rattle.sftp_model.specs.declared.slot.Site.{Site}
use Rattle.session_laws.specs.Lanes.{Held, LaneValue}
use Rattle.session_work.proofs.Unheld.{first_unheld, none_unheld, some_at}
use Rattle.session_work.proofs.lane.LaneState.unheld.Goals as goal

pub returns-clause-none : goal.returns-clause-none
returns-clause-none c =
    let v : LaneValue = c.args.self.now in
    let site : c.self.inside.site ≡ v.site = ap (λ (x : LaneValue). x.site) c.self.view_is in
    let grants : c.deref.result.now ≡ v.grants = c.deref.ensures.value ∙ ap (λ (x : LaneValue). x.grants) c.self.view_is
    in
    λ none. none_unheld v.site v.grants (λ i g got. ap (λ (x : Site). has_grant x g.place) (sym site)
    ∙ c.unheld_at.ensures.missing i g none (ap (λ (gs : List Held). slice_get gs i) grants ∙ got))

pub returns-clause-first : goal.returns-clause-first
returns-clause-first c =
    let v : LaneValue = c.args.self.now in
    let site : c.self.inside.site ≡ v.site = ap (λ (x : LaneValue). x.site) c.self.view_is in
    let grants : c.deref.result.now ≡ v.grants = c.deref.ensures.value ∙ ap (λ (x : LaneValue). x.grants) c.self.view_is
    in
    λ k is.
    (let lt : k < length c.deref.result.now = search rules in
    let g = some_at c.deref.result.now k lt in
    let got : slice_get v.grants k ≡ Some g.0 = ap (λ (gs : List Held). slice_get gs k) (sym grants) ∙ g.1 in (
      g.0,
      (
        got,
        first_unheld v.site v.grants k g.0 got (ap (λ (x : Site). has_grant x g.0.place) (sym site)
            ∙ c.unheld_at.ensures.found k g.0 is g.1) (λ i h before here. ap (λ (x : Site). has_grant x h.place)
            (sym site) ∙ c.unheld_at.ensures.before k i h is before
            (ap (λ (gs : List Held). slice_get gs i) grants ∙ here)),
      ),
    ))
