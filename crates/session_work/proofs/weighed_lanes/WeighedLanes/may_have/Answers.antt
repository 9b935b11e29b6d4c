use Rattle.std.proofs.Common.{◌≡◌, false, true, rules, sym}
use Rattle.plan_model.specs.Lanes.{are_ok, is_within}
use Rattle.session_work.proofs.WeightLaws.{not_ok_with, ok_with}
use Rattle.session_work.proofs.weighed_lanes.WeighedLanes.may_have.Goals as goal

pub returns-then-is_within : goal.returns-then-is_within
returns-then-is_within c =
    let ok : are_ok c.self.inside.lanes ≡ true = rw (← c.self.view_is) at c.requires.ok in
    let within : is_within c.args.call.now ≡ true = search rules in
    λ lane lt. rw (← c.self.view_is) (ok_with c.self.inside.lanes c.self.inside.weight c.weight.result
    c.limited_sum.result lane c.args.call.now ok within c.self.invariant c.weight.ensures c.limited_sum.ensures
    (rw (← c.self.view_is) at lt))

pub returns-else-is_within : goal.returns-else-is_within
returns-else-is_within c =
    let ok : are_ok c.self.inside.lanes ≡ true = rw (← c.self.view_is) at c.requires.ok in
    let out : c.is_within.result ≡ false = search rules in
    λ lane lt. rw (← c.self.view_is) (not_ok_with c.self.inside.lanes lane c.args.call.now c.is_within.result ok
    (sym c.is_within.ensures) out (rw (← c.self.view_is) at lt))
