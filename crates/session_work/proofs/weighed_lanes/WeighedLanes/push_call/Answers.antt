use Rattle.std.proofs.Common.{◌≡◌, ◌<◌, ◌^◌, ◌∙◌, List, length, min, rules, ap, sym}
use Rattle.std.specs.List.{sum_by}
use Rattle.plan_model.specs.declared.call.Lane.{Lane}
use Rattle.plan_model.specs.Lanes.{lane_weight}
use Rattle.session_driver.specs.Adding.{with_call}
use Rattle.session_work.proofs.WeightLaws.{weighs_with}
use Rattle.session_work.proofs.weighed_lanes.WeighedLanes.push_call.Goals as goal

pub invariant_of-self-2 : goal.invariant_of-self-2
invariant_of-self-2 c =
    let lt : c.args.lane < length c.self.inside.lanes = rw (← c.self.view_is) at c.requires in
    let added : c.add_call.new.lanes ≡ with_call c.self.inside.lanes c.args.lane c.args.call = search rules in
    c.limited_sum-weight.ensures
    ∙ weighs_with c.self.inside.lanes c.self.inside.weight c.weight.result c.args.lane c.args.call lt c.self.invariant
    c.weight.ensures
    ∙ ap (λ (lanes : List Lane). min (sum_by lane_weight lanes) (2 ^ 31)) (sym added)
