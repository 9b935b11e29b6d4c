use Rattle.std.proofs.Common.{rules, ◌≡◌, [], ◌∷◌, ◌++◌, Some}
use Rattle.std.specs.List.{slice_get}
use Rattle.transfer_plan.proofs.WalkLaws.{added_by, adds_by}
use Rattle.transfer_plan.proofs.walk.Walk.add.Goals as goal

pub invariant_of-self-2 : goal.invariant_of-self-2
invariant_of-self-2 c =
    let items : c.push.new.self.items ≡ c.self.inside.found.items ++ c.in_ok-entry.entry ∷ [] = search rules in
    let listed : slice_get c.self.inside.found.items c.self.inside.at ≡ Some c.at_place-folder.result.now = search rules
    in
    added_by _ c.at_place-folder.result.now c.in_ok-entry.entry c.push.new.self.items c.args.name.now c.args.kind
    c.args.attrs
    c.self.invariant listed c.in_ok-entry.ensures items

pub returns : goal.returns
returns c =
    let items : c.push.new.self.items ≡ c.self.inside.found.items ++ c.in_ok-entry.entry ∷ [] = search rules in
    let listed : slice_get c.self.inside.found.items c.self.inside.at ≡ Some c.at_place-folder.result.now = search rules
    in
    adds_by _ c.args.self.now c.at_place-folder.result.now c.in_ok-entry.entry c.push.new.self.items c.args.name.now
    c.args.kind c.args.attrs c.self.view_is listed c.in_ok-entry.ensures items
