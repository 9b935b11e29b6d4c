use Rattle.std.proofs.Common.{rules, ◌<◌, ◌^◌}
use Rattle.machine_tree.proofs.NumberLaws.{numbers_put, put_last}
use Rattle.machine_tree.proofs.handles.Handles.push.Goals as goal

pub invariant_of-self : goal.invariant_of-self
invariant_of-self c =
    let fits : c.args.number < 2 ^ 32 = search rules in
    numbers_put c.self.inside.by_number.entries c.put.new.by_number.entries c.args.self.now c.args.number c.args.opened
    c.put.result c.self.invariant fits
    c.self.view_is c.requires c.put.ensures.left c.put.ensures.unchanged

pub returns-clause-left : goal.returns-clause-left
returns-clause-left c =
    let fits : c.args.number < 2 ^ 32 = search rules in
    put_last c.self.inside.by_number.entries c.put.new.by_number.entries c.args.self.now c.args.number c.args.opened
    c.put.result c.self.invariant fits
    c.self.view_is c.requires c.put.ensures.left
