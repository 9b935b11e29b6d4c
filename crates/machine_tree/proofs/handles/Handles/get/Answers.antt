use Rattle.std.proofs.Common.{rules, ◌∙◌, sym}
use Rattle.machine_tree.proofs.NumberLaws.{IsNumberOf, found_at, none_open}
use Rattle.machine_tree.proofs.handles.Handles.get.Goals as goal

pub returns-in-Some : goal.returns-in-Some
returns-in-Some c =
    let at : IsNumberOf c.in-Some.number c.args.handle.now = search rules in
    c.get.ensures.value ∙ found_at c.self.inside.by_number.entries c.args.self.now c.args.handle.now c.in-Some.number
    c.self.invariant at c.self.view_is

pub returns-in-None : goal.returns-in-None
returns-in-None c = sym (none_open c.self.inside.by_number.entries c.args.self.now c.args.handle.now (search rules)
    c.self.view_is)
