use Rattle.std.proofs.Common.{rules, sym}
use Rattle.machine_tree.proofs.NumberLaws.{IsNumberOf, given_at_number, given_none, none_open, numbers_given}
use Rattle.machine_tree.proofs.handles.Handles.drop_entries.Goals as goal

pub invariant_of-self : goal.invariant_of-self
invariant_of-self c = numbers_given c.self.inside.by_number.entries c.drop_first_at.new.by_number.entries
    c.in-Some.number c.args.n c.self.invariant c.drop_first_at.ensures

pub returns-in-Some : goal.returns-in-Some
returns-in-Some c =
    let at : IsNumberOf c.in-Some.number c.args.handle.now = search rules in
    given_at_number c.self.inside.by_number.entries c.drop_first_at.new.by_number.entries c.args.self.now
    c.args.handle.now c.in-Some.number c.args.n c.self.invariant
    at c.self.view_is c.drop_first_at.ensures

pub returns-in_default : goal.returns-in_default
returns-in_default c = sym (given_none c.args.self.now c.args.handle.now c.args.n
    (none_open c.self.inside.by_number.entries c.args.self.now c.args.handle.now (search rules) c.self.view_is))
