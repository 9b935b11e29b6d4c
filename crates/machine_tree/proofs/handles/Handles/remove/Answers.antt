use Rattle.std.proofs.Common.{rules, sym, subst, List, ℕ}
use Rattle.std.specs.BTreeMap.{is_at}
use Rattle.std.specs.Ordering.{nat_cmp}
use Rattle.machine_model.specs.declared.opened.Opened.{Opened}
use Rattle.machine_tree.specs.Numbers.{AreNumbers}
use Rattle.machine_tree.proofs.NumberLaws.{IsNumberOf, none_open, numbers_remove, removed_at, without_none}
use Rattle.machine_tree.proofs.handles.Handles.remove.Goals as goal

pub invariant_of-self : goal.invariant_of-self
invariant_of-self c = subst (λ (w : List (ℕ × Opened)). AreNumbers w) (sym c.take.ensures)
    (numbers_remove c.self.inside.by_number.entries (is_at (nat_cmp c.in-Some.number)) c.self.invariant)

pub returns-in-Some : goal.returns-in-Some
returns-in-Some c =
    let at : IsNumberOf c.in-Some.number c.args.handle.now = search rules in
    removed_at c.self.inside.by_number.entries c.take.new.by_number.entries c.args.self.now c.args.handle.now
    c.in-Some.number c.self.invariant at c.self.view_is
    c.take.ensures

pub returns-in_default : goal.returns-in_default
returns-in_default c = sym (without_none c.args.self.now c.args.handle.now
    (none_open c.self.inside.by_number.entries c.args.self.now c.args.handle.now (search rules) c.self.view_is))
