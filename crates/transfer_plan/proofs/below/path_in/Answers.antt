use Rattle.std.proofs.Common.{rules, ◌≡◌, subst, sym}
use Rattle.transfer_plan.proofs.PathLaws.{leads_into}
use Rattle.transfer_plan.specs.Names.{LeadsInto, path_in}
use Rattle.transfer_plan.proofs.below.path_in.Goals as goal

pub returns-clause-below : goal.returns-clause-below
returns-clause-below c = λ e.
    let is : c.extend_from_slice.new.self.items ≡ path_in c.args.folder.now c.args.name.now = search rules in
    subst (LeadsInto c.args.folder.now c.args.name.now) (sym is) (leads_into c.args.folder.now c.args.name.now e)
