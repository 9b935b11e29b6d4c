use Rattle.std.proofs.Common.{rules, ◌≡◌, false}
use Rattle.transfer_copy.proofs.NamingLaws.{plain_named}
use Rattle.transfer_copy.proofs.get.name_part.Goals as goal

pub returns : goal.returns
returns g c =
    let off : c.args.sync ≡ false = search rules in
    plain_named g.F.LocalFile.done c.args.sync c.args.part.now c.args.name.now c.rename.result _ _ off c.rename.ensures
