use Rattle.std.proofs.Common.{rules}
use Rattle.transfer_copy.proofs.PutLaws.{gave_on}
use Rattle.transfer_copy.proofs.put.FilePut.give_attrs.Goals as goal

pub returns-in-Ok-clause-leaves : goal.returns-in-Ok-clause-leaves
returns-in-Ok-clause-leaves c =
    gave_on c.args.core.now c.ask_attrs.new.core c.args.self.now c.ask_attrs.new.self c.args.attrs
    (search rules) c.requires.1 (search rules) c.in-Ok.ensures.ok.0 c.in-Ok.ensures.ok.1
