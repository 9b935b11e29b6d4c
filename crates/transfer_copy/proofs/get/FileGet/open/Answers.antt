use Rattle.transfer_copy.proofs.GetLaws.{leaves_then, open_granted}
use Rattle.transfer_copy.proofs.get.FileGet.open.Goals as goal

pub returns-in-Granted-clause-did : goal.returns-in-Granted-clause-did
returns-in-Granted-clause-did g c =
    open_granted g.F.LocalFile.done c.args.part.now c.args.core.now c.settle.new.core c.make.new.core c.args.self.now
    c.make.new.self c.settle.new.self _ _ c.make.result c.in-Granted.ensures.settles c.make.ensures.did
    c.make.ensures.moved

pub returns-in-Granted-clause-leaves : goal.returns-in-Granted-clause-leaves
returns-in-Granted-clause-leaves g c =
    leaves_then c.args.core.now c.settle.new.core c.make.new.core c.args.self.now c.make.new.self c.settle.new.self
    c.in-Granted.ensures.apart c.make.ensures.leaves
