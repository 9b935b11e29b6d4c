use Rattle.transfer_copy.proofs.GetLaws.{leaves_then, read_came, read_failed, read_idle, read_missing}
use Rattle.transfer_copy.proofs.get.FileGet.read.Goals as goal

pub returns-in-Came-clause-did : goal.returns-in-Came-clause-did
returns-in-Came-clause-did g c =
    read_came g.F.LocalFile.done c.args.core.now c.take_part.new.core c.go_on.new.core c.args.self.now c.go_on.new.self
    c.take_part.new.self c.in-Came.reply c.in-Came.len _ _ c.go_on.result c.in-Came.ensures.takes c.go_on.ensures.did
    c.go_on.ensures.moved

pub returns-in-Came-clause-leaves : goal.returns-in-Came-clause-leaves
returns-in-Came-clause-leaves g c =
    leaves_then c.args.core.now c.take_part.new.core c.go_on.new.core c.args.self.now c.go_on.new.self
    c.take_part.new.self
    c.in-Came.ensures.apart c.go_on.ensures.leaves

pub returns-in-Failed-clause-did : goal.returns-in-Failed-clause-did
returns-in-Failed-clause-did g c =
    read_failed g.F.LocalFile.done c.args.core.now c.take_part.new.core c.fail.new.core c.args.self.now c.fail.new.self
    c.take_part.new.self _ c.fail.result c.fail.ensures.did c.fail.ensures.moved

pub returns-in-Missing-clause-did : goal.returns-in-Missing-clause-did
returns-in-Missing-clause-did g c =
    read_missing g.F.LocalFile.done c.args.core.now c.take_part.new.core c.ask_more.new.core c.args.self.now
    c.ask_more.new.self c.take_part.new.self _ c.ask_more.result c.in-Missing.ensures.takes c.ask_more.ensures.did

pub returns-in-Idle-clause-did : goal.returns-in-Idle-clause-did
returns-in-Idle-clause-did g c =
    read_idle g.F.LocalFile.done c.args.core.now c.take_part.new.core c.ask_more-in-Idle.new.core c.args.self.now
    c.ask_more-in-Idle.new.self c.take_part.new.self _ c.ask_more-in-Idle.result c.in-Idle.ensures.takes
    c.ask_more-in-Idle.ensures.did
