use Rattle.transfer_copy.proofs.PutLaws.{put_leaves_then, write_came, write_failed, write_idle, write_missing}
use Rattle.transfer_copy.proofs.put.FilePut.write.Goals as goal

pub returns-in-Came-clause-did : goal.returns-in-Came-clause-did
returns-in-Came-clause-did g c =
    write_came g.F.LocalFile.done c.args.core.now c.take_part.new.core c.accept.new.core c.args.self.now
    c.accept.new.self
    c.take_part.new.self c.in-Came.reply c.in-Came.len _ c.accept.result c.in-Came.ensures.takes c.accept.ensures.did
    c.accept.ensures.moved

pub returns-in-Came-clause-leaves : goal.returns-in-Came-clause-leaves
returns-in-Came-clause-leaves g c =
    put_leaves_then c.args.core.now c.take_part.new.core c.accept.new.core c.args.self.now c.accept.new.self
    c.take_part.new.self
    c.in-Came.ensures.apart c.accept.ensures.leaves

pub returns-in-Failed-clause-did : goal.returns-in-Failed-clause-did
returns-in-Failed-clause-did g c =
    write_failed g.F.LocalFile.done c.args.core.now c.take_part.new.core c.fail.new.core c.args.self.now c.fail.new.self
    c.take_part.new.self _ c.fail.result c.fail.ensures.did c.fail.ensures.moved

pub returns-in-Failed-clause-leaves : goal.returns-in-Failed-clause-leaves
returns-in-Failed-clause-leaves g c =
    put_leaves_then c.args.core.now c.take_part.new.core c.fail.new.core c.args.self.now c.fail.new.self
    c.take_part.new.self
    c.in-Failed.ensures.apart c.fail.ensures.leaves

pub returns-in-Missing-clause-did : goal.returns-in-Missing-clause-did
returns-in-Missing-clause-did g c =
    write_missing g.F.LocalFile.done c.args.core.now c.take_part.new.core c.send.new.core c.args.self.now
    c.send.new.self c.take_part.new.self _ _ c.send.result c.in-Missing.ensures.takes c.send.ensures.did

pub returns-in-Idle-clause-did : goal.returns-in-Idle-clause-did
returns-in-Idle-clause-did g c =
    write_idle g.F.LocalFile.done c.args.core.now c.take_part.new.core c.send-in-Idle.new.core c.args.self.now
    c.send-in-Idle.new.self c.take_part.new.self _ _ c.send-in-Idle.result c.in-Idle.ensures.takes
    c.send-in-Idle.ensures.did
