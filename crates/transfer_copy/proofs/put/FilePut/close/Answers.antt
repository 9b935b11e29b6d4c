use Rattle.transfer_copy.proofs.PutLaws.{put_closed}
use Rattle.transfer_copy.proofs.put.FilePut.close.Goals as goal

pub returns-in-Done-clause-did : goal.returns-in-Done-clause-did
returns-in-Done-clause-did c =
    put_closed c.args.core.now c.settle_status.new.core c.closed.new.core c.args.self.now c.closed.new.self
    c.settle_status.new.self
    c.args.part.now c.args.remote.now c.closed.result c.in-Done.ensures.answers.0 c.in-Done.ensures.apart.spares.phase
    c.closed.ensures.did
