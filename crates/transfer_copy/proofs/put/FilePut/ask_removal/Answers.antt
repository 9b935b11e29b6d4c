use Rattle.transfer_copy.proofs.PutLaws.{put_unasked}
use Rattle.transfer_copy.proofs.put.FilePut.ask_removal.Goals as goal

pub returns-in-Ended-clause-did : goal.returns-in-Ended-clause-did
returns-in-Ended-clause-did c =
    put_unasked c.args.core.now c.ask.new.core c.args.self.now c.ask.new.self c.args.part.now c.args.remote.now
    c.in-Ended._unasked c.ask.result c.in-Ended.is c.ask.ensures.did
