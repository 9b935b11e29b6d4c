use Rattle.transfer_copy.proofs.PutLaws.{put_checks}
use Rattle.transfer_copy.proofs.put.FilePut.rename.Goals as goal

pub returns-in-NotDone-clause-did : goal.returns-in-NotDone-clause-did
returns-in-NotDone-clause-did c =
    put_checks c.args.core.now c.settle_status.new.core c.check_or_fail.new.core c.args.self.now
    c.check_or_fail.new.self c.settle_status.new.self c.args.part.now c.args.remote.now c.in-NotDone.e
    c.check_or_fail.result
    c.in-NotDone.ensures.answers.0 c.check_or_fail.ensures.did
