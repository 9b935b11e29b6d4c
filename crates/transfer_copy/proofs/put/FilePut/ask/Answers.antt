use Rattle.std.proofs.Common.{rules}
use Rattle.transfer_copy.specs.Holdings.{AsksFile}
use Rattle.transfer_copy.specs.PutRequests.{naming_request}
use Rattle.transfer_copy.proofs.PutLaws.{naming_asked, naming_moved}
use Rattle.transfer_copy.proofs.put.FilePut.ask.Goals as goal

pub returns-in-Ok-ask-clause-leaves : goal.returns-in-Ok-ask-clause-leaves
returns-in-Ok-ask-clause-leaves c =
    let asks : AsksFile c.args.core.now c.args.self.now.holding
    (naming_request c.args.part.now c.args.remote.now c.args.to)
    c.ask.new.core c.ask.new.self = search rules in
    naming_asked c.args.core.now c.ask.new.core c.args.self.now c.ask.new.self c.args.part.now c.args.remote.now
    c.args.to c.requires.between c.requires.stage asks c.in-Ok-ask.ensures.ok.1

pub returns-in-Ok-ask-clause-ended : goal.returns-in-Ok-ask-clause-ended
returns-in-Ok-ask-clause-ended c = naming_moved c.args.to c.args.self.now.failure c.requires.stage
