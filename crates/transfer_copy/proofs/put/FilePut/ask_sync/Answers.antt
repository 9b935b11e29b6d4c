use Rattle.std.proofs.Common.{rules}
use Rattle.transfer_copy.proofs.PutLaws.{synced_on}
use Rattle.transfer_copy.proofs.put.FilePut.ask_sync.Goals as goal

pub returns-in-Ok-clause-leaves : goal.returns-in-Ok-clause-leaves
returns-in-Ok-clause-leaves c =
    synced_on c.args.core.now c.ask_sync.new.core c.args.self.now c.ask_sync.new.self (search rules) c.requires.1
    (search rules) c.in-Ok.ensures.ok.0 c.in-Ok.ensures.ok.1
