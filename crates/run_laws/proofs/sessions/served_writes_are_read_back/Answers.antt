use Rattle.run_laws.proofs.BackLaws.{back}
use Rattle.run_laws.proofs.sessions.served_writes_are_read_back.Goals as goal

pub returns : goal.returns
returns c = λ s config choices first now past name n writer reader w r written read bytes ended j over t wrote did.
    back s config choices first now past name n writer reader w r written read wrote.path did.path bytes did.bound
    wrote.site did.site wrote.facts did.facts ended j over.served over.unrefused over.well_formed t wrote.denotes
    wrote.ended_well
    did.denotes did.some did.ended_so
