use Rattle.run_laws.proofs.RunBackLaws.{run_back}
use Rattle.run_laws.proofs.sessions.runs_read_what_they_wrote.Goals as goal

pub returns : goal.returns
returns c = λ s config choices first now turns past name lane writer reader w r written read bytes ended run over t
    wrote did.
    run_back s config choices first now turns past name lane writer reader w r written read wrote.path did.path bytes
    did.bound wrote.site did.site wrote.facts did.facts ended run over.served over.unrefused over.well_formed t
    wrote.denotes
    wrote.ended_well did.denotes did.some did.ended_so
