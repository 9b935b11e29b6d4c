use Rattle.run_laws.proofs.LaneBackLaws.{lane_back}
use Rattle.run_laws.proofs.sessions.lanes_read_what_they_wrote.Goals as goal

pub returns : goal.returns
returns c = λ s config choices first now past name lane writer reader w r written read bytes ended j over t were_sent
    wrote did.
    lane_back s config choices first now past name lane writer reader w r written read wrote.path did.path bytes
    did.bound wrote.site did.site wrote.facts did.facts ended j over.served over.unrefused over.well_formed t
    were_sent wrote.denotes
    wrote.ended_well did.denotes did.some did.ended_so
