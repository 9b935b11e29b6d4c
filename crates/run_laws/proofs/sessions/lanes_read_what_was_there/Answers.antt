use Rattle.run_laws.proofs.LaneBackLaws.{lane_reads, lane_refused}
use Rattle.run_laws.proofs.sessions.lanes_read_what_was_there.Goals as goal

pub returns : goal.returns
returns c = record {
  gives = λ s config choices first now past name lane reader r read bytes ended j over has t were_sent did.
      lane_reads s config choices first now past name lane reader r read did.path bytes did.bound did.site did.facts
      ended j over.served over.unrefused over.well_formed has t were_sent did.denotes did.some did.ended_so;
  refused = λ s config choices first now past name lane reader r read ended j over has t were_sent did.
      lane_refused s config choices first now past name lane reader r read did.path did.bound did.site did.facts ended j
      over.served over.unrefused over.well_formed has t were_sent did.denotes did.some did.ended_so;
}
