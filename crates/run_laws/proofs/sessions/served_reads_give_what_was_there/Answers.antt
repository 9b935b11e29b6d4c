use Rattle.run_laws.proofs.FirstLaws.{first_read, first_refused}
use Rattle.run_laws.proofs.sessions.served_reads_give_what_was_there.Goals as goal

pub returns : goal.returns
returns c = record {
  gives = λ s config choices first now past name n reader r read bytes ended j over has t did.
      first_read s config choices first now past name n reader r read did.path bytes did.bound did.site did.facts ended
      j over.served over.unrefused over.well_formed has t did.denotes did.some did.ended_so;
  refused = λ s config choices first now past name n reader r read ended j over has t did.
      first_refused s config choices first now past name n reader r read did.path did.bound did.site did.facts ended j
      over.served over.unrefused over.well_formed has t did.denotes did.some did.ended_so;
}
