use Rattle.run_laws.proofs.RunBackLaws.{run_reads, run_refused}
use Rattle.run_laws.proofs.sessions.runs_read_what_was_there.Goals as goal

pub returns : goal.returns
returns c = record {
  gives = λ s config choices first now turns past name lane reader r read bytes ended run over has t did.
      run_reads s config choices first now turns past name lane reader r read did.path bytes did.bound did.site
      did.facts ended run over.served over.unrefused over.well_formed has t did.denotes did.some did.ended_so;
  refused = λ s config choices first now turns past name lane reader r read ended run over has t did.
      run_refused s config choices first now turns past name lane reader r read did.path did.bound did.site did.facts
      ended run over.served over.unrefused over.well_formed has t did.denotes did.some did.ended_so;
}
