use Rattle.run_laws.proofs.LeftLaws.{never_left, write_left}
use Rattle.run_laws.proofs.sessions.runs_leave_what_they_wrote.Goals as goal

pub returns : goal.returns
returns c = record {
  written = λ s config choices first now turns past name lane writer w written bytes run over t wrote.
      write_left s config choices first now turns past name lane writer w written wrote.path bytes wrote.site
      wrote.facts run over.served over.well_formed t wrote.denotes wrote.ended_well;
  untouched = λ s config choices first now turns past name lane run over t. never_left s config choices first now turns
      past name lane run over.served over.well_formed t;
}
