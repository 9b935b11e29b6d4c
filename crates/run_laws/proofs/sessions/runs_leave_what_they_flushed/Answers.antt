use Rattle.run_laws.proofs.AnewRuns.{flushed_left}
use Rattle.run_laws.proofs.sessions.runs_leave_what_they_flushed.Goals as goal

pub returns : goal.returns
returns c = λ s config choices first now turns past name lane opener writer w written bytes run over t f.
    flushed_left s config choices first now turns past name lane opener writer f.slot w written f.flush_own f.file
    f.buffer bytes f.site f.flush_site f.facts f.flush_facts run over.served over.well_formed t f.stood f.at f.wrote
    f.same f.flushed
