use Rattle.std.proofs.Common.{ℕ, subst}
use Rattle.run_laws.specs.DeferredWrites.{ArePut}
use Rattle.run_laws.proofs.AloneLaws.{run_flushed}
use Rattle.run_laws.proofs.sessions.runs_hold_what_they_flushed.Goals as goal

pub returns : goal.returns
returns c = λ s config choices first now turns past lane k offset bytes handle served run well_formed some f bears t.
    subst (λ (at : ℕ). ArePut config first past served.steps lane k handle t at bytes) f.at
    (run_flushed s config choices first now turns past lane k f.slot f.file f.buffer bytes f.flush_site f.flush_facts
    f.site f.facts f.flush_own served run well_formed some f.stood f.wrote f.same f.flushed handle bears t)
