use Rattle.std.proofs.Common.{inl, inr}
use Rattle.run_laws.specs.Steps.{RefusesNone}
use Rattle.run_laws.proofs.BackLaws.{gives_all, unrefused_feigns}
use Rattle.run_laws.proofs.WholeReadLaws.{whole_reads, whole_refused}
use Rattle.run_laws.proofs.read_laws.whole_reads_give_the_file.Goals as goal

pub returns : goal.returns
returns c = record {
  gives = λ config answers name path bytes bound site facts later ended tree first steps chosen well_formed has one
      denotes stands e.
      gives_all ended bytes (whole_reads RefusesNone config answers name path bytes bound site facts later ended tree
      first steps unrefused_feigns chosen well_formed has one denotes stands e);
  refused = λ config answers name path bound site facts later ended tree first steps chosen none one denotes served e.
      elim (whole_refused RefusesNone config answers name path bound site facts later ended tree first steps chosen none
      one denotes served e) [ inl refused ↦ refused | inr by ↦ absurd (by.refuses by.is) ];
}
