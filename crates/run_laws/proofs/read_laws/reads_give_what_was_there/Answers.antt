use Rattle.std.proofs.Common.{inl, inr}
use Rattle.run_laws.specs.Steps.{RefusesNone}
use Rattle.run_laws.proofs.BackLaws.{gives_all, unrefused_feigns}
use Rattle.run_laws.proofs.RunLaws.{reads_first, refused_first}
use Rattle.run_laws.proofs.read_laws.reads_give_what_was_there.Goals as goal

pub returns : goal.returns
returns c = record {
  gives = λ config answers grant_of elsewhere name tree before rest r path bytes bound site facts read ended chosen
      well_formed has run pass denotes one is e.
      gives_all ended bytes (reads_first RefusesNone config answers grant_of elsewhere name tree before rest r path
      bytes bound site facts read ended unrefused_feigns chosen well_formed has run pass denotes one is e);
  refused = λ config answers grant_of elsewhere name tree before rest r path bound site facts read ended chosen
      well_formed none run pass denotes one is e.
      elim (refused_first RefusesNone config answers grant_of elsewhere name tree before rest r path bound site facts
      read ended chosen well_formed none run pass denotes one is e)
      [ inl refused ↦ refused | inr by ↦ absurd (by.refuses by.is) ];
}
