use Rattle.run_laws.specs.Steps.{RefusesNone}
use Rattle.run_laws.proofs.BackLaws.{gives_all, unrefused_feigns}
use Rattle.run_laws.proofs.RunLaws.{reads_back}
use Rattle.run_laws.proofs.read_laws.writes_are_read_back.Goals as goal

pub returns : goal.returns
returns c = λ config answers grant_of elsewhere name tree before between rest w r write_path read_path bytes bound
    write_site read_site write_facts read_facts written read ended chosen well_formed run denotes is wrote denotes_too
    one is_too did.
    gives_all ended bytes
    (reads_back RefusesNone config answers grant_of elsewhere name tree before between rest w r write_path read_path
    bytes bound write_site read_site write_facts read_facts written read ended unrefused_feigns chosen well_formed
    run denotes is wrote
    denotes_too one is_too did)
