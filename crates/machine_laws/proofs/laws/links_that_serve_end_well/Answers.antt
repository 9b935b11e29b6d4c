use Rattle.session_driver.proofs.ServingLaws.{only_memory}
use Rattle.machine_laws.proofs.Whole.{server_serves}
use Rattle.machine_laws.proofs.laws.links_that_serve_end_well.Goals as goal

pub returns : goal.returns
returns c = record { only = only_memory; server = server_serves }
