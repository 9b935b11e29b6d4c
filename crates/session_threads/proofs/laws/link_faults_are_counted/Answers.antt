use Rattle.session_threads.proofs.CountLaws.{run_rose}
use Rattle.session_threads.proofs.laws.link_faults_are_counted.Goals as goal

pub returns : goal.returns
returns g c = run_rose
