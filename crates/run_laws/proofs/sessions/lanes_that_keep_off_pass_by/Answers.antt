use Rattle.run_laws.proofs.LaneLaws.{off_passes}
use Rattle.run_laws.proofs.sessions.lanes_that_keep_off_pass_by.Goals as goal

pub returns : goal.returns
returns c = off_passes
