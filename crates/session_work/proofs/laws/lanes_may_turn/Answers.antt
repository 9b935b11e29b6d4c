use Rattle.session_work.proofs.Turned.{lanes_may}
use Rattle.session_work.proofs.laws.lanes_may_turn.Goals as goal

pub returns : goal.returns
returns c = lanes_may
