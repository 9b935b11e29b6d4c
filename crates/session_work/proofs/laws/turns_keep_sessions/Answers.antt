use Rattle.session_work.proofs.Turned.{turns_keep}
use Rattle.session_work.proofs.laws.turns_keep_sessions.Goals as goal

pub returns : goal.returns
returns c = turns_keep
