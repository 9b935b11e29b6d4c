use Rattle.session_model.proofs.AllClosedLaws.{closed_exactly, over_closed_exactly}
use Rattle.session_model.proofs.ClosedLaws.{closed_once, gone_unheld}
use Rattle.session_model.proofs.laws.grants_are_closed_once.Goals as goal

pub returns : goal.returns
returns c = record { once = closed_once; granted = gone_unheld; over = over_closed_exactly; all = closed_exactly }
