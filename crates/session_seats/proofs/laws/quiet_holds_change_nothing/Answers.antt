use Rattle.session_seats.proofs.WakeLaws.{quiet}
use Rattle.session_seats.proofs.laws.quiet_holds_change_nothing.Goals as goal

pub returns : goal.returns
returns c = quiet
