use Rattle.session_seats.proofs.WakeLaws.{counts_up}
use Rattle.session_seats.proofs.laws.changes_are_counted.Goals as goal

pub returns : goal.returns
returns c = counts_up
