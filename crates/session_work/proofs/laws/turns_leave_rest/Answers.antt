use Rattle.session_work.proofs.Awaiting.{lanes_await}
use Rattle.session_work.proofs.Ranges.{lanes_in_range}
use Rattle.session_work.proofs.Rests.{turns_leave}
use Rattle.session_work.proofs.laws.turns_leave_rest.Goals as goal

pub returns : goal.returns
returns c = record { turns = turns_leave; may = lanes_await; range = lanes_in_range }
