use Rattle.session_seats.proofs.WakeLaws.{Raising}
use Rattle.session_seats.proofs.waits.raise_all.Given as goal

abbrev pub invariant-loop-place : goal.invariant-loop-place
invariant-loop-place l = Raising l.initial.counts l.counts l.place
