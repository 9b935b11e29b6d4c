use Rattle.std.specs.Vec.Iter.{into_iter_len}
use Rattle.session_threads.proofs.failure.spend.Given as goal

abbrev pub decreases-loop-seat : goal.decreases-loop-seat
decreases-loop-seat l = into_iter_len l.seats
