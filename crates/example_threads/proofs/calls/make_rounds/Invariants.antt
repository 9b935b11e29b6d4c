use Rattle.session_threads.specs.Running.{IsReady}
use Rattle.example_threads.proofs.calls.make_rounds.Given as goal

abbrev pub invariant-loop-round : goal.invariant-loop-round
invariant-loop-round g l = IsReady l.shared.shared.table.shared.table_id l.seat
