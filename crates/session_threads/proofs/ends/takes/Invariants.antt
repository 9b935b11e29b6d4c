use Rattle.std.proofs.Common.{◌≡◌, ◌≤◌, take, length}
use Rattle.std.specs.Prelude.{filter}
use Rattle.session_threads.specs.RunEnds.{is_take}
use Rattle.session_threads.proofs.ends.takes.Given as goal

abbrev pub invariant-loop-entry : goal.invariant-loop-entry
invariant-loop-entry l = (l.count ≡ length (filter is_take (take l.entry-index l.journal))) × (l.count ≤ l.entry-index)
