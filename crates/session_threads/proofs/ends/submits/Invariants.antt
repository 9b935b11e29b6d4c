use Rattle.std.proofs.Common.{◌≡◌, ◌≤◌, take, length}
use Rattle.std.specs.Prelude.{filter}
use Rattle.session_threads.specs.RunEnds.{is_submit}
use Rattle.session_threads.proofs.ends.submits.Given as goal

abbrev pub invariant-loop-entry : goal.invariant-loop-entry
invariant-loop-entry l = (l.count ≡ length (filter is_submit (take l.entry-index l.journal)))
    × (l.count ≤ l.entry-index)
