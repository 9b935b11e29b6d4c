use Rattle.std.proofs.Common.{◌≡◌, take}
use Rattle.machine_answers.proofs.name_requests.first_copies.Given as goal

abbrev pub invariant-loop-entry : goal.invariant-loop-entry
invariant-loop-entry l = l.copies.items ≡ take l.entry-index (take l.n l.entries)
