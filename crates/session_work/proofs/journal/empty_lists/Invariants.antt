use Rattle.std.proofs.Common.{◌≡◌, ◌≤◌, []}
use Rattle.std.specs.Prelude.{replicate, vec_capacity, vec_len}
use Rattle.session_work.proofs.journal.empty_lists.Given as goal

abbrev pub invariant-loop : goal.invariant-loop
invariant-loop l = (l.lists.items ≡ replicate l.counter []) × (vec_len l.lists ≡ l.counter)
    × (l.count ≤ vec_capacity l.lists)
