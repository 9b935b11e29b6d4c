use Rattle.std.proofs.Common.{◌≡◌, ◌++◌, ◌+◌, take}
use Rattle.session_seats.specs.Sights.{made_from}
use Rattle.session_seats.proofs.seat.copy_from.Given as goal

abbrev pub invariant-loop-entry : goal.invariant-loop-entry
invariant-loop-entry l = (l.place ≡ l.from + l.entry-index) ×
    (l.receipts.items ≡ l.initial.receipts.items ++ made_from l.from (take l.entry-index l.entry-items))
