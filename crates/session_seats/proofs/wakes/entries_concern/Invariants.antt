use Rattle.std.proofs.Common.{◌≡◌, take, drop}
use Rattle.std.specs.Prelude.{reverse}
use Rattle.session_seats.specs.Wakes.{entries_concern}
use Rattle.session_seats.proofs.wakes.entries_concern.Given as goal

abbrev pub invariant-loop-place : goal.invariant-loop-place
invariant-loop-place l = l.set ≡ entries_concern (reverse (drop l.fn.from (take l.place l.fn.journal)))
    (reverse (take l.fn.from l.fn.journal))
