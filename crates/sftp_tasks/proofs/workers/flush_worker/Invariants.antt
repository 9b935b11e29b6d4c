use Rattle.std.proofs.Common.{◌≡◌}
use Rattle.session_seats.specs.Holds.{AddsEntries, claim_of}
use Rattle.session_seats.specs.Repeats.{NotLast, RepeatsSteps}
use Rattle.sftp_tasks.specs.Entries.{by_flush}
use Rattle.sftp_tasks.specs.Workers.{FlushShift, is_over}
use Rattle.sftp_tasks.proofs.workers.flush_worker.Given as goal

abbrev pub invariant-loop : goal.invariant-loop
invariant-loop g l =
    (l.seat.inner.table_id ≡ l.initial.seat.inner.table_id)
    × (l.seat.lane ≡ l.initial.seat.lane)
    × ((g.O.LinkState.state l.out).faults ≡ (g.O.LinkState.state l.initial.out).faults)
    × AddsEntries (by_flush l.initial.seat.lane) (claim_of l.initial.seat.inner.me) (claim_of l.seat.inner.me)
    × RepeatsSteps (NotLast is_over FlushShift) (l.initial.seat.inner.me, g.O.LinkState.state l.initial.out)
    (l.seat.inner.me, g.O.LinkState.state l.out)
