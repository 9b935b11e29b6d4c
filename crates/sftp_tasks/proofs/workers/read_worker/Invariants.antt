use Rattle.std.proofs.Common.{◌≡◌}
use Rattle.session_seats.specs.Holds.{AddsEntries, claim_of}
use Rattle.session_seats.specs.Repeats.{NotLast, RepeatsSteps}
use Rattle.sftp_tasks.specs.Entries.{by_read}
use Rattle.sftp_tasks.specs.Workers.{ReadShift, is_over}
use Rattle.sftp_tasks.proofs.workers.read_worker.Given as goal

abbrev pub invariant-loop : goal.invariant-loop
invariant-loop g l =
    (l.seat.inner.table_id ≡ l.initial.seat.inner.table_id)
    × (l.seat.lane ≡ l.initial.seat.lane)
    × ((g.I.LinkState.state l.input).faults ≡ (g.I.LinkState.state l.initial.input).faults)
    × AddsEntries (by_read l.initial.seat.lane) (claim_of l.initial.seat.inner.me) (claim_of l.seat.inner.me)
    × RepeatsSteps (NotLast is_over ReadShift) (l.initial.seat.inner.me, g.I.LinkState.state l.initial.input)
    (l.seat.inner.me, g.I.LinkState.state l.input)
