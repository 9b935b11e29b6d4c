use Rattle.std.proofs.Common.{◌≡◌}
use Rattle.session_seats.specs.Holds.{AddsEntries, claim_of}
use Rattle.session_seats.specs.Repeats.{NotLast, RepeatsSteps}
use Rattle.sftp_tasks.specs.Calls.{InOneHold, PollsSeat, is_ended}
use Rattle.sftp_tasks.specs.Entries.{by_step}
use Rattle.sftp_tasks.proofs.shared_sftp.SharedSftp.poll_wait.Given as goal

abbrev pub invariant-loop : goal.invariant-loop
invariant-loop g l =
    (l.seat.inner.table_id ≡ l.initial.seat.inner.table_id)
    × (l.seat.lane ≡ l.initial.seat.lane)
    × ((claim_of l.seat.inner.me).share ≡ (claim_of l.initial.seat.inner.me).share)
    × AddsEntries (by_step l.initial.seat.lane) (claim_of l.initial.seat.inner.me) (claim_of l.seat.inner.me)
    × RepeatsSteps (NotLast is_ended (InOneHold (PollsSeat l.initial.seat.lane))) l.initial.seat.inner.me
    l.seat.inner.me
