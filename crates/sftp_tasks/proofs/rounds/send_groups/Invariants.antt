use Rattle.std.proofs.Common.{◌≡◌, ◌≤◌, ◌+◌, ◌-◌, ℕ, length}
use Rattle.session_seats.specs.Holds.{AddsEntries, claim_of}
use Rattle.sftp_tasks.specs.Entries.{by_nothing}
use Rattle.sftp_tasks.proofs.GroupLaws.{SentUpTo}
use Rattle.sftp_tasks.proofs.rounds.send_groups.Given as goal

abbrev pub invariant-loop-start : goal.invariant-loop-start
invariant-loop-start g l = record {
  own : (l.seat.inner.table_id ≡ l.initial.seat.inner.table_id) × (l.seat.lane ≡ l.initial.seat.lane);
  only : AddsEntries (by_nothing l.initial.seat.lane) (claim_of l.initial.seat.inner.me) (claim_of l.seat.inner.me);
  unwritten : length l.chunk.counts ≤ l.start.frames + (claim_of l.seat.inner.me).unwritten;
  sent : SentUpTo l.chunk l.start l.initial.seat.inner.me l.seat.inner.me
      (g.O.LinkState.state l.initial.out)
      (g.O.LinkState.state l.out);
}

abbrev pub decreases-loop-start : goal.decreases-loop-start
decreases-loop-start g l = length l.chunk.counts - l.start.frames
