use Rattle.std.proofs.Common.{deque_len}
use Rattle.sftp_fs_read.proofs.TicketLaws.{Abandoning}
use Rattle.sftp_fs_read.proofs.tickets.abandon_all.Given as goal

abbrev pub invariant-loop-ticket : goal.invariant-loop-ticket
invariant-loop-ticket l = Abandoning l.initial.core l.core l.initial.tickets.items l.tickets.items

abbrev pub decreases-loop-ticket : goal.decreases-loop-ticket
decreases-loop-ticket l = deque_len l.tickets
