use Rattle.std.proofs.Common.{deque_len}
use Rattle.sftp_fs_read.specs.Hearing.{TakesReplies}
use Rattle.sftp_fs_read.proofs.replies.hear.Given as goal

abbrev pub invariant-loop-ticket : goal.invariant-loop-ticket
invariant-loop-ticket l = TakesReplies l.initial.core l.core l.initial.reads l.reads l.initial.tickets.items
    l.tickets.items

abbrev pub decreases-loop-ticket : goal.decreases-loop-ticket
decreases-loop-ticket l = deque_len l.tickets
