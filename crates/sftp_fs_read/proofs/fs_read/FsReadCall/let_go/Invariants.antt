use Rattle.std.proofs.Common.{deque_len}
use Rattle.sftp_fs_read.proofs.fs_read.FsReadCall.let_go.Given as goal

abbrev pub invariant-loop-ticket : goal.invariant-loop-ticket
invariant-loop-ticket l = Unit {0}

abbrev pub decreases-loop-ticket : goal.decreases-loop-ticket
decreases-loop-ticket l = deque_len l.tickets
