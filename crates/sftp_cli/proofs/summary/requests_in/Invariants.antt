use Rattle.sftp_cli.proofs.Sending.{Sending}
use Rattle.sftp_cli.proofs.summary.requests_in.Given as goal

abbrev pub invariant-loop-event : goal.invariant-loop-event
invariant-loop-event l = Sending l.events l.event-index l.asked l.sent
