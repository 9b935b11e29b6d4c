use Rattle.sftp_client.proofs.WholeWaiting.{ReadsOn}
use Rattle.sftp_client.proofs.sftp.Sftp.wait_read.Given as goal

abbrev pub invariant-loop : goal.invariant-loop
invariant-loop g l = ReadsOn g.L.LinkState.state l.counter l.fn.self l.self l.fn.call l.call
