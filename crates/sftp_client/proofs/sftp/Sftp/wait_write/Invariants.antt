use Rattle.sftp_client.proofs.WriteWaiting.{WritesOn}
use Rattle.sftp_client.proofs.sftp.Sftp.wait_write.Given as goal

abbrev pub invariant-loop : goal.invariant-loop
invariant-loop g l = WritesOn g.L.LinkState.state l.counter l.fn.self l.self l.fn.call l.call
