use Rattle.sftp_client.proofs.Draining.{DrainsOn}
use Rattle.sftp_client.proofs.Lowering.{still_due}
use Rattle.sftp_client.proofs.sftp.Sftp.drain.Given as goal

abbrev pub invariant-loop-self : goal.invariant-loop-self
invariant-loop-self g l = DrainsOn g.L.LinkState.state l.fn.self l.self

abbrev pub decreases-loop-self : goal.decreases-loop-self
decreases-loop-self g l = still_due l.self.core
