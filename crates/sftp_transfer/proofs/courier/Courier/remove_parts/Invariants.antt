use Rattle.transfer_pool.specs.Sessions.{IsGoing}
use Rattle.sftp_transfer.proofs.courier.Courier.remove_parts.Given as goal

abbrev pub invariant-loop-job : goal.invariant-loop-job
invariant-loop-job g l = IsGoing g.L.LinkState.state l.self.sftp
