use Rattle.transfer_pool.specs.Sessions.{IsGoing}
use Rattle.sftp_transfer.proofs.acts.Worker.entries_of.Given as goal

abbrev pub invariant-loop : goal.invariant-loop
invariant-loop g l = IsGoing g.L.LinkState.state l.self.sftp
