use Rattle.transfer_pool.specs.Sessions.{IsGoing}
use Rattle.sftp_transfer.proofs.acts.Worker.for_each.Given as goal

abbrev pub invariant-loop-path : goal.invariant-loop-path
invariant-loop-path g l = IsGoing g.L.LinkState.state l.self.sftp
