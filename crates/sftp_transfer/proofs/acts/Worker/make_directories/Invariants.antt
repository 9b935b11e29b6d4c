use Rattle.transfer_pool.specs.Sessions.{IsGoing}
use Rattle.sftp_transfer.proofs.acts.Worker.make_directories.Given as goal

abbrev pub invariant-loop-end : goal.invariant-loop-end
invariant-loop-end g l = IsGoing g.L.LinkState.state l.self.sftp
