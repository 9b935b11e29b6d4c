use Rattle.transfer_pool.specs.Sessions.{IsGoing}
use Rattle.sftp_transfer.proofs.acts.Worker.remove_tree.Given as goal

abbrev pub invariant-loop-found : goal.invariant-loop-found
invariant-loop-found g l = IsGoing g.L.LinkState.state l.self.sftp
