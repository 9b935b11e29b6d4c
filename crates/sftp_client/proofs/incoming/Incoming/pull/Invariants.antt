use Rattle.std.proofs.Common.{◌-◌, ◌+◌, length}
use Rattle.sftp_model.specs.Numbers.{MAX_BODY_LEN}
use Rattle.sftp_client.proofs.Getting.{PulledSoFar}
use Rattle.sftp_client.proofs.incoming.Incoming.pull.Given as goal

abbrev pub invariant-loop-alloc : goal.invariant-loop-alloc
invariant-loop-alloc g l = PulledSoFar l.initial.self l.self (g.L.LinkState.state l.initial.link)
    (g.L.LinkState.state l.link)

abbrev pub decreases-loop-alloc : goal.decreases-loop-alloc
decreases-loop-alloc g l = (4 + MAX_BODY_LEN) - length l.self.whole
