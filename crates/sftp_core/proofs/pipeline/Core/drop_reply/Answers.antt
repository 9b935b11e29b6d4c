use Rattle.sftp_core.proofs.Sounds.{sound-freed}
use Rattle.sftp_core.proofs.Records.{there}
use Rattle.sftp_core.proofs.pipeline.Core.drop_reply.Goals as goal

pub free-requires : goal.free-requires
free-requires c = there _ (rw (← c.self.view_is, c.in-None.is) at c.requires)

pub invariant_of-self : goal.invariant_of-self
invariant_of-self c = rw c.free.ensures (sound-freed _ _ _ _ _ _ _ c.self.invariant
    (rw (← c.self.view_is, c.in-None.is) at c.requires))
