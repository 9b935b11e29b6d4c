use Rattle.std.proofs.Common.{rules}
use Rattle.sftp_core.proofs.Sounds.{sound-gone}
use Rattle.sftp_core.proofs.pipeline.Core.poll.Goals as goal

pub invariant_of-self : goal.invariant_of-self
invariant_of-self c = rw c.remove.ensures.now (sound-gone _ _ _ _ _ _ _ _ c.self.invariant c.remove.ensures.was
    (search rules))
