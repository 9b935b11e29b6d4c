use Rattle.std.proofs.Common.{rules}
use Rattle.sftp_core.proofs.Sounds.{sound-same}
use Rattle.sftp_core.proofs.pipeline.Core.retain.Goals as goal

pub invariant_of-self : goal.invariant_of-self
invariant_of-self c = rw c.replace.ensures.now (sound-same _ _ _ _ _ _ _ _ _ c.self.invariant c.replace.ensures.was
    (search rules) (search rules) tt)
