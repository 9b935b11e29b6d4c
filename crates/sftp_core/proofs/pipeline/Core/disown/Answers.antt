use Rattle.std.proofs.Common.{refl, sym}
use Rattle.sftp_core.proofs.Sounds.{sound-same}
use Rattle.sftp_core.proofs.pipeline.Core.disown.Goals as goal

pub invariant_of-self : goal.invariant_of-self
invariant_of-self c = rw c.replace.ensures.now (sound-same _ _ _ _ _ _ _ _ _ c.self.invariant
    (sym (rw (← c.self.view_is) at c.requires)) refl refl tt)
