use Rattle.std.proofs.Common.{sym}
use Rattle.sftp_core.proofs.Sounds.{sound-same}
use Rattle.sftp_core.proofs.Records.{owed}
use Rattle.sftp_core.proofs.pipeline.Core.grant.Goals as goal

pub invariant_of-self : goal.invariant_of-self
invariant_of-self c =
    let owing = owed _ _ c.replace.ensures.was (rw (← c.self.view_is) at c.requires) in
    rw c.replace.ensures.now (sound-same _ _ _ _ _ _ _ _ _ c.self.invariant c.replace.ensures.was (sym owing.1)
    (sym owing.0) tt)
