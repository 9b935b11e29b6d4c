use Rattle.std.proofs.Common.{refl}
use Rattle.sftp_model.specs.declared.request.Request.TheVariants as request
use Rattle.sftp_core.proofs.Cuts.{cut-none}
use Rattle.sftp_core.proofs.Sounds.{sound-close, room_for_close}
use Rattle.sftp_core.proofs.Records.{owed}
use Rattle.sftp_core.proofs.pipeline.Core.queue_close.Goals as goal

pub push_reserved-requires-clause-capacity : goal.push_reserved-requires-clause-capacity
push_reserved-requires-clause-capacity c =
    let owing = owed _ _ c.replace.ensures.was (rw (← c.self.view_is) at c.requires) in
    room_for_close _ _ _ _ _ _ _ _ c.self.invariant c.replace.ensures.was owing.0

pub invariant_of-self : goal.invariant_of-self
invariant_of-self c =
    let owing = owed _ _ c.replace.ensures.was (rw (← c.self.view_is) at c.requires) in
    rw c.replace.ensures.now
    (sound-close _ _ _ _ _ _ _ _ _ _ _ _ _ c.self.invariant c.replace.ensures.was owing.0 owing.1
    c.as_bytes-short.ensures.fits c.push_reserved.ensures.items c.push_reserved.ensures.len
    c.push_reserved.ensures.grows)

pub push_reserved-requires-clause-cut : goal.push_reserved-requires-clause-cut
push_reserved-requires-clause-cut c = cut-none (request.Close c.args.handle) _ refl c.new.ensures.items
