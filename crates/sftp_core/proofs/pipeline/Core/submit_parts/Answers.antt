use Rattle.std.proofs.Common.{◌<◌, ap}
use Rattle.std.specs.FinMap as fin
use Rattle.sftp_wire.specs.Heads.{content_of}
use Rattle.sftp_core.specs.Frames.{IsShort}
use Rattle.sftp_core.proofs.Cuts.{cut-parts}
use Rattle.sftp_core.proofs.Sounds.{most_open, sound-last}
use Rattle.sftp_core.proofs.pipeline.Core.submit_parts.Goals as goal

pub put_last-requires-clause-cut : goal.put_last-requires-clause-cut
put_last-requires-clause-cut c =
    cut-parts c.in_ok-request.request c.args.parts.now _ (ap content_of c.in_ok-request.ensures.ok)
    c.in_ok-filled.ensures

pub invariant_of-self-2 : goal.invariant_of-self-2
invariant_of-self-2 c =
    let few : fin.len c.self.inside.table < 2147483648 = rw (← c.self.view_is) at c.requires.few in
    let most = most_open c.self.inside.phase (rw (← c.self.view_is) at c.requires.ready) in
    let short : IsShort (c.in_ok-id.id, c.in_ok-request.request) =
    rw c.in_ok-request.ensures.ok (c.in_ok-request.ensures.short c.in_ok-id.id) in
    let put = c.in_ok-id.ensures.ok in
    sound-last _ _ _ _ _ _ _ _ _ _ _ _ _ _ c.self.invariant put.free (rw most few) c.self.invariant.range short
    put.queued put.len put.kept put.capacity
