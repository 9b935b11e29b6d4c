use Rattle.sftp_core.proofs.Cuts.{cut-one}
use Rattle.std.proofs.Common.{◌≡◌, ◌<◌, rules}
use Rattle.std.specs.FinMap as fin
use Rattle.std.specs.Prelude.{is_some, true}
use Rattle.sftp_core.proofs.Sounds.{most_open, short-measured, sound-last}
use Rattle.sftp_core.proofs.pipeline.Core.submit.Goals as goal

pub invariant_of-self-2 : goal.invariant_of-self-2
invariant_of-self-2 c =
    let few : fin.len c.self.inside.table < 2147483648 = rw (← c.self.view_is) at c.requires.few in
    let most = most_open c.self.inside.phase (rw (← c.self.view_is) at c.requires.ready) in
    let measured : is_some c.request_len.result ≡ true = search rules in
    let same : c.in_ok-copy.copy ≡ c.args.request.now = search rules in
    let put = c.in_ok-id.ensures.ok in
    sound-last _ _ _ _ _ _ _ _ _ _ _ _ _ _ c.self.invariant put.free (rw most few) c.self.invariant.range
    (short-measured _ _ _ _ c.request_len.ensures measured same)
    put.queued put.len put.kept put.capacity

pub put_last-requires-clause-cut : goal.put_last-requires-clause-cut
put_last-requires-clause-cut c =
    let same : c.in_ok-copy.copy ≡ c.args.request.now = search rules in
    cut-one c.args.request.now c.in_ok-copy.copy _ same c.in_ok-parts.ensures
