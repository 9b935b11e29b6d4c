use Rattle.sftp_model.specs.declared.request.Request.TheVariants as request
use Rattle.sftp_core.proofs.Cuts.{cut-none}
use Rattle.std.proofs.Common.{◌<◌, refl, arith}
use Rattle.std.specs.FinMap as fin
use Rattle.sftp_core.proofs.Sounds.{none_kept, none_here, short-limits, sound-last}
use Rattle.sftp_core.proofs.pipeline.Core.take_version.Goals as goal

pub put_last-requires-clause-few : goal.put_last-requires-clause-few
put_last-requires-clause-few c =
    let greeting = rw (← c.self.view_is) at c.requires in
    let none = none_kept c.self.inside.phase c.self.inside.table c.self.invariant.few greeting in
    omega (arith, none)

pub invariant_of-self-2 : goal.invariant_of-self-2
invariant_of-self-2 c =
    let greeting = rw (← c.self.view_is) at c.requires in
    let none = none_kept c.self.inside.phase c.self.inside.table c.self.invariant.few greeting in
    let few : fin.len c.self.inside.table < 2147483648 = omega (arith, none) in
    let put = c.in_ok-put_last.ensures.ok in
    sound-last _ _ _ _ _ _ _ _ _ _ _ _ _ _ c.self.invariant (none_here c.self.inside.phase c.self.inside.table
    c.self.invariant.few greeting c.in_ok-put_last.field-0) few tt (short-limits c.in_ok-put_last.field-0)
    put.queued put.len put.kept put.capacity

pub put_last-requires-clause-cut : goal.put_last-requires-clause-cut
put_last-requires-clause-cut c = cut-none request.LimitsQuery _ refl c.new.ensures.items
