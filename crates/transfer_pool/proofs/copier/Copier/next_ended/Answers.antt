use Rattle.transfer_pool.proofs.WorkLaws.{works_on, works_over, works_stopped}
use Rattle.transfer_pool.proofs.copier.Copier.next_ended.Goals as goal

pub returns-in-Over-clause-ended : goal.returns-in-Over-clause-ended
returns-in-Over-clause-ended g c =
    works_over g.L.LinkState.state g.F.LocalFile.done g.F.LocalFile.history _ _ _ c.in-Over.copied c.loop.invariant
    c.in-Over.ensures

pub returns-in-Stopped-clause-ended : goal.returns-in-Stopped-clause-ended
returns-in-Stopped-clause-ended g c =
    works_stopped g.L.LinkState.state g.F.LocalFile.done g.F.LocalFile.history _ _ _ c.in-Stopped.e c.in-Stopped.e
    c.loop.invariant c.in-Stopped.ensures

pub loop-preserved : goal.loop-preserved
loop-preserved g c =
    works_on g.L.LinkState.state g.F.LocalFile.done g.F.LocalFile.history _ _ _ c.loop.invariant c.in-On.ensures
