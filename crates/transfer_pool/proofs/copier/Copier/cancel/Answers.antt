use Rattle.std.proofs.Common.{subst, sym}
use Rattle.transfer_pool.specs.Copies.{AreTogether, CopierValue, SparesAll}
use Rattle.transfer_pool.proofs.TogetherLaws.{cancels_all, cancels_first, cancels_may, cancels_next}
use Rattle.transfer_pool.proofs.copier.Copier.cancel.Goals as goal

pub loop-copy-init : goal.loop-copy-init
loop-copy-init g c = cancels_first c.args.core.now _ (subst (λ (x : CopierValue _). AreTogether c.args.core.now
    x.running) (sym c.self.view_is) c.requires)

pub cancel-requires : goal.cancel-requires
cancel-requires g c = cancels_may c.args.core.now c.loop-copy.core _ _ c.in-Some.copy _ c.loop-copy.invariant
    c.in-Some.ensures.items

pub loop-copy-preserved : goal.loop-copy-preserved
loop-copy-preserved g c =
    cancels_next c.args.core.now c.loop-copy.core c.cancel.new.core _ _ c.in-Some.copy _ c.loop-copy.invariant
    c.in-Some.ensures.items c.cancel.ensures

pub returns : goal.returns
returns g c =
    subst (λ (x : CopierValue _). SparesAll x.running c.args.core.now c.loop-copy.core) c.self.view_is
    (cancels_all c.args.core.now c.loop-copy.core _ _ c.loop-copy.invariant)
