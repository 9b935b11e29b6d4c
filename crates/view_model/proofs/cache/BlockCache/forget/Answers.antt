use Rattle.std.proofs.Common.{rules}
use Rattle.view_model.proofs.CacheLaws.{drops}
use Rattle.view_model.proofs.cache.BlockCache.forget.Goals as goal

pub loop-block-init : goal.loop-block-init
loop-block-init c = (
  search rules,
  drops c.args.self.now c.self.inside.blocks.entries c.self.inside.blocks.cap c.self.inside.hits c.self.inside.misses
      c.args.name.now
      c.into_iter-block-iterator.result.rest.items c.self.view_is (search rules),
)
