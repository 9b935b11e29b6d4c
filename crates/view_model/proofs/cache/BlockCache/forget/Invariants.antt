use Rattle.std.proofs.Common.{◌≡◌}
use Rattle.view_model.specs.Blocks.{without_blocks_of}
use Rattle.view_model.specs.Caches.{cache_of}
use Rattle.view_model.proofs.CacheLaws.{removed}
use Rattle.view_model.proofs.cache.BlockCache.forget.Given as goal

abbrev pub invariant-loop-block : goal.invariant-loop-block
invariant-loop-block l =
    (l.key.name ≡ l.name)
    × (cache_of l.self-inside.blocks.cap (record {
      entries = removed l.name l.block-iterator.rest.items l.self-inside.blocks.entries;
      hits = l.self-inside.hits;
      misses = l.self-inside.misses;
    })
    ≡ cache_of l.fn.self.capacity (without_blocks_of l.name l.fn.self.kept))
