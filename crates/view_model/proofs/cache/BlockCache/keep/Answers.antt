use Rattle.std.proofs.Common.{rules}
use Rattle.view_model.proofs.CacheLaws.{keeps}
use Rattle.view_model.proofs.cache.BlockCache.keep.Goals as goal

pub returns : goal.returns
returns c =
    keeps c.args.self.now c.put.new.self c.self.inside.blocks.entries c.self.inside.blocks.cap c.self.inside.hits
    c.self.inside.misses
    c.args.key.now _ c.in-Ok.bytes _ c.args.found.now c.self.view_is (search rules) (search rules) (search rules)
    c.in_ok-put.ensures.entries
