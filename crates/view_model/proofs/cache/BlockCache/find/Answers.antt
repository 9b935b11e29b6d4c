use Rattle.std.proofs.Common.{rules, ◌≡◌, ◌∙◌, None, ap, sym}
use Rattle.std.specs.Map.{lookup}
use Rattle.std.specs.Option.{option_copied}
use Rattle.lru.specs.LruCache.{lru_cache}
use Rattle.view_model.specs.Keys.{same_key}
use Rattle.view_model.specs.contracts.cache.BlockCache.{the_view}
use Rattle.view_model.proofs.CacheLaws.{not_promoted}
use Rattle.view_model.proofs.cache.BlockCache.find.Goals as goal

pub returns-in-None : goal.returns-in-None
returns-in-None c =
    let none : lookup (same_key c.args.key.now) c.self.inside.blocks.entries ≡ None = sym c.get.follows.claims
    ∙ ap option_copied c.in-None.is in
    let same = not_promoted (same_key c.args.key.now) c.self.inside.blocks.entries none in
    record {
      value = search rules;
      after = ap (λ b. the_view (record { blocks = b; hits = c.self.inside.hits; misses = c.self.inside.misses }))
          (c.get.follows.holds-at-none ∙ (λ i. lru_cache (same i) c.self.inside.blocks.cap)) ∙ c.self.view_is;
    }
