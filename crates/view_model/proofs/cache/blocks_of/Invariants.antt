use Rattle.std.proofs.Common.{◌≡◌, ◌++◌}
use Rattle.view_model.specs.Caches.{blocks_of}
use Rattle.view_model.proofs.cache.blocks_of.Given as goal

abbrev pub invariant-loop-key : goal.invariant-loop-key
invariant-loop-key l = l.numbers.items ++ blocks_of l.name l.key-iterator ≡ blocks_of l.name l.blocks.entries
