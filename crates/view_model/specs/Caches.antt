-- A cache of blocks, as its contracts see it.
use Rattle.std.specs.Prelude.{◌≡◌, ℕ, List, [], ◌∷◌, Option, Some, None, if◌then◌else◌}
use Rattle.std.specs.Map.{lookup}
use Rattle.machine_model.specs.Components.{Name, same_name}
use Rattle.view_model.specs.Blocks.{Entries, Kept, count_hit}
use Rattle.view_model.specs.Keys.{same_key}
use Rattle.view_model.specs.declared.key.BlockKey.{BlockKey}

-- The number of blocks that may be kept, and those that are.
pub record CacheValue : Type 0 where
  pub capacity : ℕ
  pub kept : Kept (List ℕ)

abbrev pub cache_of : ℕ → Kept (List ℕ) → CacheValue
cache_of capacity kept = record { capacity = capacity; kept = kept }

-- The blocks kept after a block was looked up.
abbrev pub kept_once : BlockKey → Option (List ℕ) → Kept (List ℕ) → Kept (List ℕ)
kept_once key None kept = kept
kept_once key (Some bytes) kept = count_hit key kept

-- The effect of a lookup of a block.
pub record FindsBlock (key : BlockKey) (found : Option (List ℕ)) (old new : CacheValue) : Type 0 where
  pub value : found ≡ lookup (same_key key) old.kept.entries
  pub after : new ≡ cache_of old.capacity (kept_once key found old.kept)

-- The numbers of the blocks of a name.
abbrev pub blocks_of : Name → Entries (List ℕ) → List ℕ
blocks_of name [] = []
blocks_of name (e ∷ entries) = if same_name e.0.name name then e.0.block ∷ blocks_of name entries else
    blocks_of name entries
