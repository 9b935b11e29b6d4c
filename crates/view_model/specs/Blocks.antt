-- believed
-- Blocks of files, and those that are kept, the most recently used first.
use Rattle.std.specs.Prelude.{ℕ, ◌+◌, ◌-◌, ◌/◌, not, List, [], filter}
use Rattle.lru.specs.LruCache.{lru_cache, promoted, put_entries}
use Rattle.machine_model.specs.Components.{Name, same_name}
use Rattle.view_model.specs.Keys.{same_key}
use Rattle.view_model.specs.declared.key.BlockKey.{BlockKey}

-- ---- The blocks of a get

-- The first block.
abbrev pub first_block : ℕ → ℕ → ℕ
first_block block offset = offset / block

-- The number of blocks, up to the one that holds the last byte.
abbrev pub block_count : ℕ → ℕ → ℕ → ℕ
block_count block offset len = (offset + len - 1) / block - offset / block + 1

-- ---- The blocks that are kept

-- Blocks by their keys: with their bytes, or with nothing if only the keys count.
abbrev pub Entries : Type 0 → Type 0
Entries V = List (BlockKey × V)

-- A block that is kept moves to the front.
abbrev pub block_promoted : {V : Type 0} → BlockKey → Entries V → Entries V
block_promoted key entries = promoted (same_key key) entries

-- A new block is put to the front. The last one is removed if the cache is full.
abbrev pub kept_with : {V : Type 0} → ℕ → BlockKey → V → Entries V → Entries V
kept_with capacity key value entries = put_entries same_key (lru_cache entries capacity) key value

-- The blocks after all those of a name were dropped.
abbrev pub kept_but : {V : Type 0} → Name → Entries V → Entries V
kept_but name entries = filter (λ e. not (same_name name e.0.name)) entries

-- The blocks that are kept, the number of hits, and the number of misses.
pub record Kept (V : Type 0) : Type 0 where
  pub entries : Entries V
  pub hits : ℕ
  pub misses : ℕ

abbrev pub nothing_kept : {V : Type 0} → Kept V
nothing_kept = record { entries = []; hits = 0; misses = 0 }

-- A block was kept.
abbrev pub count_hit : {V : Type 0} → BlockKey → Kept V → Kept V
count_hit key k = record { entries = block_promoted key k.entries; hits = k.hits + 1; misses = k.misses }

-- A block was not kept, and was refused.
abbrev pub count_miss : {V : Type 0} → Kept V → Kept V
count_miss k = record { entries = k.entries; hits = k.hits; misses = k.misses + 1 }

-- A block was not kept, and is now.
abbrev pub missed_with : {V : Type 0} → ℕ → BlockKey → V → Kept V → Kept V
missed_with capacity key value k =
    record { entries = kept_with capacity key value k.entries; hits = k.hits; misses = k.misses + 1 }

-- A name was written.
abbrev pub without_blocks_of : {V : Type 0} → Name → Kept V → Kept V
without_blocks_of name k = record { entries = kept_but name k.entries; hits = k.hits; misses = k.misses }
