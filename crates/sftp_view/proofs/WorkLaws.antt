-- What a view does block by block.
use Rattle.std.proofs.Common.{◌≡◌, ◌≤◌, ◌+◌, ℕ, List, refl, ap, sym, ◌∙◌, subst, arith}
use Rattle.std.specs.Prelude.{Option, Some, None, Ok, Err}
use Rattle.std.specs.Map.{lookup}
use Rattle.sftp_model.specs.declared.error.Error.{Error}
use Rattle.sftp_model.specs.declared.error.Error.TheVariants as error
use Rattle.sftp_link.specs.Views.{LinkView}
use Rattle.machine_model.specs.Components.{components}
use Rattle.session_model.specs.declared.entry.Entry.{Entry}
use Rattle.session_driver.specs.Ongoing.{RunState, run_state}
use Rattle.sftp_lanes.specs.Seen.{SessionValue, seen_of}
use Rattle.view_model.specs.Blocks.{Kept, count_hit}
use Rattle.view_model.specs.Caches.{CacheValue, FindsBlock, cache_of}
use Rattle.view_model.specs.Keys.{key_of, same_key}
use Rattle.view_model.specs.Viewed.{Doing, Found, Gathered, block_by, fetched_block, missed_by, pure}
use Rattle.view_model.specs.declared.key.BlockKey.{BlockKey}
use Rattle.sftp_view.specs.declared.ops.View.{View}
use Rattle.sftp_view.specs.Doings.{IsIdle, MayDo, DoesBySession}
use Rattle.sftp_view.specs.Working.{DoesByView, count_lookups}
use Rattle.sftp_view.proofs.FewLaws.{may_first}
use Rattle.sftp_view.proofs.RunLaws.{bound, gives, no_room, no_room_then, runs_self, stopped}

-- what a block gives
gathered_as : Found → Kept (List ℕ) → Gathered
gathered_as found kept = record { found = found; kept = kept }

-- the block of a key, by what was looked up
abbrev pub block_of : ℕ → CacheValue → List ℕ → BlockKey → Doing Gathered
block_of block cache path key = block_by block cache.capacity path key.block cache.kept
    (lookup (same_key key) cache.kept.entries)

is_found : (block : ℕ) (cache new : CacheValue) (path bytes : List ℕ) (key : BlockKey) → key
    ≡ key_of (components path) key.block
    → FindsBlock key (Some bytes) cache new → block_of block cache path key
    ≡ pure (record { found = Ok bytes; kept = new.kept })
is_found block cache new path bytes key of finds =
    ap (block_by block cache.capacity path key.block cache.kept) (sym finds.value)
    ∙ (λ i. pure (record {
      found = Ok bytes;
      kept = (ap (λ (k : BlockKey). count_hit k cache.kept) (sym of)
          ∙ sym (ap (λ (c : CacheValue). c.kept) finds.after)) i;
    }))

few_found : (cache new : CacheValue) (key : BlockKey) → new ≡ cache_of cache.capacity (count_hit key cache.kept)
    → count_lookups new ≤ count_lookups cache + 1
few_found cache new key is =
    let one : count_lookups new ≡ cache.kept.hits + 1 + cache.kept.misses = ap count_lookups is in
    omega (arith, one)

few_missed : (cache new : CacheValue) (key : BlockKey) (found : Found) → new
    ≡ cache_of cache.capacity (missed_by cache.capacity key cache.kept found).kept
    → count_lookups new ≤ count_lookups cache + 1
few_missed cache new key (Ok bytes) is =
    let one : count_lookups new ≡ cache.kept.hits + (cache.kept.misses + 1) = ap count_lookups is in
    omega (arith, one)
few_missed cache new key (Err code) is =
    let one : count_lookups new ≡ cache.kept.hits + (cache.kept.misses + 1) = ap count_lookups is in
    omega (arith, one)

abbrev pub view_of : SessionValue → CacheValue → ℕ → View
view_of session cache block = record { session = session; cache = cache; block = block }

after_miss : ℕ → BlockKey → Kept (List ℕ) → Found → Doing Gathered
after_miss capacity key kept found = pure (missed_by capacity key kept found)

pub may_fetch : (block : ℕ) (cache new : CacheValue) (path : List ℕ) (key : BlockKey) {past : List Entry}
    → MayDo (block_of block cache path key) past
    → FindsBlock key None cache new → MayDo (fetched_block block path key.block) past
may_fetch block cache new path key {past = past} may finds =
    may_first (fetched_block block path key.block) (λ found. pure
    (missed_by cache.capacity (key_of (components path) key.block) cache.kept found))
    (subst (λ (o : Option (List ℕ)). MayDo (block_by block cache.capacity path key.block cache.kept o) past)
    (sym finds.value) may)

missed_as : (capacity : ℕ) (key : BlockKey) (kept : Kept (List ℕ)) (found : Found)
    → missed_by capacity key kept found ≡ record { found = found; kept = (missed_by capacity key kept found).kept }
missed_as capacity key kept (Ok bytes) = refl
missed_as capacity key kept (Err code) = refl

pub finds_as : (key : BlockKey) (cache new : CacheValue) (o p : Option (List ℕ)) → o ≡ p → FindsBlock key o cache new
    → FindsBlock key p cache new
finds_as key cache new o p is finds = subst (λ (x : Option (List ℕ)). FindsBlock key x cache new) is finds

module _ {S : Type 0} where
  -- no memory was there
  pub work_starved : {T U : Type 0} {f : Doing T} {r : U → Doing T} {most : ℕ} (session : SessionValue)
      (cache new : CacheValue) (block : ℕ) (link : LinkView S)
      → DoesByView f r most (view_of session cache block) link (view_of session new block) link (Err error.OutOfMemory)
  work_starved session cache new block link = record { runs = no_room (run_state (seen_of session) link); stays = tt }

  pub block_found : (block : ℕ) (session : SessionValue) (cache new : CacheValue) (path bytes : List ℕ) (key : BlockKey)
      (link : LinkView S)
      → IsIdle (run_state (seen_of session) link) → key ≡ key_of (components path) key.block
      → FindsBlock key (Some bytes) cache new
      → DoesByView (block_of block cache path key) (λ found. pure (record { found = found; kept = new.kept })) 1
      (view_of session cache block) link (view_of session new block) link (Ok (Ok bytes))
  block_found block session cache new path bytes key link idle of finds = record {
    runs = (let here : RunState S = run_state (seen_of session) link in
        let self : DoesBySession (block_of block cache path key) (λ (u : Unit {0}). block_of block cache path key) here
        here (Ok tt) =
        runs_self (block_of block cache path key) tt here idle in
        gives (Ok bytes) self (is_found block cache new path bytes key of finds));
    stays = record {
      block = refl;
      capacity = ap (λ (c : CacheValue). c.capacity) finds.after;
      few = few_found cache new key finds.after;
    };
  }

  -- a block that was read, where none was kept
  block_was_fetched : (block : ℕ) (cache mid : CacheValue) (path : List ℕ) (key : BlockKey) {a b : RunState S}
      {found : Found}
      → key ≡ key_of (components path) key.block → FindsBlock key None cache mid
      → DoesBySession (fetched_block block path key.block) pure a b (Ok found)
      → DoesBySession (block_of block cache path key) (λ (f : Found). pure (missed_by cache.capacity key cache.kept f))
      a b (Ok found)
  block_was_fetched block cache mid path key {a = a} {b = b} {found = found} of finds run =
      subst (λ (o : Option (List ℕ)). DoesBySession (block_by block cache.capacity path key.block cache.kept o)
      (λ (f : Found). pure (missed_by cache.capacity key cache.kept f)) a b (Ok found))
      finds.value
      (gives found (bound {k = λ (f : Found). pure (missed_by cache.capacity (key_of (components path) key.block)
      cache.kept f)} run)
      (ap (λ (k : BlockKey). pure (missed_by cache.capacity k cache.kept found)) (sym of)))

  pub block_read : (block : ℕ) (old now : SessionValue) (cache mid new : CacheValue) (path : List ℕ) (key : BlockKey)
      (link link_now : LinkView S) (found : Found)
      → key ≡ key_of (components path) key.block → FindsBlock key None cache mid
      → DoesBySession (fetched_block block path key.block) pure (run_state (seen_of old) link)
      (run_state (seen_of now) link_now) (Ok found)
      → new ≡ cache_of mid.capacity (missed_by mid.capacity key mid.kept found).kept
      → DoesByView (block_of block cache path key) (λ f. pure (record { found = f; kept = new.kept })) 1
      (view_of old cache block) link (view_of now new block) link_now (Ok found)
  block_read block old now cache mid new path key link link_now found of finds run is =
      let same : new ≡ cache_of cache.capacity (missed_by cache.capacity key cache.kept found).kept =
      is ∙ ap (λ (c : CacheValue). cache_of c.capacity (missed_by c.capacity key c.kept found).kept) finds.after in
      record {
        runs = gives found (block_was_fetched block cache mid path key of finds run)
            (ap (λ (g : Gathered). pure g) (missed_as cache.capacity key cache.kept found
            ∙ (λ i. record { found = found; kept = ap (λ (c : CacheValue). c.kept) (sym same) i })));
        stays = record {
          block = refl;
          capacity = ap (λ (c : CacheValue). c.capacity) same;
          few = few_missed cache new key found same;
        };
      }

  pub block_stopped : (block : ℕ) (old now : SessionValue) (cache mid : CacheValue) (path : List ℕ) (key : BlockKey)
      (link link_now : LinkView S) (e : Error)
      {r : Found → Doing Gathered} → DoesBySession (fetched_block block path key.block) pure
      (run_state (seen_of old) link) (run_state (seen_of now) link_now) (Err e)
      → DoesByView (block_of block cache path key) r 1 (view_of old cache block) link (view_of now mid block) link_now
      (Err e)
  block_stopped block old now cache mid path key link link_now e run = record { runs = stopped run; stays = tt }

  pub block_lost : (block : ℕ) (old now : SessionValue) (cache new : CacheValue) (path : List ℕ) (key : BlockKey)
      (link link_now : LinkView S) {found : Found}
      {r : Found → Doing Gathered} → DoesBySession (fetched_block block path key.block) pure
      (run_state (seen_of old) link) (run_state (seen_of now) link_now) (Ok found)
      → DoesByView (block_of block cache path key) r 1 (view_of old cache block) link (view_of now new block) link_now
      (Err error.OutOfMemory)
  block_lost block old now cache new path key link link_now run = record { runs = no_room_then run; stays = tt }
