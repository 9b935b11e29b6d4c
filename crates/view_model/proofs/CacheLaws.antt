-- Blocks that are looked up, put and dropped.
use Rattle.std.proofs.Common.{◌≡◌, ℕ, Bool, true, false, not, List, [], ◌∷◌, Option, Some, None, if◌then◌else◌, refl, ap, sym, ◌∙◌}
use Rattle.std.specs.Prelude.{◌==◌, ◌&&◌, ◌+◌, Ok}
use Rattle.std.specs.Cmp.{IsEquivalence, nat_eq_equiv}
use Rattle.std.specs.Cmp.Lexicographic.{lists_equiv}
use Rattle.std.specs.Map.{lookup, lookup_entry, remove_entry}
use Rattle.std.specs.Option.{option_map_or}
use Rattle.std.proofs.lemmas.Bool.{eq-eqb}
use Rattle.lru.specs.LruCache.{LruCache, lru_cache, promoted, put_entries}
use Rattle.machine_model.specs.Components.{Name, same_name}
use Rattle.view_model.specs.Blocks.{Entries, without_blocks_of, kept_but, missed_with}
use Rattle.view_model.specs.Caches.{CacheValue, blocks_of, cache_of}
use Rattle.view_model.specs.Keys.{key_of, same_key}
use Rattle.view_model.specs.Viewed.{Found, missed_by}
use Rattle.view_model.specs.declared.key.BlockKey.{BlockKey}

-- what isn't there doesn't come to the front
none_by : {A B : Type 0} (b : Bool) (x : A) (y : B) (o : Option A) (q : Option B) → (if b then Some x else o) ≡ None
    → (o ≡ None → q ≡ None)
    → (if b then Some y else q) ≡ None
none_by true x y o q e f = absurd cc
none_by false x y o q e f = f e

no_entry : {K V : Type 0} (test : K → Bool) (es : List (K × V)) → lookup test es ≡ None → lookup_entry test es ≡ None
no_entry test [] e = refl
no_entry test (f ∷ es) e = none_by (test f.0) f.1 f (lookup test es) (lookup_entry test es) e
    (λ none. no_entry test es none)

pub not_promoted : {K V : Type 0} (test : K → Bool) (es : List (K × V)) → lookup test es ≡ None → promoted test es ≡ es
not_promoted test es e = ap (λ o. option_map_or (λ e. e ∷ remove_entry test es) o es) (no_entry test es e)

-- ---- all blocks of a name

-- the blocks of these numbers are removed
abbrev pub removed : Name → List ℕ → Entries (List ℕ) → Entries (List ℕ)
removed name [] entries = entries
removed name (n ∷ numbers) entries = removed name numbers (remove_entry (same_key (key_of name n)) entries)

name_equiv : IsEquivalence same_name
name_equiv = lists_equiv (lists_equiv nat_eq_equiv)

-- the key of another name passes no test
not_same : (name : Name) (n : ℕ) (key : BlockKey) → same_name key.name name ≡ false → same_key (key_of name n) key
    ≡ false
not_same name n key other = ap (λ (b : Bool). b && (n == key.block)) (name_equiv.symm name key.name ∙ other)

its_key : (name : Name) (key : BlockKey) → same_name key.name name ≡ true → same_key (key_of name key.block) key ≡ true
its_key name key same = λ i. (name_equiv.symm name key.name ∙ same) i && (eq-eqb key.block key.block refl) i

removed_beside : (name : Name) (numbers : List ℕ) (e : BlockKey × List ℕ) (entries : Entries (List ℕ))
    → same_name e.0.name name ≡ false
    → removed name numbers (e ∷ entries) ≡ e ∷ removed name numbers entries
removed_beside name [] e entries other = refl
removed_beside name (n ∷ numbers) e entries other =
    ap (removed name numbers) (ap (λ (b : Bool). if b then entries else
    e ∷ remove_entry (same_key (key_of name n)) entries) (not_same name n e.0 other))
    ∙ removed_beside name numbers e (remove_entry (same_key (key_of name n)) entries) other

-- all that a name has are dropped by their numbers
pub all_removed : (name : Name) (entries : Entries (List ℕ)) → removed name (blocks_of name entries) entries
    ≡ kept_but name entries
all_removed name [] = refl
all_removed name (e ∷ entries) = by_test (same_name e.0.name name) refl (all_removed name entries)
  where
    by_test : (b : Bool) → same_name e.0.name name ≡ b → removed name (blocks_of name entries) entries
        ≡ kept_but name entries
        → removed name (if b then e.0.block ∷ blocks_of name entries else blocks_of name entries) (e ∷ entries)
        ≡ kept_but name (e ∷ entries)
    by_test true same rest =
        ap (removed name (blocks_of name entries)) (ap (λ (b : Bool). if b then entries else
        e ∷ remove_entry (same_key (key_of name e.0.block)) entries) (its_key name e.0 same))
        ∙ (rest ∙ sym (ap (λ (b : Bool). if not b then e ∷ kept_but name entries else kept_but name entries)
        (name_equiv.symm name e.0.name ∙ same)))
    by_test false other rest =
        removed_beside name (blocks_of name entries) e entries other
        ∙ (ap (λ (w : Entries (List ℕ)). e ∷ w) rest
        ∙ sym (ap (λ (b : Bool). if not b then e ∷ kept_but name entries else kept_but name entries)
        (name_equiv.symm name e.0.name ∙ other)))

-- ---- the value of a cache

-- a block was put
pub keeps : (value : CacheValue) (new : LruCache BlockKey (List ℕ)) (entries : Entries (List ℕ)) (cap hits misses : ℕ)
    (key k : BlockKey)
    (bytes b : List ℕ) (found : Found) → cache_of cap (record { entries = entries; hits = hits; misses = misses })
    ≡ value → k ≡ key → b ≡ bytes
    → found ≡ Ok bytes → new ≡ lru_cache (put_entries same_key (lru_cache entries cap) k b) cap
    → cache_of new.cap (record { entries = new.entries; hits = hits; misses = misses + 1 })
    ≡ cache_of value.capacity (missed_by value.capacity key value.kept found).kept
keeps value new entries cap hits misses key k bytes b found is same_k same_b read put =
    ap (λ (n : LruCache BlockKey (List ℕ)). cache_of n.cap (record
    { entries = n.entries; hits = hits; misses = misses + 1 })) put
    ∙ ((λ i. cache_of (is i).capacity (missed_with (is i).capacity (same_k i) (same_b i) (is i).kept))
    ∙ sym (ap (λ (f : Found). cache_of value.capacity (missed_by value.capacity key value.kept f).kept) read))

-- blocks of a name are to be dropped
pub drops : (value : CacheValue) (entries : Entries (List ℕ)) (cap hits misses : ℕ) (name : Name) (numbers : List ℕ)
    → cache_of cap (record { entries = entries; hits = hits; misses = misses }) ≡ value → numbers
    ≡ blocks_of name entries
    → cache_of cap (record { entries = removed name numbers entries; hits = hits; misses = misses })
    ≡ cache_of value.capacity (without_blocks_of name value.kept)
drops value entries cap hits misses name numbers is same =
    (λ i. cache_of cap (record { entries = removed name (same i) entries; hits = hits; misses = misses }))
    ∙ ((λ i. cache_of cap (record { entries = all_removed name entries i; hits = hits; misses = misses }))
    ∙ (λ i. cache_of (is i).capacity (without_blocks_of name (is i).kept)))
