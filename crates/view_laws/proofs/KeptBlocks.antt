-- The blocks that are kept are those of the files, and their keys go by the keys alone.
use Rattle.std.proofs.Common.{
  ◌≡◌,
  ◌==◌,
  ◌+◌,
  ◌-◌,
  ℕ,
  zero,
  suc,
  Bool,
  true,
  false,
  not,
  List,
  [],
  ◌∷◌,
  take,
  Option,
  Some,
  None,
  Ok,
  is_some,
  if◌then◌else◌,
  refl,
  ap,
  sym,
  ◌∙◌,
  subst,
  inl,
  inr,
}
use Rattle.std.specs.Map.{lookup, lookup_entry, remove_entry}
use Rattle.std.specs.Option.{option_map_or}
use Rattle.std.proofs.lemmas.Bool.{and_parts}
use Rattle.std.proofs.lemmas.Bool.Decides.{eqb_tells}
use Rattle.lru.specs.LruCache.{promoted}
use Rattle.machine_model.proofs.NameLaws.{names_tell}
use Rattle.machine_model.specs.Components.{Name, same_name}
use Rattle.machine_model.specs.FileTree.{FileTree, node_at}
use Rattle.view_model.specs.Blocks.{Entries, Kept, without_blocks_of, count_hit, kept_but, kept_with, missed_with}
use Rattle.view_model.specs.Kept.{Keys}
use Rattle.view_model.specs.Keys.{key_of, same_key}
use Rattle.view_model.specs.declared.key.BlockKey.{BlockKey}
use Rattle.view_laws.proofs.BlockReads.{block_found}

-- ---- keys alone

-- a block that is kept, with its bytes
abbrev pub Entry : Type 0
Entry = BlockKey × List ℕ

abbrev Key : Type 0
Key = BlockKey × Unit {0}

abbrev pub key_alone : Entry → Key
key_alone e = (e.0, tt)

abbrev pub keys_alone : Entries (List ℕ) → Entries (Unit {0})
keys_alone [] = []
keys_alone (e ∷ es) = key_alone e ∷ keys_alone es

-- what is kept, but for the bytes
abbrev pub without_bytes : Kept (List ℕ) → Keys
without_bytes k = record { entries = keys_alone k.entries; hits = k.hits; misses = k.misses }

-- a choice of one of two lists goes by the keys
by_test_alone : (b : Bool) (xs ys : Entries (List ℕ)) → keys_alone (if b then xs else ys)
    ≡ (if b then keys_alone xs else keys_alone ys)
by_test_alone true xs ys = refl
by_test_alone false xs ys = refl

module _ (test : BlockKey → Bool) where
  removed_alone : (es : Entries (List ℕ)) → keys_alone (remove_entry test es) ≡ remove_entry test (keys_alone es)
  removed_alone [] = refl
  removed_alone (e ∷ es) =
      by_test_alone (test e.0) es (e ∷ remove_entry test es)
      ∙ (λ i. if test e.0 then keys_alone es else (let k : Key = key_alone e in k ∷ removed_alone es i))

  abbrev entry_alone : Option Entry → Option Key
  entry_alone None = None
  entry_alone (Some e) = Some (key_alone e)

  found_alone : (es : Entries (List ℕ)) → lookup_entry test (keys_alone es) ≡ entry_alone (lookup_entry test es)
  found_alone [] = refl
  found_alone (e ∷ es) = by_test (test e.0) (found_alone es)
    where
      by_test : (b : Bool) → lookup_entry test (keys_alone es) ≡ entry_alone (lookup_entry test es)
          → (if b then Some (key_alone e) else lookup_entry test (keys_alone es))
          ≡ entry_alone (if b then Some e else lookup_entry test es)
      by_test true rest = refl
      by_test false rest = rest

  pub is_kept_alone : (es : Entries (List ℕ)) → is_some (lookup test (keys_alone es)) ≡ is_some (lookup test es)
  is_kept_alone [] = refl
  is_kept_alone (e ∷ es) = by_test (test e.0) (is_kept_alone es)
    where
      by_test : (b : Bool) → is_some (lookup test (keys_alone es)) ≡ is_some (lookup test es)
          → is_some (if b then Some tt else lookup test (keys_alone es))
          ≡ is_some (if b then Some e.1 else lookup test es)
      by_test true rest = refl
      by_test false rest = rest

  promoted_alone : (es : Entries (List ℕ)) → keys_alone (promoted test es) ≡ promoted test (keys_alone es)
  promoted_alone es = by_entry (lookup_entry test es) ∙ sym (ap
      (λ o. option_map_or (λ e. e ∷ remove_entry test (keys_alone es)) o (keys_alone es)) (found_alone es))
    where
      by_entry : (o : Option Entry) → keys_alone (option_map_or (λ e. e ∷ remove_entry test es) o es)
          ≡ option_map_or (λ e. e ∷ remove_entry test (keys_alone es)) (entry_alone o) (keys_alone es)
      by_entry None = refl
      by_entry (Some e) = (λ i. key_alone e ∷ removed_alone es i)

taken_alone : (n : ℕ) (es : Entries (List ℕ)) → keys_alone (take n es) ≡ take n (keys_alone es)
taken_alone zero es = refl
taken_alone (suc n) [] = refl
taken_alone (suc n) (e ∷ es) = (λ i. key_alone e ∷ taken_alone n es i)

put_alone : (capacity : ℕ) (key : BlockKey) (bytes : List ℕ) (es : Entries (List ℕ))
    → keys_alone (kept_with capacity key bytes es) ≡ kept_with capacity key tt (keys_alone es)
put_alone capacity key bytes es =
    by_entry (lookup_entry (same_key key) es)
    ∙ sym (ap (λ o. option_map_or (λ e. (e.0, tt) ∷ remove_entry (same_key key) (keys_alone es)) o
    ((key, tt) ∷ take (capacity - 1) (keys_alone es)))
    (found_alone (same_key key) es))
  where
    by_entry : (o : Option Entry)
        → keys_alone (option_map_or (λ e. (e.0, bytes) ∷ remove_entry (same_key key) es) o
        ((key, bytes) ∷ take (capacity - 1) es))
        ≡ option_map_or (λ e. (e.0, tt) ∷ remove_entry (same_key key) (keys_alone es)) (entry_alone (same_key key) o)
        ((key, tt) ∷ take (capacity - 1) (keys_alone es))
    by_entry None = (λ i. key_alone (key, bytes) ∷ taken_alone (capacity - 1) es i)
    by_entry (Some e) = (λ i. key_alone e ∷ removed_alone (same_key key) es i)

but_alone : (name : Name) (es : Entries (List ℕ)) → keys_alone (kept_but name es) ≡ kept_but name (keys_alone es)
but_alone name [] = refl
but_alone name (e ∷ es) =
    by_test_alone (not (same_name name e.0.name)) (e ∷ kept_but name es) (kept_but name es)
    ∙ (λ i. if not (same_name name e.0.name) then (let k : Key = key_alone e in k ∷ but_alone name es i) else
    but_alone name es i)

pub hit_alone : (key : BlockKey) (k : Kept (List ℕ)) → without_bytes (count_hit key k) ≡ count_hit key (without_bytes k)
hit_alone key k = (λ i. record {
  entries = promoted_alone (same_key key) k.entries i;
  hits = k.hits + 1;
  misses =
      k.misses;
})

pub missed_alone : (capacity : ℕ) (key : BlockKey) (bytes : List ℕ) (k : Kept (List ℕ))
    → without_bytes (missed_with capacity key bytes k) ≡ missed_with capacity key tt (without_bytes k)
missed_alone capacity key bytes k = (λ i. record {
  entries = put_alone capacity key bytes k.entries i;
  hits = k.hits;
  misses = k.misses + 1;
})

pub dropped_alone : (name : Name) (k : Kept (List ℕ)) → without_bytes (without_blocks_of name k)
    ≡ without_blocks_of name (without_bytes k)
dropped_alone name k = (λ i. record { entries = but_alone name k.entries i; hits = k.hits; misses = k.misses })

-- ---- what holds of each entry

abbrev pub Each : (Entry → Type 0) → Entries (List ℕ) → Type 0
Each P [] = Unit {0}
Each P (e ∷ es) = P e × Each P es

module _ (P : Entry → Type 0) where
  each_removed : (test : BlockKey → Bool) (es : Entries (List ℕ)) → Each P es → Each P (remove_entry test es)
  each_removed test [] h = tt
  each_removed test (e ∷ es) h = by_test (test e.0) (each_removed test es h.1)
    where
      by_test : (b : Bool) → Each P (remove_entry test es) → Each P (if b then es else e ∷ remove_entry test es)
      by_test true rest = h.1
      by_test false rest = (h.0, rest)

  -- an entry that is found
  record IsEntry (test : BlockKey → Bool) (e : Entry) : Type 0 where
    holds : P e
    passes : test e.0 ≡ true

  entry_found : (test : BlockKey → Bool) (es : Entries (List ℕ)) (e : Entry) → Each P es → lookup_entry test es ≡ Some e
      → IsEntry test e
  entry_found test [] e h is = absurd cc
  entry_found test (f ∷ es) e h is = by_test (test f.0) refl is (λ later. entry_found test es e h.1 later)
    where
      by_test : (b : Bool) → test f.0 ≡ b → (if b then Some f else lookup_entry test es) ≡ Some e
          → (lookup_entry test es ≡ Some e → IsEntry test e) → IsEntry test e
      by_test true t is later = (let same : f ≡ e = cc in subst (IsEntry test) same
          (record { holds = h.0; passes = t }))
      by_test false t is later = later is

  pub record HasValue (test : BlockKey → Bool) (bytes : List ℕ) : Type 0 where
    pub key : BlockKey
    pub holds : P (key, bytes)
    pub passes : test key ≡ true

  pub value_found : (test : BlockKey → Bool) (es : Entries (List ℕ)) (bytes : List ℕ) → Each P es → lookup test es
      ≡ Some bytes → HasValue test bytes
  value_found test [] bytes h is = absurd cc
  value_found test (f ∷ es) bytes h is = by_test (test f.0) refl is (λ later. value_found test es bytes h.1 later)
    where
      by_test : (b : Bool) → test f.0 ≡ b → (if b then Some f.1 else lookup test es) ≡ Some bytes
          → (lookup test es ≡ Some bytes → HasValue test bytes) → HasValue test bytes
      by_test true t is later = (let same : f.1 ≡ bytes = cc in
          record { key = f.0; holds = subst (λ (b : List ℕ). P (f.0, b)) same h.0; passes = t })
      by_test false t is later = later is

  pub each_used : (test : BlockKey → Bool) (es : Entries (List ℕ)) → Each P es → Each P (promoted test es)
  each_used test es h = by_entry (lookup_entry test es) (λ e is. entry_found test es e h is)
    where
      by_entry : (o : Option Entry) → ((e : Entry) → o ≡ Some e → IsEntry test e)
          → Each P (option_map_or (λ e. e ∷ remove_entry test es) o es)
      by_entry None f = h
      by_entry (Some e) f = ((f e refl).holds, each_removed test es h)

  each_taken : (n : ℕ) (es : Entries (List ℕ)) → Each P es → Each P (take n es)
  each_taken zero es h = tt
  each_taken (suc n) [] h = tt
  each_taken (suc n) (e ∷ es) h = (h.0, each_taken n es h.1)

  pub each_put : (capacity : ℕ) (key : BlockKey) (bytes : List ℕ) (es : Entries (List ℕ))
      → lookup_entry (same_key key) es ≡ None → P (key, bytes)
      → Each P es → Each P (kept_with capacity key bytes es)
  each_put capacity key bytes es none new h =
      subst (λ o. Each P (option_map_or (λ e. (e.0, bytes) ∷ remove_entry (same_key key) es) o
      ((key, bytes) ∷ take (capacity - 1) es))) (sym none)
      (new, each_taken (capacity - 1) es h)

-- where the names apart from this one have what they had
pub each_but : (P Q : Entry → Type 0) (name : Name) (es : Entries (List ℕ))
    → ((e : Entry) → same_name name e.0.name ≡ false → P e → Q e)
    → Each P es → Each Q (kept_but name es)
each_but P Q name [] f h = tt
each_but P Q name (e ∷ es) f h = by_test (same_name name e.0.name) refl (each_but P Q name es f h.1)
  where
    by_test : (b : Bool) → same_name name e.0.name ≡ b → Each Q (kept_but name es)
        → Each Q (if not b then e ∷ kept_but name es else kept_but name es)
    by_test true t rest = rest
    by_test false t rest = (f e t h.0, rest)

pub no_entry : (test : BlockKey → Bool) (es : Entries (List ℕ)) → lookup test es ≡ None → lookup_entry test es ≡ None
no_entry test [] none = refl
no_entry test (e ∷ es) none = by_test (test e.0) none (λ later. no_entry test es later)
  where
    by_test : (b : Bool) → (if b then Some e.1 else lookup test es) ≡ None
        → (lookup test es ≡ None → lookup_entry test es ≡ None)
        → (if b then Some e else lookup_entry test es) ≡ None
    by_test true none later = absurd cc
    by_test false none later = later none

-- ---- blocks

-- the entry is its file's block
abbrev pub IsBlock : FileTree → ℕ → Entry → Type 0
IsBlock tree block e = block_found tree block e.0.block (node_at tree e.0.name) ≡ Ok e.1

-- a block that is kept under this key
pub kept_block : (tree : FileTree) (block : ℕ) (name : Name) (n : ℕ) (es : Entries (List ℕ)) (bytes : List ℕ)
    → Each (IsBlock tree block) es
    → lookup (same_key (key_of name n)) es ≡ Some bytes → block_found tree block n (node_at tree name) ≡ Ok bytes
kept_block tree block name n es bytes h is =
    let v = value_found (IsBlock tree block) (same_key (key_of name n)) es bytes h is in
    let both = and_parts (same_name name v.key.name) (n == v.key.block) v.passes in
    let same : name ≡ v.key.name = (names_tell name v.key.name).0 both.0 in
    elim (eqb_tells n v.key.block) [
      | inl t ↦ (λ i. block_found tree block (t.1 i) (node_at tree (same i))) ∙ v.holds
      | inr t ↦ absurd (let no : (n == v.key.block) ≡ false = t.0 in let yes_ : (n == v.key.block) ≡ true = both.1 in
          let x : true ≡ false = sym yes_ ∙ no in cc)
    ]
