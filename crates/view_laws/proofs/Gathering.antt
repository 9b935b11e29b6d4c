-- The blocks of a get are those of its file, and what is kept then goes by the files alone.
use Rattle.std.proofs.Common.{
  ◌≡◌,
  ◌≤◌,
  ◌<◌,
  ◌+◌,
  ◌*◌,
  ◌^◌,
  ℕ,
  zero,
  suc,
  Bool,
  true,
  false,
  List,
  [],
  ◌++◌,
  length,
  take,
  drop,
  Option,
  Some,
  None,
  Ok,
  Err,
  is_some,
  if◌then◌else◌,
  refl,
  ap,
  sym,
  ◌∙◌,
  subst,
  arith,
}
use Rattle.std.specs.Prelude.{min, nat_lt}
use Rattle.std.specs.Map.{lookup}
use Rattle.std.proofs.lemmas.Bool.Decides.{nat_tests}
use Rattle.std.proofs.lemmas.List.{append-nil, append_assoc, drop-drop, length-drop, length-take, take_all}
use Rattle.machine_model.specs.Components.{Name, components}
use Rattle.machine_model.specs.FileTree.{FileTree, bytes_of, node_at}
use Rattle.machine_model.specs.declared.node.Node.{Node}
use Rattle.machine_model.specs.declared.node.Node.TheVariants as node
use Rattle.view_model.specs.Blocks.{Kept, count_hit, count_miss, missed_with}
use Rattle.view_model.specs.Kept.{Keys, block_len, key_used, keys_used}
use Rattle.view_model.specs.Keys.{key_of, same_key}
use Rattle.view_model.specs.Viewed.{Doing, Found, Gathered, block_by, fetched_block, gather_blocks, missed_by, pure, was_gathered}
use Rattle.view_model.specs.ViewOps.{passes_length}
use Rattle.view_model.specs.declared.key.BlockKey.{BlockKey}
use Rattle.view_laws.specs.FileCalls.{FilesAt, at_rest}
use Rattle.view_laws.proofs.BlockReads.{Finds, block_found, fetches}
use Rattle.view_laws.proofs.Bytes.{take_two}
use Rattle.view_laws.proofs.DoingLaws.{Holds, Post, holds_bind, holds_pure}
use Rattle.view_laws.proofs.KeptBlocks.{Each, IsBlock, each_put, each_used, hit_alone, is_kept_alone, kept_block, missed_alone, no_entry, without_bytes}

-- nothing is open, each block that is kept is its file's, and these are the keys
pub record KeepsBlocks (block : ℕ) (tree : FileTree) (keys : Keys) (kept : Kept (List ℕ)) (now : FilesAt) : Type 0 where
  pub now_is : now ≡ at_rest tree
  pub blocks : Each (IsBlock tree block) kept.entries
  pub keys_are : without_bytes kept ≡ keys

-- ---- one block

-- what is kept once a block was wanted, by what the name has
abbrev pub keys_after : ℕ → BlockKey → Option Node → Keys → Keys
keys_after capacity key (Some (node.File file)) keys = key_used capacity key keys
keys_after capacity key other keys = count_miss keys

-- a block was wanted of a name that has this
pub record WasWanted (block capacity n : ℕ) (tree : FileTree) (key : BlockKey) (x : Option Node) (kept : Kept (List ℕ))
    (g : Gathered) (now : FilesAt)
    : Type 0 where
  pub found_is : g.found ≡ block_found tree block n x
  pub keeps : KeepsBlocks block tree (keys_after capacity key x (without_bytes kept)) g.kept now

-- a block of a file is a hit where it is kept, and a miss where it isn't
kept_hit : (capacity : ℕ) (key : BlockKey) (kept : Kept (List ℕ)) (bytes : List ℕ) → lookup (same_key key) kept.entries
    ≡ Some bytes
    → key_used capacity key (without_bytes kept) ≡ count_hit key (without_bytes kept)
kept_hit capacity key kept bytes is =
    ap (λ (b : Bool). if b then count_hit key (without_bytes kept) else
    missed_with capacity key tt (without_bytes kept))
    (is_kept_alone (same_key key) kept.entries ∙ ap (λ (o : Option (List ℕ)). is_some o) is)

kept_miss : (capacity : ℕ) (key : BlockKey) (kept : Kept (List ℕ)) → lookup (same_key key) kept.entries ≡ None
    → key_used capacity key (without_bytes kept) ≡ missed_with capacity key tt (without_bytes kept)
kept_miss capacity key kept none =
    ap (λ (b : Bool). if b then count_hit key (without_bytes kept) else
    missed_with capacity key tt (without_bytes kept))
    (is_kept_alone (same_key key) kept.entries ∙ ap (λ (o : Option (List ℕ)). is_some o) none)

module _ (len block capacity : ℕ) (tree : FileTree) (path : List ℕ) (some : 1 ≤ block)
    (fits : passes_length path ≡ false) where
  abbrev name : Name
  name = components path

  wanted : (n : ℕ) (kept : Kept (List ℕ)) → n * block + block < 2 ^ 64 → Each (IsBlock tree block) kept.entries
      → Holds len (block_by block capacity path n kept (lookup (same_key (key_of name n)) kept.entries)) (at_rest tree)
      (WasWanted block capacity n tree (key_of name n) (node_at tree name) kept)
  wanted n kept far h = by_lookup (lookup (same_key (key_of name n)) kept.entries) refl
    where
      key : BlockKey
      key = key_of (components path) n

      post : Post Gathered
      post g now = WasWanted block capacity n tree (key_of (components path) n) (node_at tree (components path)) kept g
          now

      hit_of : (x : Option Node) (bytes : List ℕ) → block_found tree block n x ≡ Ok bytes
          → lookup (same_key (key_of (components path) n)) kept.entries ≡ Some bytes
          → keys_after capacity (key_of (components path) n) x (without_bytes kept)
          ≡ count_hit (key_of (components path) n) (without_bytes kept)
      hit_of None bytes e is = absurd cc
      hit_of (Some node.Directory) bytes e is = absurd cc
      hit_of (Some (node.File file)) bytes e is = kept_hit capacity (key_of (components path) n) kept bytes is

      missed_of : (x : Option Node) (now : FilesAt) → node_at tree (components path) ≡ x → now ≡ at_rest tree
          → lookup (same_key (key_of (components path) n)) kept.entries ≡ None
          → WasWanted block capacity n tree (key_of (components path) n) x kept
          (missed_by capacity (key_of (components path) n) kept (block_found tree block n x)) now
      missed_of None now is at none = record {
        found_is = refl;
        keeps =
            record { now_is = at; blocks = h; keys_are = refl };
      }
      missed_of (Some node.Directory) now is at none = record {
        found_is = refl;
        keeps =
            record { now_is = at; blocks = h; keys_are = refl };
      }
      missed_of (Some (node.File file)) now is at none =
          let key : BlockKey = key_of (components path) n in
          let bytes : List ℕ = take block (drop (n * block) (bytes_of tree file)) in
          record {
            found_is = refl;
            keeps = record {
              now_is = at;
              blocks = each_put (IsBlock tree block) capacity key bytes kept.entries
                  (no_entry (same_key key) kept.entries none)
                  (ap (block_found tree block n) is) h;
              keys_are = missed_alone capacity key bytes kept ∙ sym (kept_miss capacity key kept none);
            };
          }

      by_lookup : (o : Option (List ℕ)) → lookup (same_key (key_of (components path) n)) kept.entries ≡ o
          → Holds len (block_by block capacity path n kept o) (at_rest tree) post
      by_lookup (Some bytes) is =
          let key : BlockKey = key_of (components path) n in
          let there = kept_block tree block (components path) n kept.entries bytes h is in
          holds_pure len (record { found = Ok bytes; kept = count_hit key kept }) (at_rest tree) post (record {
            found_is = sym there;
            keeps = record {
              now_is = refl;
              blocks = each_used (IsBlock tree block) (same_key key) kept.entries h;
              keys_are = hit_alone key kept ∙ sym (hit_of (node_at tree (components path)) bytes there is);
            };
          })
      by_lookup None none =
          let key : BlockKey = key_of (components path) n in
          holds_bind len (fetched_block block path n) (λ found. pure (missed_by capacity key kept found)) (at_rest tree)
          (Finds tree (block_found tree block n (node_at tree (components path)))) post
          (fetches len block n tree path some far fits)
          (λ found now f. holds_pure len (missed_by capacity key kept found) now post
          (subst (λ (v : Found). post (missed_by capacity key kept v) now) (sym f.is)
          (missed_of (node_at tree (components path)) now refl f.now_is none)))

  -- ---- the blocks of a file

  -- these bytes were gathered, and these keys are kept
  pub record HasGathered (value : Found) (keys : Keys) (g : Gathered) (now : FilesAt) : Type 0 where
    pub found_is : g.found ≡ value
    pub keeps : KeepsBlocks block tree keys g.kept now

  module _ (file : ℕ) (is : node_at tree name ≡ Some (node.File file)) where
    abbrev part : ℕ → ℕ → List ℕ
    part n m = take (m * block) (drop (n * block) (bytes_of tree file))

    abbrev one : ℕ → List ℕ
    one n = take block (drop (n * block) (bytes_of tree file))

    len_is : (n : ℕ) → block_len tree block file n ≡ length (one n)
    len_is n = ap (λ (k : ℕ). min block k) (sym (length-drop (n * block) (bytes_of tree file)))
        ∙ sym (length-take block (drop (n * block) (bytes_of tree file)))

    last_part : (n m : ℕ) → length (one n) < block → one n ≡ part n (suc m)
    last_part n m lt =
        let rest : List ℕ = drop (n * block) (bytes_of tree file) in
        let l : length (one n) ≡ min block (length rest) = length-take block rest in
        let short : length rest < block = omega (arith, l, lt) in
        let wide : suc m * block ≡ block + m * block = omega arith in
        take_all block rest (omega (arith, short)) ∙ sym (take_all (suc m * block) rest (omega (arith, short, wide)))

    more_parts : (n m : ℕ) → part n (suc m) ≡ one n ++ part (n + 1) m
    more_parts n m =
        let wide : suc m * block ≡ block + m * block = omega arith in
        let next : n * block + block ≡ (n + 1) * block = omega arith in
        ap (λ (k : ℕ). take k (drop (n * block) (bytes_of tree file))) wide
        ∙ (take_two block (m * block) (drop (n * block) (bytes_of tree file))
        ∙ ap (λ (w : List ℕ). one n ++ take (m * block) w)
        (drop-drop block (n * block) (bytes_of tree file) ∙ ap (λ (k : ℕ). drop k (bytes_of tree file)) next))

    keys_is : (n m : ℕ) (keys : Keys) (t : Bool) → nat_lt (length (one n)) block ≡ t
        → keys_used tree block capacity name file n (suc m) keys
        ≡ (if t then key_used capacity (key_of name n) keys else
        keys_used tree block capacity name file (n + 1) m (key_used capacity (key_of name n) keys))
    keys_is n m keys t e = ap (λ (b : Bool). if b then key_used capacity (key_of name n) keys else
        keys_used tree block capacity name file (n + 1) m (key_used capacity (key_of name n) keys))
        (ap (λ (k : ℕ). nat_lt k block) (len_is n) ∙ e)

    abbrev GathersOn : ℕ → ℕ → Type 0
    GathersOn n m = (bytes : List ℕ) (kept : Kept (List ℕ)) → Each (IsBlock tree block) kept.entries
        → Holds len (gather_blocks block capacity path n m bytes kept) (at_rest tree)
        (HasGathered (Ok (bytes ++ part n m)) (keys_used tree block capacity name file n m (without_bytes kept)))

    after_block : (n m : ℕ) (bytes : List ℕ) (kept : Kept (List ℕ)) (g : Gathered) (now : FilesAt) → GathersOn (n + 1) m
        → WasWanted block capacity n tree (key_of name n) (Some (node.File file)) kept g now
        → Holds len (was_gathered block bytes g.found g.kept (λ more. gather_blocks block capacity path (n + 1) m more
        g.kept)) now
        (HasGathered (Ok (bytes ++ part n (suc m))) (keys_used tree block capacity name file n (suc m)
        (without_bytes kept)))
    after_block n m bytes kept g now on w =
        subst (λ (f : Found). Holds len (was_gathered block bytes f g.kept go) now post) (sym w.found_is)
        (subst (λ (at : FilesAt). Holds len (was_gathered block bytes (Ok (one n)) g.kept go) at post)
        (sym w.keeps.now_is)
        (by_test (nat_lt (length (one n)) block) refl))
      where
        go : List ℕ → Doing Gathered
        go more = gather_blocks block capacity path (n + 1) m more g.kept

        post : Post Gathered
        post g now = HasGathered (Ok (bytes ++ part n (suc m))) (keys_used tree block capacity name file n (suc m)
            (without_bytes kept)) g now

        by_test : (t : Bool) → nat_lt (length (one n)) block ≡ t
            → Holds len (if t then pure (record { found = Ok (bytes ++ one n); kept = g.kept }) else
            gather_blocks block capacity path (n + 1) m (bytes ++ one n) g.kept)
            (at_rest tree) (λ g now. HasGathered (Ok (bytes ++ part n (suc m)))
            (keys_used tree block capacity name file n (suc m) (without_bytes kept)) g now)
        by_test true e =
            holds_pure len (record { found = Ok (bytes ++ one n); kept = g.kept }) (at_rest tree)
            (λ g now. HasGathered (Ok (bytes ++ part n (suc m))) (keys_used tree block capacity name file n (suc m)
            (without_bytes kept)) g now)
            (record {
              found_is = ap (λ (w : List ℕ). Ok (bytes ++ w)) (last_part n m
                  (let lt : length (one n) < block = grind (arith, nat_tests) in lt));
              keeps = record {
                now_is = refl;
                blocks = w.keeps.blocks;
                keys_are = w.keeps.keys_are
                    ∙ sym (keys_is n m (without_bytes kept) true e);
              };
            })
        by_test false e =
            subst (λ (v : Found). Holds len (gather_blocks block capacity path (n + 1) m (bytes ++ one n) g.kept)
            (at_rest tree)
            (λ g now. HasGathered v (keys_used tree block capacity name file n (suc m) (without_bytes kept)) g now))
            (ap (λ (w : List ℕ). Ok w) (append_assoc bytes (one n) (part (n + 1) m)
            ∙ ap (λ (w : List ℕ). bytes ++ w) (sym (more_parts n m))))
            (subst (λ (k : Keys). Holds len (gather_blocks block capacity path (n + 1) m (bytes ++ one n) g.kept)
            (at_rest tree)
            (λ g now. HasGathered (Ok ((bytes ++ one n) ++ part (n + 1) m)) k g now))
            (ap (keys_used tree block capacity name file (n + 1) m) w.keeps.keys_are
            ∙ sym (keys_is n m (without_bytes kept) false e))
            (on (bytes ++ one n) g.kept w.keeps.blocks))

    pub gathers : (m n : ℕ) → (n + m) * block < 2 ^ 64 → GathersOn n m
    gathers zero n far bytes kept h =
        let none : 0 * block ≡ 0 = omega arith in
        holds_pure len (record { found = Ok bytes; kept = kept }) (at_rest tree)
        (HasGathered (Ok (bytes ++ part n zero)) (without_bytes kept)) (record {
          found_is = ap (λ (w : List ℕ). Ok w) (sym (ap (λ (k : ℕ). bytes
              ++ take k (drop (n * block) (bytes_of tree file))) none ∙ append-nil bytes));
          keeps = record { now_is = refl; blocks = h; keys_are = refl };
        })
    gathers (suc m) n far bytes kept h =
        let spread : (n + suc m) * block ≡ n * block + block + m * block = omega arith in
        let next : n + 1 + m ≡ n + suc m = omega arith in
        holds_bind len (block_by block capacity path n kept (lookup (same_key (key_of name n)) kept.entries))
        (λ g. was_gathered block bytes g.found g.kept (λ more. gather_blocks block capacity path (n + 1) m more g.kept))
        (at_rest tree)
        (WasWanted block capacity n tree (key_of name n) (Some (node.File file)) kept)
        (HasGathered (Ok (bytes ++ part n (suc m))) (keys_used tree block capacity name file n (suc m)
        (without_bytes kept)))
        (subst (λ (x : Option Node). Holds len (block_by block capacity path n kept
        (lookup (same_key (key_of name n)) kept.entries)) (at_rest tree)
        (WasWanted block capacity n tree (key_of name n) x kept)) is (wanted n kept (omega (arith, spread, far)) h))
        (λ g now w. after_block n m bytes kept g now (gathers m (n + 1)
        (subst (λ (k : ℕ). k * block < 2 ^ 64) (sym next) far)) w)

  -- ---- no file

  -- the first block is refused
  refuses_first : (code n m : ℕ) (kept : Kept (List ℕ)) (x : Option Node) → node_at tree name ≡ x
      → block_found tree block n x ≡ Err code
      → keys_after capacity (key_of name n) x (without_bytes kept) ≡ count_miss (without_bytes kept)
      → n * block + block < 2 ^ 64
      → Each (IsBlock tree block) kept.entries
      → Holds len (gather_blocks block capacity path n (suc m) [] kept) (at_rest tree)
      (HasGathered (Err code) (count_miss (without_bytes kept)))
  refuses_first code n m kept x is err keys far h =
      holds_bind len (block_by block capacity path n kept (lookup (same_key (key_of name n)) kept.entries))
      (λ g. was_gathered block [] g.found g.kept (λ more. gather_blocks block capacity path (n + 1) m more g.kept))
      (at_rest tree)
      (WasWanted block capacity n tree (key_of name n) x kept) (HasGathered (Err code)
      (count_miss (without_bytes kept)))
      (subst (λ (x : Option Node). Holds len (block_by block capacity path n kept
      (lookup (same_key (key_of name n)) kept.entries)) (at_rest tree)
      (WasWanted block capacity n tree (key_of name n) x kept)) is (wanted n kept far h))
      (λ g now w. subst (λ (f : Found). Holds len (was_gathered block [] f g.kept
      (λ more. gather_blocks block capacity path (n + 1) m more g.kept)) now
      (HasGathered (Err code) (count_miss (without_bytes kept)))) (sym (w.found_is ∙ err))
      (holds_pure len (record { found = Err code; kept = g.kept }) now
      (HasGathered (Err code) (count_miss (without_bytes kept)))
      (record {
        found_is = refl;
        keeps = record {
          now_is = w.keeps.now_is;
          blocks = w.keeps.blocks;
          keys_are =
              w.keeps.keys_are ∙ keys;
        };
      })))

  pub refuses_all : (code n m : ℕ) (kept : Kept (List ℕ)) (x : Option Node) → 1 ≤ m → node_at tree name ≡ x
      → block_found tree block n x ≡ Err code
      → keys_after capacity (key_of name n) x (without_bytes kept) ≡ count_miss (without_bytes kept)
      → n * block + block < 2 ^ 64
      → Each (IsBlock tree block) kept.entries
      → Holds len (gather_blocks block capacity path n m [] kept) (at_rest tree)
      (HasGathered (Err code) (count_miss (without_bytes kept)))
  refuses_all code n zero kept x any is err keys far h = absurd (omega (arith, any))
  refuses_all code n (suc m) kept x any is err keys far h = refuses_first code n m kept x is err keys far h
