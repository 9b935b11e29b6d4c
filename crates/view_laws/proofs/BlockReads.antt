-- A block that is read is the file's block.
use Rattle.std.proofs.Common.{
  ◌≡◌,
  ◌≤◌,
  ◌<◌,
  ◌+◌,
  ◌-◌,
  ◌*◌,
  ◌^◌,
  ◌==◌,
  ℕ,
  zero,
  suc,
  Bool,
  true,
  false,
  List,
  [],
  ◌∷◌,
  ◌++◌,
  length,
  take,
  drop,
  Option,
  Some,
  None,
  Ok,
  Err,
  if◌then◌else◌,
  refl,
  ap,
  sym,
  ◌∙◌,
  subst,
  arith,
  inl,
  inr,
}
use Rattle.std.specs.Prelude.{◌||◌, nat_le}
use Rattle.std.proofs.lemmas.Bool.{ne_eqb}
use Rattle.std.proofs.lemmas.Bool.Decides.{nat_tests}
use Rattle.std.proofs.lemmas.List.{append-nil, append_assoc, drop_all, length-append, take_all, take_at}
use Rattle.machine_model.specs.Components.{Name, components}
use Rattle.machine_model.specs.FileTree.{FileTree, bytes_of, node_at, size_of, with_handle}
use Rattle.machine_model.specs.HandleRequests.{after_open, held_by}
use Rattle.machine_model.specs.declared.node.Node.{Node}
use Rattle.machine_model.specs.declared.node.Node.TheVariants as node
use Rattle.machine_model.specs.declared.opened.Opened.{Opened}
use Rattle.view_model.specs.Viewed.{
  Doing,
  Found,
  close_file_call,
  fetched_block,
  makes,
  open_call,
  pure,
  read_at,
  read_on,
  read_call,
  reads_only,
  seek_call,
  unless_refused,
  was_read,
  ◌>>=◌,
}
use Rattle.view_model.specs.ViewOps.{passes_length}
use Rattle.view_laws.specs.FileCalls.{BringsBytes, FilesAt, OpensBy, OpensNode, OpenFilePlace, TellsEnd, at_rest, at_start, bare, files_with_open}
use Rattle.view_laws.proofs.Bytes.{drop_first}
use Rattle.view_laws.proofs.DoingLaws.{Holds, Post, holds_after, holds_bind, holds_pure}

-- ---- reads until a block is full

-- these bytes were read, and the file is still open
pub record HasRead (tree : FileTree) (bytes : List ℕ) (found : Found) (now : FilesAt) : Type 0 where
  pub value : found ≡ Ok bytes
  pub slot : OpenFilePlace
  pub now_is : now ≡ files_with_open tree slot

-- bytes up to where the file ends are all that a block has
ends_here : (off block : ℕ) (file bytes more : List ℕ) → drop off file ≡ bytes ++ more
    → length file ≤ off + length bytes
    → length bytes < block → bytes ++ [] ≡ take block (drop off file)
ends_here off block file bytes more is behind short =
    let none : more ≡ [] = sym (drop_first off file bytes more is) ∙ drop_all (off + length bytes) file behind in
    let whole : drop off file ≡ bytes = is ∙ (ap (λ (w : List ℕ). bytes ++ w) none ∙ append-nil bytes) in
    append-nil bytes ∙ sym (ap (take block) whole ∙ take_all block bytes (omega (arith, short)))

module _ (len block off : ℕ) (tree : FileTree) (file : ℕ) where
  abbrev whole_block : Post Found
  whole_block found now = HasRead tree (take block (drop off (bytes_of tree file))) found now

  -- further READs, at most so many, bring the whole block
  abbrev ReadsOn : ℕ → Type 0
  ReadsOn most = (bytes more : List ℕ) (s : OpenFilePlace) → s.file ≡ file → s.readable ≡ true → s.offset
      ≡ off + length bytes
      → drop off (bytes_of tree file) ≡ bytes ++ more → length bytes < block → block ≤ most + length bytes
      → Holds len (read_on block most bytes) (files_with_open tree s) whole_block

  -- what is done after a READ that brought bytes
  after_bytes : (most : ℕ) (bytes b rest : List ℕ) (now : FilesAt) (s : OpenFilePlace) → now ≡ files_with_open tree s
      → drop off (bytes_of tree file) ≡ (bytes ++ b) ++ rest → 1 ≤ length b → length (bytes ++ b) ≤ block
      → (length (bytes ++ b) < block → Holds len (read_on block most (bytes ++ b)) now whole_block)
      → Holds len (was_read block bytes (Ok b) (λ more. read_on block most more)) now whole_block
  after_bytes most bytes b rest now s at is some le more =
      by_tests (length b == 0) (nat_le block (length (bytes ++ b))) refl refl
    where
      by_tests : (x y : Bool) → length b == 0 ≡ x → nat_le block (length (bytes ++ b)) ≡ y
          → Holds len (if x || y then pure (Ok (bytes ++ b)) else read_on block most (bytes ++ b)) now whole_block
      by_tests true y e f = absurd (let no : length b == 0 ≡ false = ne_eqb (length b) 0 (λ z. omega (arith, z, some))
          in let both : true ≡ false = sym e ∙ no in cc)
      by_tests false true e f =
          let full : block ≤ length (bytes ++ b) = grind (arith, nat_tests) in
          holds_pure len (Ok (bytes ++ b)) now whole_block (record {
            value = ap (λ (w : List ℕ). Ok w) (sym (ap (take block) is
                ∙ take_at (bytes ++ b) rest block (omega (arith, full, le))));
            slot = s;
            now_is = at;
          })
      by_tests false false e f = more (let lt : length (bytes ++ b) < block = grind (arith, nat_tests) in lt)

  pub reads_on : (most : ℕ) (bytes more : List ℕ) (s : OpenFilePlace) → s.file ≡ file → s.readable ≡ true
      → s.offset ≡ off + length bytes → drop off (bytes_of tree file) ≡ bytes ++ more → length bytes < block
      → block ≤ most + length bytes → off + block < 2 ^ 64
      → Holds len (read_on block most bytes) (files_with_open tree s) whole_block
  reads_on zero bytes more s of way at is short enough far = absurd (omega (arith, short, enough))
  reads_on (suc most) bytes more s of way at is short enough far =
      holds_after len (read_call n) (λ found. was_read block bytes found (λ more. read_on block most more))
      (files_with_open tree s) whole_block
      (refl, (way, some, fits)) (λ found now did. elim did [
        | inl ends ↦ at_end found now ends
        | inr brings ↦ with_more found now brings (λ b m t e w o i l c. reads_on most b m t e w o i l c far)
      ])
    where
      n : ℕ
      n = block - length bytes

      some : 1 ≤ n
      some = omega (arith, short)

      fits : s.offset + n < 2 ^ 64
      fits = omega (arith, at, short, far)

      at_end : (found : Found) (now : FilesAt) → TellsEnd s (files_with_open tree s) found now
          → Holds len (was_read block bytes found (λ more. read_on block most more)) now whole_block
      at_end found now ends =
          subst (λ (f : Found). Holds len (was_read block bytes f (λ more. read_on block most more)) now whole_block)
          (sym ends.found_is)
          (holds_pure len (Ok (bytes ++ [])) now whole_block (record {
            value = ap (λ (w : List ℕ). Ok w) (ends_here off block (bytes_of tree file) bytes more is
                (let behind : size_of tree s.file ≤ s.offset = ends.behind in
                let same : size_of tree s.file ≡ size_of tree file = ap (size_of tree) of in
                omega (arith, behind, same, at)) short);
            slot = s;
            now_is = ends.now_is;
          }))

      with_more : (found : Found) (now : FilesAt) → BringsBytes n s (files_with_open tree s) found now → ReadsOn most
          → Holds len (was_read block bytes found (λ more. read_on block most more)) now whole_block
      with_more found now brings reads =
          let b : List ℕ = brings.bytes in
          let rest : List ℕ = brings.rest in
          let next : OpenFilePlace = record s { offset = s.offset + length b } in
          let there : drop (off + length bytes) (bytes_of tree file) ≡ b ++ rest =
          (λ i. drop (sym at i) (bytes_of tree (sym of i))) ∙ brings.are in
          let split : more ≡ b ++ rest = sym (drop_first off (bytes_of tree file) bytes more is) ∙ there in
          let all : drop off (bytes_of tree file) ≡ (bytes ++ b) ++ rest =
          is ∙ (ap (λ (w : List ℕ). bytes ++ w) split ∙ sym (append_assoc bytes b rest)) in
          let sum = length-append bytes b in
          let one = brings.some in
          let fit = brings.most in
          subst (λ (f : Found). Holds len (was_read block bytes f (λ more. read_on block most more)) now whole_block)
          (sym brings.found_is)
          (after_bytes most bytes b rest now next brings.now_is all one (omega (arith, sum, fit, short))
          (λ lt. subst (λ (m : FilesAt). Holds len (read_on block most (bytes ++ b)) m whole_block) (sym brings.now_is)
          (reads (bytes ++ b) rest next of way (omega (arith, at, sum)) all lt (omega (arith, enough, sum, one)))))

-- ---- a block of an open file

-- this was found, and nothing is open
pub record Finds (tree : FileTree) (value found : Found) (now : FilesAt) : Type 0 where
  pub is : found ≡ value
  pub now_is : now ≡ at_rest tree

pub reads_at : (len block n : ℕ) (tree : FileTree) (s : OpenFilePlace) → s.readable ≡ true → 1 ≤ block
    → n * block + block < 2 ^ 64
    → Holds len (read_at block n) (files_with_open tree s) (Finds tree
    (Ok (take block (drop (n * block) (bytes_of tree s.file)))))
reads_at len block n tree s way some far =
    holds_after len (seek_call (n * block)) (λ sought. read_on block block [] >>= closes) (files_with_open tree s) post
    (refl, tt)
    (λ found now did. subst (λ (m : FilesAt). Holds len (read_on block block [] >>= closes) m post) (sym did)
    (holds_bind len (read_on block block []) closes (files_with_open tree sought) (HasRead tree bytes) post
    (reads_on len block (n * block) tree s.file block [] (drop (n * block) (bytes_of tree s.file)) sought refl way
    (omega arith) refl
    (omega (arith, some)) (omega arith) far)
    (λ read now h. subst (λ (m : FilesAt). Holds len (closes read) m post) (sym h.now_is)
    (holds_after len close_file_call (λ closed. pure read) (files_with_open tree h.slot) post (refl, tt)
    (λ closed now did. holds_pure len read now post (record { is = h.value; now_is = did }))))))
  where
    bytes : List ℕ
    bytes = take block (drop (n * block) (bytes_of tree s.file))

    post : Post Found
    post found now = Finds tree (Ok bytes) found now

    sought : OpenFilePlace
    sought = record s { offset = n * block }

    closes : Found → Doing Found
    closes found = makes close_file_call >>= λ closed. pure found

-- ---- a block of a name

-- what a name has in a block, or the refusal of the OPEN
abbrev pub block_found : FileTree → ℕ → ℕ → Option Node → Found
block_found tree block n None = Err 2
block_found tree block n (Some node.Directory) = Err 4
block_found tree block n (Some (node.File file)) = Ok (take block (drop (n * block) (bytes_of tree file)))

pub handles_apart : (tree : FileTree) (h : List ℕ) (o : Opened) (name : Name) → node_at (with_handle tree h o) name
    ≡ node_at tree name
handles_apart tree h o [] = refl
handles_apart tree h o (part ∷ parts) = refl

pub fetches : (len block n : ℕ) (tree : FileTree) (path : List ℕ) → 1 ≤ block → n * block + block < 2 ^ 64
    → passes_length path ≡ false
    → Holds len (fetched_block block path n) (at_rest tree) (Finds tree
    (block_found tree block n (node_at tree (components path))))
fetches len block n tree path some far fits =
    holds_after len (open_call reads_only path) (λ opened. unless_refused opened (λ code. Err code) (read_at block n))
    (at_rest tree) post
    (refl, refl, refl, fits) (λ opened now did. by_node (node_at tree (components path)) refl opened now did)
  where
    name : Name
    name = components path

    post : Post Found
    post found now = Finds tree (block_found tree block n (node_at tree name)) found now

    refused : (code : ℕ) (opened : Found) (now : FilesAt) → block_found tree block n (node_at tree name) ≡ Err code
        → opened ≡ Err code → now ≡ at_rest tree
        → Holds len (unless_refused opened (λ code. Err code) (read_at block n)) now post
    refused code opened now is e at =
        subst (λ (f : Found). Holds len (unless_refused f (λ code. Err code) (read_at block n)) now post) (sym e)
        (holds_pure len (Err code) now post (record { is = sym is; now_is = at }))

    by_node : (x : Option Node) → node_at tree name ≡ x → (opened : Found) (now : FilesAt)
        → OpensBy 1 name (at_rest tree) (after_open (bare tree) [] 1 name x) opened now
        → Holds len (unless_refused opened (λ code. Err code) (read_at block n)) now post
    by_node None is opened now (e, at) = refused 2 opened now (ap (block_found tree block n) is) e at
    by_node (Some node.Directory) is opened now (e, at) = refused 4 opened now (ap (block_found tree block n) is) e at
    by_node (Some (node.File file)) is opened now (e, at) =
        let there = handles_apart (bare tree) [] (held_by 1 file) name ∙ (bare_node name ∙ is) in
        let stands : now ≡ files_with_open tree (at_start 1 file) =
        subst (λ (x : Option Node). OpensNode 1 (bare tree) x now) there at in
        subst (λ (f : Found). Holds len (unless_refused f (λ code. Err code) (read_at block n)) now post) (sym e)
        (subst (λ (m : FilesAt). Holds len (read_at block n) m post) (sym stands)
        (subst (λ (v : Found). Holds len (read_at block n) (files_with_open tree (at_start 1 file))
        (λ found now. Finds tree v found now))
        (sym (ap (block_found tree block n) is)) (reads_at len block n tree (at_start 1 file) refl some far)))
      where
        bare_node : (name : Name) → node_at (bare tree) name ≡ node_at tree name
        bare_node [] = refl
        bare_node (part ∷ parts) = refl
