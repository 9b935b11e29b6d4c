-- Operations are answered what the files alone give, leave what the files alone leave, and keep the keys that the files
-- alone say.
use Rattle.std.proofs.Common.{◌≡◌, ◌≤◌, ◌<◌, ◌+◌, ◌==◌, ◌^◌, ℕ, Bool, true, false, List, [], ◌∷◌, ◌++◌, length, if◌then◌else◌, refl, sym, ◌∙◌, subst, arith}
use Rattle.std.specs.Prelude.{nat_le}
use Rattle.std.specs.List.{list_all}
use Rattle.std.proofs.lemmas.Bool.{and_parts}
use Rattle.std.proofs.lemmas.Bool.Decides.{nat_tests}
use Rattle.std.proofs.lemmas.List.{append-nil, append_assoc}
use Rattle.machine_model.specs.Changes.{IsWellFormed}
use Rattle.machine_model.specs.Components.{components}
use Rattle.machine_model.specs.FileTree.{FileTree, node_at}
use Rattle.view_model.specs.Blocks.{Kept, block_count, without_blocks_of, first_block}
use Rattle.view_model.specs.Kept.{Keys, kept_from, kept_op, keys_got}
use Rattle.view_model.specs.Plain.{Given, bytes_from, plain, plain_op}
use Rattle.view_model.specs.Viewed.{Answered, Viewed, answered_with, get_by, op_by, pure, put_by, viewed_from}
use Rattle.view_model.specs.ViewOps.{is_within, passes_length}
use Rattle.view_model.specs.declared.answer.Answer.{Answer}
use Rattle.view_model.specs.declared.answer.Answer.TheVariants as answer
use Rattle.view_model.specs.declared.op.ViewOp.{ViewOp}
use Rattle.view_model.specs.declared.op.ViewOp.TheVariants as op
use Rattle.view_laws.specs.FileCalls.{FilesAt, at_rest, bare}
use Rattle.view_laws.proofs.DoingLaws.{Holds, holds_as, holds_bind, holds_pure}
use Rattle.view_laws.proofs.GetLaws.{IsAnswered, gets}
use Rattle.view_laws.proofs.KeptBlocks.{Each, IsBlock, without_bytes}
use Rattle.view_laws.proofs.PutLaws.{given_by, pieces_of, puts}
use Rattle.view_laws.proofs.PutTrees.{put_leaves, well_bare}

-- ---- one operation

-- an operation is answered what the files alone give
abbrev IsPlainOp : (len block capacity : ℕ) (tree : FileTree) (o : ViewOp) (kept : Kept (List ℕ)) → Answered → FilesAt
    → Type 0
IsPlainOp len block capacity tree o kept a now =
    IsAnswered block (plain_op len o (bare tree)).0 (plain_op len o (bare tree)).1
    (kept_op block capacity o (bare tree) (without_bytes kept)) a now

at_most : (n m : ℕ) → nat_le n m ≡ true → n ≤ m
at_most n m e = grind (arith, nat_tests)

module _ (len block capacity : ℕ) (some : 1 ≤ block) (short : block ≤ 65536) where
  -- an operation without a call
  nothing_done : (tree : FileTree) (a : Answer) (kept : Kept (List ℕ)) → Each (IsBlock (bare tree) block) kept.entries
      → Holds len (pure (answered_with a kept)) (at_rest tree) (IsAnswered block a (bare tree) (without_bytes kept))
  nothing_done tree a kept h =
      holds_pure len (answered_with a kept) (at_rest tree) (IsAnswered block a (bare tree) (without_bytes kept))
      (record { answer_is = refl; keeps = record { now_is = refl; blocks = h; keys_are = refl } })

  op_holds : (tree : FileTree) (o : ViewOp) (kept : Kept (List ℕ)) → is_within o ≡ true → IsWellFormed tree
      → Each (IsBlock (bare tree) block) kept.entries
      → Holds len (op_by block capacity o kept) (at_rest tree) (IsPlainOp len block capacity tree o kept)
  op_holds tree (op.Get path offset wanted) kept within well h = by_tests (wanted == 0) (passes_length path) refl refl
    where
      ranges : (nat_le offset 1099511627776 ≡ true) × (nat_le wanted 1048576 ≡ true)
      ranges = and_parts (nat_le offset 1099511627776) (nat_le wanted 1048576) within

      by_tests : (x y : Bool) → wanted == 0 ≡ x → passes_length path ≡ y
          → Holds len (if x then pure (answered_with (answer.Got []) kept) else if y then
          pure (answered_with answer.TooLong kept) else get_by block capacity path offset wanted kept)
          (at_rest tree) (IsAnswered block
          (let g : Given = if x then (answer.Got [], bare tree) else if y then (answer.TooLong, bare tree) else
          (bytes_from (bare tree) offset wanted (node_at (bare tree) (components path)), bare tree) in g).0
          (let g : Given = if x then (answer.Got [], bare tree) else if y then (answer.TooLong, bare tree) else
          (bytes_from (bare tree) offset wanted (node_at (bare tree) (components path)), bare tree) in g).1
          (if x then without_bytes kept else if y then without_bytes kept else
          keys_got (bare tree) block capacity (components path) (first_block block offset)
          (block_count block offset wanted)
          (node_at (bare tree) (components path)) (without_bytes kept)))
      by_tests true y e f = nothing_done tree (answer.Got []) kept h
      by_tests false true e f = nothing_done tree answer.TooLong kept h
      by_tests false false e f =
          gets len block capacity (bare tree) path offset wanted some short f
          (let long : 1 ≤ wanted = grind (arith, nat_tests) in long)
          (at_most wanted 1048576 ranges.1) (at_most offset 1099511627776 ranges.0) kept h
  op_holds tree (op.Put path offset content) kept within well h = by_test (passes_length path) refl
    where
      fits : offset + length content < 2 ^ 64
      fits = let le = at_most (offset + length content) 16777216 within in omega (arith, le)

      by_test : (y : Bool) → passes_length path ≡ y
          → Holds len (if y then pure (answered_with answer.TooLong kept) else put_by path offset content kept)
          (at_rest tree) (IsAnswered block
          (let g : Given = if y then (answer.TooLong, bare tree) else given_by len offset content tree path in g).0
          (let g : Given = if y then (answer.TooLong, bare tree) else given_by len offset content tree path in g).1
          (if y then without_bytes kept else without_blocks_of (components path) (without_bytes kept)))
      by_test true f = nothing_done tree answer.TooLong kept h
      by_test false f = puts len offset content fits block (bare tree) path kept f (well_bare tree well) h

  -- ---- operations

  -- all were answered so, and left so
  pub record ArePlain (answers : List Answer) (tree : FileTree) (keys : Keys) (v : Viewed) (now : FilesAt) : Type 0
    where
      pub answers_are : v.answers ≡ answers
      pub now_is : now ≡ at_rest tree
      pub keys_are : without_bytes v.kept ≡ keys

  -- what an operation leaves is a tree again
  op_leaves : (o : ViewOp) (tree : FileTree) → IsWellFormed tree
      → IsWellFormed (plain_op len o (bare tree)).1 × (bare (plain_op len o (bare tree)).1
      ≡ (plain_op len o (bare tree)).1)
  op_leaves (op.Get path offset wanted) tree well = by_tests (wanted == 0) (passes_length path)
    where
      by_tests : (x y : Bool)
          → IsWellFormed (let g : Given = if x then (answer.Got [], bare tree) else if y then
          (answer.TooLong, bare tree) else (
            bytes_from (bare tree) offset wanted (node_at (bare tree) (components path)),
            bare tree,
          ) in g).1
          × (bare (let g : Given = if x then (answer.Got [], bare tree) else if y then (answer.TooLong, bare tree) else
          (bytes_from (bare tree) offset wanted (node_at (bare tree) (components path)), bare tree) in g).1
          ≡ (let g : Given = if x then (answer.Got [], bare tree) else if y then (answer.TooLong, bare tree) else
          (bytes_from (bare tree) offset wanted (node_at (bare tree) (components path)), bare tree) in g).1)
      by_tests true y = (well_bare tree well, refl)
      by_tests false true = (well_bare tree well, refl)
      by_tests false false = (well_bare tree well, refl)
  op_leaves (op.Put path offset content) tree well = by_test (passes_length path)
    where
      by_test : (y : Bool)
          → IsWellFormed (let g : Given = if y then (answer.TooLong, bare tree) else
          given_by len offset content tree path in g).1
          × (bare (let g : Given = if y then (answer.TooLong, bare tree) else given_by len offset content tree path in
          g).1
          ≡ (let g : Given = if y then (answer.TooLong, bare tree) else given_by len offset content tree path in g).1)
      by_test true = (well_bare tree well, refl)
      by_test false = (let l = put_leaves path offset tree (pieces_of len content) well in (l.well, l.bare_is))

  -- what operations leave has no handles
  pub plain_leaves : (ops : List ViewOp) (tree : FileTree) → IsWellFormed tree → bare (plain len ops (bare tree)).1
      ≡ (plain len ops (bare tree)).1
  plain_leaves [] tree well = refl
  plain_leaves (o ∷ ops) tree well =
      let leaves = op_leaves o tree well in
      subst (λ (t : FileTree). bare (plain len ops t).1 ≡ (plain len ops t).1) leaves.1
      (plain_leaves ops (plain_op len o (bare tree)).1 leaves.0)

  pub viewed_plainly : (ops : List ViewOp) (tree : FileTree) (answers : List Answer) (kept : Kept (List ℕ))
      → list_all is_within ops ≡ true
      → IsWellFormed tree → Each (IsBlock (bare tree) block) kept.entries
      → Holds len (viewed_from block capacity ops answers kept) (at_rest tree)
      (ArePlain (answers ++ (plain len ops (bare tree)).0) (plain len ops (bare tree)).1
      (kept_from block capacity len ops (bare tree) (without_bytes kept)))
  viewed_plainly [] tree answers kept within well h =
      holds_pure len (record { answers = answers; kept = kept }) (at_rest tree)
      (ArePlain (answers ++ []) (bare tree) (without_bytes kept))
      (record { answers_are = sym (append-nil answers); now_is = refl; keys_are = refl })
  viewed_plainly (o ∷ ops) tree answers kept within well h =
      let both = and_parts (is_within o) (list_all is_within ops) within in
      let leaves = op_leaves o tree well in
      holds_bind len (op_by block capacity o kept) (λ a. viewed_from block capacity ops (answers ++ a.answer ∷ [])
      a.kept) (at_rest tree)
      (IsPlainOp len block capacity tree o kept)
      (ArePlain (answers ++ (plain len (o ∷ ops) (bare tree)).0) (plain len (o ∷ ops) (bare tree)).1
      (kept_from block capacity len (o ∷ ops) (bare tree) (without_bytes kept)))
      (op_holds tree o kept both.0 well h)
      (λ a now w. after_op o ops tree (plain_op len o (bare tree)).1 answers kept a now leaves.1 w
      (viewed_plainly ops (plain_op len o (bare tree)).1 (answers ++ a.answer ∷ []) a.kept both.1 leaves.0
      (subst (λ (t : FileTree). Each (IsBlock t block) a.kept.entries) (sym leaves.1) w.keeps.blocks)))
    where
      after_op : (o : ViewOp) (ops : List ViewOp) (tree left : FileTree) (answers : List Answer) (kept : Kept (List ℕ))
          (a : Answered) (now : FilesAt)
          → bare (plain_op len o (bare tree)).1 ≡ (plain_op len o (bare tree)).1
          → IsPlainOp len block capacity tree o kept a now
          → Holds len (viewed_from block capacity ops (answers ++ a.answer ∷ []) a.kept)
          (at_rest (plain_op len o (bare tree)).1)
          (ArePlain ((answers ++ a.answer ∷ []) ++ (plain len ops (bare (plain_op len o (bare tree)).1)).0)
          (plain len ops (bare (plain_op len o (bare tree)).1)).1
          (kept_from block capacity len ops (bare (plain_op len o (bare tree)).1) (without_bytes a.kept)))
          → Holds len (viewed_from block capacity ops (answers ++ a.answer ∷ []) a.kept) now
          (ArePlain (answers ++ (plain len (o ∷ ops) (bare tree)).0) (plain len (o ∷ ops) (bare tree)).1
          (kept_from block capacity len (o ∷ ops) (bare tree) (without_bytes kept)))
      after_op o ops tree left answers kept a now same w rest =
          let t : FileTree = (plain_op len o (bare tree)).1 in
          subst (λ (m : FilesAt). Holds len (viewed_from block capacity ops (answers ++ a.answer ∷ []) a.kept) m
          (ArePlain (answers ++ (plain len (o ∷ ops) (bare tree)).0) (plain len (o ∷ ops) (bare tree)).1
          (kept_from block capacity len (o ∷ ops) (bare tree) (without_bytes kept)))) (sym w.keeps.now_is)
          (holds_as len (viewed_from block capacity ops (answers ++ a.answer ∷ []) a.kept) (at_rest t)
          (ArePlain ((answers ++ a.answer ∷ []) ++ (plain len ops (bare t)).0) (plain len ops (bare t)).1
          (kept_from block capacity len ops (bare t) (without_bytes a.kept)))
          (ArePlain (answers ++ (plain len (o ∷ ops) (bare tree)).0) (plain len (o ∷ ops) (bare tree)).1
          (kept_from block capacity len (o ∷ ops) (bare tree) (without_bytes kept)))
          (λ v m p. record {
            answers_are = p.answers_are ∙ ((λ i. (answers ++ w.answer_is i ∷ []) ++ (plain len ops (same i)).0)
                ∙ append_assoc answers ((plain_op len o (bare tree)).0 ∷ []) (plain len ops t).0);
            now_is = p.now_is ∙ (λ i. at_rest (plain len ops (same i)).1);
            keys_are = p.keys_are ∙ (λ i. kept_from block capacity len ops (same i) (w.keeps.keys_are i));
          }) rest)
