-- A get is answered the bytes of its file, or the refusal of its OPEN.
use Rattle.std.proofs.Common.{◌≡◌, ◌≤◌, ◌<◌, ◌+◌, ◌-◌, ◌*◌, ◌/◌, ◌^◌, ℕ, false, List, [], take, drop, Option, Some, None, Err, refl, ap, sym, ◌∙◌, subst, arith}
use Rattle.std.proofs.Math.Nat.{div-mul-le_self, lt-div-mul-add}
use Rattle.std.proofs.lemmas.List.{drop-drop}
use Rattle.machine_model.specs.Components.{components}
use Rattle.machine_model.specs.FileTree.{FileTree, bytes_of, node_at}
use Rattle.machine_model.specs.declared.node.Node.{Node}
use Rattle.machine_model.specs.declared.node.Node.TheVariants as node
use Rattle.view_model.proofs.CountLaws.{blocks_fit, first_before_last}
use Rattle.view_model.specs.Blocks.{Kept, block_count, first_block}
use Rattle.view_model.specs.Kept.{Keys, keys_got}
use Rattle.view_model.specs.Plain.{bytes_from}
use Rattle.view_model.specs.Viewed.{Answered, Found, answered_with, gather_blocks, get_by, got_of, pure}
use Rattle.view_model.specs.ViewOps.{passes_length}
use Rattle.view_model.specs.declared.answer.Answer.{Answer}
use Rattle.view_model.specs.declared.answer.Answer.TheVariants as answer
use Rattle.view_laws.specs.FileCalls.{FilesAt, at_rest}
use Rattle.view_laws.proofs.Bytes.{part_of}
use Rattle.view_laws.proofs.DoingLaws.{Holds, holds_bind, holds_pure}
use Rattle.view_laws.proofs.Gathering.{HasGathered, KeepsBlocks, gathers, refuses_all}
use Rattle.view_laws.proofs.KeptBlocks.{Each, IsBlock, without_bytes}

-- an operation is answered this, and leaves these files and keys
pub record IsAnswered (block : ℕ) (value : Answer) (tree : FileTree) (keys : Keys) (a : Answered) (now : FilesAt) : Type
    0 where
  pub answer_is : a.answer ≡ value
  pub keeps : KeepsBlocks block tree keys a.kept now

-- the blocks of a get hold all its bytes
blocks_hold : (block offset len : ℕ) → 1 ≤ block → 1 ≤ len
    → (offset - first_block block offset * block) + len ≤ block_count block offset len * block
blocks_hold block offset len some long =
    let f : ℕ = offset / block in
    let l : ℕ = (offset + len - 1) / block in
    let a : offset / block * block ≤ offset = div-mul-le_self offset block in
    let b : offset + len - 1 < (offset + len - 1) / block * block + block = lt-div-mul-add some in
    let order = first_before_last block offset len some long in
    let sum : offset / block + block_count block offset len ≡ (offset + len - 1) / block + 1 = omega (arith, order) in
    let left : (offset / block + block_count block offset len) * block
    ≡ offset / block * block + block_count block offset len * block = omega arith in
    let right : ((offset + len - 1) / block + 1) * block ≡ (offset + len - 1) / block * block + block = omega arith in
    let both : (offset / block + block_count block offset len) * block ≡ ((offset + len - 1) / block + 1) * block =
    ap (λ (k : ℕ). k * block) sum in
    omega (arith, a, b, left, right, both, long)

module _ (len block capacity : ℕ) (tree : FileTree) (path : List ℕ) (offset wanted : ℕ) (some : 1 ≤ block)
    (short : block ≤ 65536)
    (fits : passes_length path ≡ false) (long : 1 ≤ wanted) (most : wanted ≤ 1048576) (far : offset ≤ 1099511627776)
  where
    abbrev first : ℕ
    first = first_block block offset

    abbrev count : ℕ
    count = block_count block offset wanted

    abbrev skipped : ℕ
    skipped = offset - first * block

    -- the bytes of the blocks that were asked for are those of the file
    cut_of : (file : ℕ) → take wanted (drop skipped (take (count * block) (drop (first * block) (bytes_of tree file))))
        ≡ take wanted (drop offset (bytes_of tree file))
    cut_of file =
        let low : offset / block * block ≤ offset = div-mul-le_self offset block in
        let whole : first * block + skipped ≡ offset = omega (arith, low) in
        part_of skipped wanted (count * block) (drop (first * block) (bytes_of tree file))
        (blocks_hold block offset wanted some long)
        ∙ ap (take wanted) (drop-drop skipped (first * block) (bytes_of tree file)
        ∙ ap (λ (k : ℕ). drop k (bytes_of tree file)) whole)

    pub gets : (kept : Kept (List ℕ)) → Each (IsBlock tree block) kept.entries
        → Holds len (get_by block capacity path offset wanted kept) (at_rest tree)
        (IsAnswered block (bytes_from tree offset wanted (node_at tree (components path))) tree
        (keys_got tree block capacity (components path) first count (node_at tree (components path))
        (without_bytes kept)))
    gets kept h = by_node (node_at tree (components path)) refl
      where
        fit : (first_block block offset + block_count block offset wanted) * block < 2 ^ 64
        fit = blocks_fit block offset wanted some short long most far

        fit_one : first_block block offset * block + block < 2 ^ 64
        fit_one =
            let all = blocks_fit block offset wanted some short long most far in
            let order = first_before_last block offset wanted some long in
            let more : 1 ≤ block_count block offset wanted = omega arith in
            let spread : (first_block block offset + block_count block offset wanted) * block
            ≡ first_block block offset * block + block_count block offset wanted * block = omega arith in
            let one : block_count block offset wanted * block ≡ (block_count block offset wanted - 1) * block + block =
            (let is : block_count block offset wanted ≡ (block_count block offset wanted - 1) + 1 = omega (arith, more)
            in
            let wide : ((block_count block offset wanted - 1) + 1) * block
            ≡ (block_count block offset wanted - 1) * block + block = omega arith in
            ap (λ (k : ℕ). k * block) is ∙ wide) in
            omega (arith, all, spread, one)

        ends : (value : Found) (keys : Keys) (x : Answer) → got_of (offset - first_block block offset * block) wanted
            value ≡ x
            → Holds len (gather_blocks block capacity path (first_block block offset) (block_count block offset wanted)
            []
            kept) (at_rest tree)
            (HasGathered len block capacity tree path some fits value keys)
            → Holds len (get_by block capacity path offset wanted kept) (at_rest tree) (IsAnswered block x tree keys)
        ends value keys x is g =
            holds_bind len (gather_blocks block capacity path (first_block block offset)
            (block_count block offset wanted)
            [] kept)
            (λ g. pure (answered_with (got_of (offset - first_block block offset * block) wanted g.found) g.kept))
            (at_rest tree)
            (HasGathered len block capacity tree path some fits value keys) (IsAnswered block x tree keys) g
            (λ g now w. holds_pure len (answered_with (got_of (offset - first_block block offset * block) wanted
            g.found)
            g.kept) now (IsAnswered block x tree keys)
            (record {
              answer_is = ap (got_of (offset - first_block block offset * block) wanted) w.found_is ∙ is;
              keeps =
                  w.keeps;
            }))

        by_node : (x : Option Node) → node_at tree (components path) ≡ x
            → Holds len (get_by block capacity path offset wanted kept) (at_rest tree)
            (IsAnswered block (bytes_from tree offset wanted (node_at tree (components path))) tree
            (keys_got tree block capacity (components path) (first_block block offset) (block_count block offset wanted)
            (node_at tree (components path)) (without_bytes kept)))
        by_node None is =
            subst (λ (x : Option Node). Holds len (get_by block capacity path offset wanted kept) (at_rest tree)
            (IsAnswered block (bytes_from tree offset wanted x) tree
            (keys_got tree block capacity (components path) (first_block block offset) (block_count block offset wanted)
            x
            (without_bytes kept)))) (sym is)
            (ends (Err 2) _ (answer.Refused 2) refl
            (refuses_all len block capacity tree path some fits 2 (first_block block offset)
            (block_count block offset wanted) kept None (omega arith) is refl refl fit_one h))
        by_node (Some node.Directory) is =
            subst (λ (x : Option Node). Holds len (get_by block capacity path offset wanted kept) (at_rest tree)
            (IsAnswered block (bytes_from tree offset wanted x) tree
            (keys_got tree block capacity (components path) (first_block block offset) (block_count block offset wanted)
            x
            (without_bytes kept)))) (sym is)
            (ends (Err 4) _ (answer.Refused 4) refl
            (refuses_all len block capacity tree path some fits 4 (first_block block offset)
            (block_count block offset wanted) kept (Some node.Directory) (omega arith) is refl refl fit_one h))
        by_node (Some (node.File file)) is =
            subst (λ (x : Option Node). Holds len (get_by block capacity path offset wanted kept) (at_rest tree)
            (IsAnswered block (bytes_from tree offset wanted x) tree
            (keys_got tree block capacity (components path) (first_block block offset) (block_count block offset wanted)
            x
            (without_bytes kept)))) (sym is)
            (ends _ _ (answer.Got (take wanted (drop offset (bytes_of tree file))))
            (ap (λ (w : List ℕ). answer.Got w) (cut_of file))
            (gathers len block capacity tree path some fits file is (block_count block offset wanted)
            (first_block block offset) fit [] kept h))
