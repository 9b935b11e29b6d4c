-- What a put leaves of the files: names apart from its own keep what they had.
use Rattle.std.proofs.Common.{
  ◌≡◌,
  ◌≢◌,
  ◌<◌,
  ◌+◌,
  ◌*◌,
  ℕ,
  Bool,
  true,
  false,
  not,
  List,
  [],
  ◌∷◌,
  ◌++◌,
  length,
  take,
  drop,
  Option,
  Some,
  None,
  Ok,
  if◌then◌else◌,
  refl,
  ap,
  sym,
  ◌∙◌,
  subst,
  arith,
  inl,
  inr,
}
use Rattle.std.specs.Prelude.{◌⊎◌, max}
use Rattle.std.proofs.lemmas.List.{get_or-set_other, get_or_append_left, length-append, length-set}
use Rattle.sftp_model.specs.Numbers.{SSH_FX_FAILURE, SSH_FX_NO_SUCH_FILE}
use Rattle.machine_model.proofs.LossLaws.{name_has}
use Rattle.machine_model.proofs.NameLaws.{names_tell}
use Rattle.machine_model.proofs.PairLaws.{found_push_here, found_push_other, has_push}
use Rattle.machine_model.specs.Changes.{IsWellFormed}
use Rattle.machine_model.specs.Components.{Name, components, is_long_name, parent_of, same_name}
use Rattle.machine_model.specs.FileTree.{FileTree, bytes_of, is_directory, is_over, node_at, written_at, size_of, with_bytes, with_file, with_handle}
use Rattle.machine_model.specs.HandleRequests.{Answer, after_open, grant_answer, held_by, refusal_answer}
use Rattle.machine_model.specs.Pairs.{HasEntry}
use Rattle.machine_model.specs.declared.node.Node.{Node}
use Rattle.machine_model.specs.declared.node.Node.TheVariants as node
use Rattle.machine_model.specs.declared.opened.Opened.{Opened}
use Rattle.machine_model.specs.declared.opened.Opened.TheVariants as opened
use Rattle.view_model.specs.Plain.{Given, put_node, put_opened, put_pieces, to_put}
use Rattle.view_model.specs.Viewed.{put_of}
use Rattle.view_model.specs.declared.answer.Answer.TheVariants as answer
use Rattle.view_laws.specs.FileCalls.{bare, found_by}
use Rattle.view_laws.proofs.BlockReads.{block_found}
use Rattle.view_laws.proofs.KeptBlocks.{Entry, IsBlock}

-- ---- pieces that are written

-- the names stay, and of the files all but one
pub record SameBut (file : ℕ) (tree now : FileTree) : Type 0 where
  pub names : now.names ≡ tree.names
  pub handles : now.handles ≡ tree.handles
  pub count : length now.files ≡ length tree.files
  pub others : (other : ℕ) → other ≢ file → bytes_of now other ≡ bytes_of tree other

same_all : (file : ℕ) (tree : FileTree) → SameBut file tree tree
same_all file tree = record { names = refl; handles = refl; count = refl; others = λ other ne. refl }

same_two : (file : ℕ) (a b c : FileTree) → SameBut file a b → SameBut file b c → SameBut file a c
same_two file a b c x y = record {
  names = y.names ∙ x.names;
  handles = y.handles ∙ x.handles;
  count = y.count ∙ x.count;
  others = λ other ne. y.others other ne ∙ x.others other ne;
}

same_written : (file : ℕ) (tree : FileTree) (bytes : List ℕ) → SameBut file tree (with_bytes tree file bytes)
same_written file tree bytes = record {
  names = refl;
  handles = refl;
  count = length-set tree.files file bytes;
  others = λ other ne. get_or-set_other tree.files file other bytes [] ne;
}

pub pieces_leave : (file offset : ℕ) (tree : FileTree) (parts : List (List ℕ))
    → SameBut file tree (put_pieces tree file offset parts).1
pieces_leave file offset tree [] = same_all file tree
pieces_leave file offset tree (piece ∷ more) =
    by_test (is_over tree file (max (size_of tree file) (offset + length piece)))
    (pieces_leave file (offset + length piece) (with_bytes tree file (written_at (bytes_of tree file) offset piece))
    more)
  where
    next : FileTree
    next = with_bytes tree file (written_at (bytes_of tree file) offset piece)

    by_test : (b : Bool) → SameBut file (with_bytes tree file (written_at (bytes_of tree file) offset piece))
        (put_pieces (with_bytes tree file (written_at (bytes_of tree file) offset piece)) file (offset + length piece)
        more).1
        → SameBut file tree (let g : Given = if b then (answer.Refused SSH_FX_FAILURE, tree) else
        put_pieces (with_bytes tree file (written_at (bytes_of tree file) offset piece)) file (offset + length piece)
        more in g).1
    by_test true rest = same_all file tree
    by_test false rest = same_two file tree (with_bytes tree file (written_at (bytes_of tree file) offset piece)) _
        (same_written file tree (written_at (bytes_of tree file) offset piece)) rest

-- the answer is what its status tells
pub pieces_told : (file offset : ℕ) (tree : FileTree) (parts : List (List ℕ))
    → put_of (found_by (put_pieces tree file offset parts).0) ≡ (put_pieces tree file offset parts).0
pieces_told file offset tree [] = refl
pieces_told file offset tree (piece ∷ more) =
    by_test (is_over tree file (max (size_of tree file) (offset + length piece)))
    (pieces_told file (offset + length piece) (with_bytes tree file (written_at (bytes_of tree file) offset piece))
    more)
  where
    by_test : (b : Bool) → put_of (found_by (put_pieces (with_bytes tree file
        (written_at (bytes_of tree file) offset piece)) file (offset + length piece) more).0)
        ≡ (put_pieces (with_bytes tree file (written_at (bytes_of tree file) offset piece)) file (offset + length piece)
        more).0
        → put_of (found_by (let g : Given = if b then (answer.Refused SSH_FX_FAILURE, tree) else
        put_pieces (with_bytes tree file (written_at (bytes_of tree file) offset piece)) file (offset + length piece)
        more in g).0)
        ≡ (let g : Given = if b then (answer.Refused SSH_FX_FAILURE, tree) else
        put_pieces (with_bytes tree file (written_at (bytes_of tree file) offset piece)) file (offset + length piece)
        more in g).0
    by_test true rest = refl
    by_test false rest = rest

-- ---- names apart

-- a name has what it had, and its file the bytes that it had
pub record KeepsName (tree now : FileTree) (other : Name) : Type 0 where
  pub node_is : node_at now other ≡ node_at tree other
  pub bytes_are : (file : ℕ) → node_at tree other ≡ Some (node.File file) → bytes_of now file ≡ bytes_of tree file

-- all names but one do
abbrev pub KeepsOthers : Name → FileTree → FileTree → Type 0
KeepsOthers name tree now = (other : Name) → same_name name other ≡ false → KeepsName tree now other

keeps_two : (name : Name) (a b c : FileTree) → KeepsOthers name a b → KeepsOthers name b c → KeepsOthers name a c
keeps_two name a b c x y other apart =
    let first = x other apart in
    let second = y other apart in
    record {
      node_is = second.node_is ∙ first.node_is;
      bytes_are = λ file is. second.bytes_are file (first.node_is ∙ is) ∙ first.bytes_are file is;
    }

pub by_names : (tree now : FileTree) (name : Name) → now.names ≡ tree.names → node_at now name ≡ node_at tree name
by_names tree now [] e = refl
by_names tree now (part ∷ parts) e = λ i. node_at (record now { names = e i }) (part ∷ parts)

-- blocks of other names stay blocks
pub blocks_keep : (block : ℕ) (name : Name) (tree now : FileTree) → KeepsOthers name tree now
    → (e : Entry) → same_name name e.0.name ≡ false → IsBlock tree block e → IsBlock now block e
blocks_keep block name tree now keeps e apart is =
    let k = keeps e.0.name apart in
    ap (block_found now block e.0.block) k.node_is ∙ by_node (node_at tree e.0.name) k.bytes_are is
  where
    by_node : (x : Option Node) → ((file : ℕ) → x ≡ Some (node.File file) → bytes_of now file ≡ bytes_of tree file)
        → block_found tree block e.0.block x ≡ Ok e.1 → block_found now block e.0.block x ≡ Ok e.1
    by_node None f is = absurd cc
    by_node (Some node.Directory) f is = absurd cc
    by_node (Some (node.File file)) f is = block_as now file (f file refl) ∙ is
      where
        block_as : (now : FileTree) (file : ℕ) → bytes_of now file ≡ bytes_of tree file
            → block_found now block e.0.block (Some (node.File file))
            ≡ block_found tree block e.0.block (Some (node.File file))
        block_as now file same = ap (λ (w : List ℕ). Ok (take block (drop (e.0.block * block) w))) same

-- the file of a name is written: others have other files
keeps_written : (name : Name) (file : ℕ) (tree now : FileTree) → IsWellFormed tree → node_at tree name
    ≡ Some (node.File file)
    → SameBut file tree now → KeepsOthers name tree now
keeps_written name file tree now well is same other apart = record {
  node_is = by_names tree now other same.names;
  bytes_are = λ f there. same.others f (λ e. not_named (well.alone name other file (name_has tree name file is)
      (subst (λ (k : ℕ). HasEntry tree.names (other, node.File k)) e (name_has tree other f there))));
}
  where
    not_named : name ≡ other → ⊥
    not_named e = (let told : same_name name other ≡ true = (names_tell name other).1 e in let both : true ≡ false =
        sym told ∙ apart in cc)

well_written : (file : ℕ) (tree now : FileTree) → IsWellFormed tree → SameBut file tree now → IsWellFormed now
well_written file tree now well same = record {
  named = λ name f has. subst (λ (n : ℕ). f < n) (sym same.count)
      (well.named name f (subst (λ (w : List (Name × Node)). HasEntry w (name, node.File f)) same.names has));
  held = λ h held has. subst (λ (n : ℕ). held.file < n) (sym same.count)
      (well.held h held (subst (λ (w : List (List ℕ × Opened)). HasEntry w (h, opened.File held)) same.handles has));
  alone = λ a b f x y. well.alone a b f (subst (λ (w : List (Name × Node)). HasEntry w (a, node.File f)) same.names x)
      (subst (λ (w : List (Name × Node)). HasEntry w (b, node.File f)) same.names y);
}

pub well_bare : (tree : FileTree) → IsWellFormed tree → IsWellFormed (bare tree)
well_bare tree well = record { named = well.named; held = λ h held has. absurd has; alone = well.alone }

-- ---- the OPEN

pub bare_node : (tree : FileTree) (name : Name) → node_at (bare tree) name ≡ node_at tree name
bare_node tree name = by_names tree (bare tree) name refl

-- what the OPEN of a put answers and leaves
abbrev pub to_write : FileTree → Name → Option Node → Answer
to_write tree name x = after_open (bare tree) [] to_put name x

pub made_here : (tree : FileTree) (name : Name) → node_at tree name ≡ None → node_at (with_file tree name) name
    ≡ Some (node.File (length tree.files))
made_here tree [] e = absurd cc
made_here tree (part ∷ parts) e = found_push_here same_name tree.names (part ∷ parts)
    (node.File (length tree.files)) ((names_tell (part ∷ parts) (part ∷ parts)).1 refl) e

made_other : (tree : FileTree) (name other : Name) → same_name name other ≡ false → node_at (with_file tree name) other
    ≡ node_at tree other
made_other tree name [] apart = refl
made_other tree name (part ∷ parts) apart = found_push_other same_name tree.names name (part ∷ parts)
    (node.File (length tree.files)) apart

keeps_made : (name : Name) (tree : FileTree) → IsWellFormed tree → KeepsOthers name tree (bare (with_file tree name))
keeps_made name tree well other apart = record {
  node_is = bare_node (with_file tree name) other ∙ made_other tree name other apart;
  bytes_are = λ file is. get_or_append_left tree.files ([] ∷ []) [] file
      (well.named other file (name_has tree other file is));
}

keeps_self : (name : Name) (tree : FileTree) → KeepsOthers name tree (bare tree)
keeps_self name tree other apart = record { node_is = bare_node tree other; bytes_are = λ file is. refl }

abbrev file_in : Node → ℕ
file_in node.Directory = 0
file_in (node.File file) = file

-- a further file is one of the name alone
well_made : (name : Name) (tree : FileTree) → IsWellFormed tree → IsWellFormed (with_file tree name)
well_made name tree well = record {
  named = λ other file has.
      elim (has_push tree.names (name, node.File (length tree.files)) (other, node.File file) has) [
        | inl old ↦ let lt = well.named other file old in omega (arith, lt, one_longer)
        | inr new ↦ let same : length tree.files ≡ file = ap (λ (p : Name × Node). file_in p.1) new in
            omega (arith, same, one_longer)
      ];
  held = λ h held has. let lt = well.held h held has in omega (arith, lt, one_longer);
  alone = λ a b file x y. both a b file (has_push tree.names (name, node.File (length tree.files)) (a, node.File file)
      x)
      (has_push tree.names (name, node.File (length tree.files)) (b, node.File file) y);
}
  where
    one_longer : length (tree.files ++ [] ∷ []) ≡ length tree.files + 1
    one_longer = length-append tree.files ([] ∷ [])

    both : (a b : Name) (file : ℕ) → HasEntry tree.names (a, node.File file)
        ⊎ ((let p : Name × Node = (name, node.File (length tree.files)) in p) ≡ (a, node.File file))
        → HasEntry tree.names (b, node.File file) ⊎ ((let p : Name × Node = (name, node.File (length tree.files)) in p)
        ≡ (b, node.File file)) → a ≡ b
    both a b file (inl x) (inl y) = well.alone a b file x y
    both a b file (inl x) (inr y) = absurd (let lt = well.named a file x in let same : length tree.files ≡ file =
        ap (λ (p : Name × Node). file_in p.1) y in omega (arith, lt, same))
    both a b file (inr x) (inl y) = absurd (let lt = well.named b file y in let same : length tree.files ≡ file =
        ap (λ (p : Name × Node). file_in p.1) x in omega (arith, lt, same))
    both a b file (inr x) (inr y) = sym (ap (λ (p : Name × Node). p.0) x) ∙ ap (λ (p : Name × Node). p.0) y

-- ---- a put

-- what a put leaves is a tree, where other names have what they had
pub record LeavesOthers (name : Name) (tree now : FileTree) : Type 0 where
  pub well : IsWellFormed now
  pub bare_is : bare now ≡ now
  pub keeps : KeepsOthers name tree now

leaves_all : (name : Name) (tree : FileTree) → IsWellFormed tree → LeavesOthers name tree (bare tree)
leaves_all name tree well = record { well = well_bare tree well; bare_is = refl; keeps = keeps_self name tree }

leaves_written : (name : Name) (file offset : ℕ) (tree mid : FileTree) (parts : List (List ℕ)) → IsWellFormed mid
    → KeepsOthers name tree (bare mid)
    → node_at (bare mid) name ≡ Some (node.File file) → LeavesOthers name tree
    (put_pieces (bare mid) file offset parts).1
leaves_written name file offset tree mid parts well keeps is =
    let same = pieces_leave file offset (bare mid) parts in
    let now : FileTree = (put_pieces (bare mid) file offset parts).1 in
    let fine = well_bare mid well in
    record {
      well = well_written file (bare mid) now fine same;
      bare_is = λ i. record now { handles = sym same.handles i };
      keeps = keeps_two name tree (bare mid) now keeps (keeps_written name file (bare mid) now fine is same);
    }

pub put_leaves : (path : List ℕ) (offset : ℕ) (tree : FileTree) (parts : List (List ℕ)) → IsWellFormed tree
    → LeavesOthers (components path) tree
    (put_opened (bare tree) (components path) offset parts (to_write tree (components path)
    (node_at (bare tree) (components path)))).1
put_leaves path offset tree parts well = by_node (node_at (bare tree) (components path)) refl
  where
    name : Name
    name = components path

    by_tests : (a b : Bool) → node_at (bare tree) (components path) ≡ None
        → LeavesOthers (components path) tree (put_opened (bare tree) (components path) offset parts
        (if a then refusal_answer (bare tree) SSH_FX_NO_SUCH_FILE else if b then
        refusal_answer (bare tree) SSH_FX_FAILURE else
        grant_answer (with_file (bare tree) (components path)) [] (held_by to_put (length tree.files)))).1
    by_tests true b none = leaves_all (components path) tree well
    by_tests false true none = leaves_all (components path) tree well
    by_tests false false none =
        let made : FileTree = with_file (bare tree) (components path) in
        let fresh : node_at (bare tree) (components path) ≡ None = none in
        let here : node_at (bare made) (components path) ≡ Some (node.File (length tree.files)) =
        bare_node made (components path) ∙ made_here (bare tree) (components path) fresh in
        let there : node_at (with_handle made [] (held_by to_put (length tree.files))) (components path)
        ≡ Some (node.File (length tree.files)) =
        by_names made (with_handle made [] (held_by to_put (length tree.files))) (components path) refl
        ∙ made_here (bare tree) (components path) fresh in
        subst (λ (x : Option Node). LeavesOthers (components path) tree (put_node (bare made) offset parts x).1)
        (sym there)
        (leaves_written (components path) (length tree.files) offset tree made parts
        (well_made (components path) (bare tree) (well_bare tree well))
        (keeps_two (components path) tree (bare tree) (bare made) (keeps_self (components path) tree)
        (keeps_made (components path) (bare tree) (well_bare tree well))) here)

    by_node : (x : Option Node) → node_at (bare tree) (components path) ≡ x
        → LeavesOthers (components path) tree (put_opened (bare tree) (components path) offset parts
        (to_write tree (components path) x)).1
    by_node (Some node.Directory) is = leaves_all (components path) tree well
    by_node (Some (node.File file)) is =
        let there : node_at (with_handle (bare tree) [] (held_by to_put file)) (components path)
        ≡ Some (node.File file) =
        by_names (bare tree) (with_handle (bare tree) [] (held_by to_put file)) (components path) refl ∙ is in
        subst (λ (x : Option Node). LeavesOthers (components path) tree (put_node (bare tree) offset parts x).1)
        (sym there)
        (leaves_written (components path) file offset tree tree parts well (keeps_self (components path) tree) is)
    by_node None is = by_tests (not (is_directory (node_at (bare tree) (parent_of (components path)))))
        (is_long_name (components path)) is
