-- A tree whose replies fit a frame stays so, whatever is requested.
use Rattle.std.proofs.Common.{
  ◌≡◌,
  ℕ,
  zero,
  suc,
  ◌-◌,
  ◌<◌,
  ◌≤◌,
  Bool,
  true,
  false,
  List,
  [],
  ◌∷◌,
  ◌++◌,
  length,
  take,
  drop,
  Option,
  Some,
  None,
  if◌then◌else◌,
  get_or,
  refl,
  ap,
  sym,
  ◌∙◌,
  subst,
  arith,
  inl,
  inr,
}
use Rattle.std.specs.Prelude.{map, filter, set}
use Rattle.std.specs.Str.{bytes_eq}
use Rattle.std.proofs.lemmas.Bool.{cases_lt, ltb-false}
use Rattle.std.proofs.lemmas.Bool.Decides.{eqb_tells}
use Rattle.std.proofs.lemmas.List.{append-nil, take-append-drop, length-append, get_or-set_same, get_or-set_other, set_past, get_or-append_right}
use Rattle.sftp_model.specs.declared.reply.NameEntry.{NameEntry}
use Rattle.sftp_model.specs.declared.config.Choice.{Choice}
use Rattle.sftp_model.specs.declared.config.ServerConfig.{ServerConfig}
use Rattle.sftp_model.specs.declared.request.Request.{Request}
use Rattle.machine_model.specs.declared.node.Node.TheVariants as node
use Rattle.machine_model.specs.declared.opened.Opened.TheVariants as opened
use Rattle.machine_model.proofs.ChangeLaws.{apply_leaves}
use Rattle.machine_model.proofs.LossLaws.{name_has}
use Rattle.machine_model.proofs.NameLaws.{handles_tell}
use Rattle.machine_model.proofs.PairLaws.{found_has, has_moved, has_push, has_replaced, has_without}
use Rattle.machine_model.specs.Changes.{
  Change,
  ClosedDirectory,
  ClosedFile,
  Created,
  Granted,
  HasEntries,
  Listed,
  MadeDirectory,
  RemovedDirectory,
  RemovedFile,
  Renamed,
  Replaced,
  Rewritten,
  Truncated,
  Unchanged,
  WasChecked,
  tree_after_change,
}
use Rattle.machine_model.specs.Components.{Name, is_child, is_long_name, is_within, last_of, moved_name, same_name}
use Rattle.machine_model.specs.FileTree.{
  FileTree,
  after_loss,
  attributes_of,
  entries_of,
  is_file_in_use,
  opened_at,
  with_bytes,
  with_file,
  with_handle,
  with_renamed,
  without_handle,
  without_name,
}
use Rattle.machine_model.specs.FitTrees.{AreShort, IsFit, IsShort, IsTold}
use Rattle.machine_model.specs.Limits.{MAX_COMPONENT_LEN, MAX_FILE_LEN}
use Rattle.machine_model.specs.NameRequests.{entries_at, entry_of, in_order, is_before, insert_in_order, with_entries}
use Rattle.machine_model.specs.Pairs.{HasEntry}
use Rattle.machine_model.specs.TreeAnswers.{apply}
use Rattle.machine_model.specs.declared.node.Node.{Node}
use Rattle.machine_model.specs.declared.opened.Opened.{Opened}

pub take_short : (k : ℕ) (entries : List NameEntry) → AreShort entries → AreShort (take k entries)
take_short zero entries s = tt
take_short (suc k) [] s = tt
take_short (suc k) (e ∷ entries) s = (s.0, take_short k entries s.1)

drop_short : (k : ℕ) (entries : List NameEntry) → AreShort entries → AreShort (drop k entries)
drop_short zero entries s = s
drop_short (suc k) [] s = tt
drop_short (suc k) (e ∷ entries) s = drop_short k entries s.1

placed_short : (e : NameEntry) (entries : List NameEntry) → IsShort e → AreShort entries
    → AreShort (insert_in_order e entries)
placed_short e [] h s = (h, tt)
placed_short e (other ∷ entries) h s = by_test (is_before other.filename e.filename) (placed_short e entries h s.1)
  where
    by_test : (b : Bool) → AreShort (insert_in_order e entries)
        → AreShort (if b then other ∷ insert_in_order e entries else e ∷ other ∷ entries)
    by_test true more = (s.0, more)
    by_test false more = (h, s)

in_order_short : (entries : List NameEntry) → AreShort entries → AreShort (in_order entries)
in_order_short [] s = tt
in_order_short (e ∷ entries) s = placed_short e (in_order entries) s.0 (in_order_short entries s.1)

pub told : (tree : FileTree) (n : Node) → IsFit tree → IsTold (attributes_of tree n)
told tree node.Directory fit = (tt, refl, omega arith, refl)
told tree (node.File file) fit = (fit.sizes file, refl, tt, refl)

listed_short : (tree : FileTree) (test : Name × Node → Bool) (names : List (Name × Node)) → IsFit tree
    → ((pair : Name × Node) → HasEntry names pair → HasEntry tree.names pair)
    → AreShort (map (entry_of tree) (filter test names))
listed_short tree test [] fit all = tt
listed_short tree test (pair ∷ names) fit all = by_test (test pair)
    (listed_short tree test names fit (λ other h. all other (inr h)))
  where
    by_test : (b : Bool) → AreShort (map (entry_of tree) (filter test names))
        → AreShort (map (entry_of tree) (if b then pair ∷ filter test names else filter test names))
    by_test true more = ((fit.short pair.0 pair.1 (all pair (inl refl)), refl, told tree pair.1 fit), more)
    by_test false more = more

pub entries_short : (tree : FileTree) (name : Name) → IsFit tree → AreShort (entries_at tree name)
entries_short tree name fit = in_order_short _ (listed_short tree (λ pair. is_child name pair.0) tree.names fit
    (λ pair h. h))

-- ---- last components

last_append : (xs ys : Name) → 0 < length ys → last_of (xs ++ ys) ≡ last_of ys
last_append xs ys lt =
    let l = length-append xs ys in
    get_or-append_right xs ys (length xs) (length (xs ++ ys) - 1) [] refl (omega (arith, l, lt))
    ∙ ap (λ (k : ℕ). get_or ys k []) (omega (arith, l, lt))

moved_short : (old to k : Name) → length (last_of to) ≤ MAX_COMPONENT_LEN → length (last_of k) ≤ MAX_COMPONENT_LEN
    → length (last_of (moved_name old to k)) ≤ MAX_COMPONENT_LEN
moved_short old to k new was = by_test (is_within old k)
  where
    by_rest : (rest : Name) → rest ≡ drop (length old) k → length (last_of (to ++ rest)) ≤ MAX_COMPONENT_LEN
    by_rest [] e = subst (λ (w : Name). length (last_of w) ≤ MAX_COMPONENT_LEN) (sym (append-nil to)) new
    by_rest (part ∷ parts) e =
        (let some : 0 < length (part ∷ parts) = omega arith in
        let whole : take (length old) k ++ part ∷ parts ≡ k = ap (λ (w : Name). take (length old) k ++ w) e
        ∙ take-append-drop (length old) k in
        let same : last_of (to ++ part ∷ parts) ≡ last_of k = last_append to (part ∷ parts) some
        ∙ (sym (last_append (take (length old) k) (part ∷ parts) some) ∙ ap last_of whole) in
        subst (λ (w : List ℕ). length w ≤ MAX_COMPONENT_LEN) (sym same) was)

    by_test : (b : Bool) → length (last_of (if b then to ++ drop (length old) k else k)) ≤ MAX_COMPONENT_LEN
    by_test true = by_rest (drop (length old) k) refl
    by_test false = was

not_long : (name : Name) → is_long_name name ≡ false → length (last_of name) ≤ MAX_COMPONENT_LEN
not_long name e = ltb-false MAX_COMPONENT_LEN (length (last_of name)) e

-- ---- sizes

set_size : (files : List (List ℕ)) (file other : ℕ) (bytes : List ℕ) → length bytes ≤ MAX_FILE_LEN
    → length (get_or files other []) ≤ MAX_FILE_LEN → length (get_or (set files file bytes) other []) ≤ MAX_FILE_LEN
set_size files file other bytes le was = elim (eqb_tells other file) [
  | inl t ↦ elim (cases_lt file (length files)) [
    | inl lt ↦ (let same : get_or (set files file bytes) other [] ≡ bytes =
        ap (λ (k : ℕ). get_or (set files file bytes) k []) t.1 ∙ get_or-set_same files file bytes [] lt in
        subst (λ (w : List ℕ). length w ≤ MAX_FILE_LEN) (sym same) le)
    | inr ge ↦ (subst (λ (w : List (List ℕ)). length (get_or w other []) ≤ MAX_FILE_LEN)
        (sym (set_past files file bytes ge)) was)
  ]
  | inr t ↦ subst (λ (w : List ℕ). length w ≤ MAX_FILE_LEN) (sym (get_or-set_other files file other bytes [] t.1)) was
]

push_size : (files : List (List ℕ)) (file : ℕ) → length (get_or files file []) ≤ MAX_FILE_LEN
    → length (get_or (files ++ [] ∷ []) file []) ≤ MAX_FILE_LEN
push_size [] zero le = omega arith
push_size [] (suc file) le = omega arith
push_size (bytes ∷ files) zero le = le
push_size (bytes ∷ files) (suc file) le = push_size files file le

-- ---- each change

bytes_fit : (tree : FileTree) (file : ℕ) (bytes : List ℕ) → IsFit tree → length bytes ≤ MAX_FILE_LEN
    → IsFit (with_bytes tree file bytes)
bytes_fit tree file bytes fit le = record {
  sizes = λ other. set_size tree.files file other bytes le (fit.sizes other);
  short = fit.short;
  entries = fit.entries;
}

loss_fit : (tree : FileTree) (file : ℕ) → IsFit tree → IsFit (after_loss tree file)
loss_fit tree file fit = by_test (is_file_in_use tree file)
  where
    by_test : (b : Bool) → IsFit (if b then tree else with_bytes tree file [])
    by_test true = fit
    by_test false = bytes_fit tree file [] fit (omega arith)

handle_fit : (tree : FileTree) (handle : List ℕ) (o : Opened) → IsFit tree
    → ((entries : List NameEntry) → o ≡ opened.Directory entries → AreShort entries) → IsFit (with_handle tree handle o)
handle_fit tree handle o fit new = record {
  sizes = fit.sizes;
  short = fit.short;
  entries = λ h entries has. elim (has_push tree.handles (handle, o) (h, opened.Directory entries) has) [
    | inl old ↦ fit.entries h entries old
    | inr e ↦ new entries (ap (λ (w : List ℕ × Opened). w.1) e)
  ];
}

abbrev entries_in : Opened → List NameEntry
entries_in (opened.File held) = []
entries_in (opened.Directory entries) = entries

opened_short : (tree n : FileTree) (o : Opened) → IsFit tree → HasEntries tree o → (entries : List NameEntry) → o
    ≡ opened.Directory entries → AreShort entries
opened_short tree n (opened.File held) fit has entries e = subst AreShort (ap entries_in e) tt
opened_short tree n (opened.Directory own) fit has entries e =
    subst AreShort (sym has.1 ∙ ap entries_in e) (entries_short tree has.0 fit)

name_fit : (tree : FileTree) (name : Name) (n : Node) (files : List (List ℕ)) → IsFit tree
    → length (last_of name) ≤ MAX_COMPONENT_LEN → ((file : ℕ) → length (get_or files file []) ≤ MAX_FILE_LEN)
    → IsFit (record { names = tree.names ++ (name, n) ∷ []; files = files; handles = tree.handles })
name_fit tree name n files fit le sizes = record {
  sizes = sizes;
  short = λ a k has. elim (has_push tree.names (name, n) (a, k) has) [
    | inl old ↦ fit.short a k old
    | inr e ↦ subst (λ (w : Name). length (last_of w) ≤ MAX_COMPONENT_LEN) (ap (λ (w : Name × Node). w.0) e) le
  ];
  entries = fit.entries;
}

without_fit : (tree : FileTree) (name : Name) → IsFit tree → IsFit (without_name tree name)
without_fit tree name fit = record {
  sizes = fit.sizes;
  short =
      λ a k has. fit.short a k (has_without same_name tree.names name (a, k) has);
  entries = fit.entries;
}

moved_fit : (tree : FileTree) (old to : Name) → IsFit tree → length (last_of to) ≤ MAX_COMPONENT_LEN
    → IsFit (with_renamed tree old to)
moved_fit tree old to fit le = record {
  sizes = fit.sizes;
  short = λ a k has. (let p = has_moved (moved_name old to) tree.names (a, k) has in
      subst (λ (w : Name). length (last_of w) ≤ MAX_COMPONENT_LEN) p.1.0
      (moved_short old to p.0 le (fit.short p.0 k p.1.1)));
  entries = fit.entries;
}

closed_fit : (tree : FileTree) (h : List ℕ) → IsFit tree → IsFit (without_handle tree h)
closed_fit tree h fit = record {
  sizes = fit.sizes;
  short = fit.short;
  entries =
      λ handle entries has. fit.entries handle entries (has_without bytes_eq tree.handles h
      (handle, opened.Directory entries) has);
}

-- a handle that has entries
opened_entries : (o : Option Opened) (entries : List NameEntry) → entries_of o ≡ Some entries → o
    ≡ Some (opened.Directory entries)
opened_entries None entries e = absurd cc
opened_entries (Some (opened.File held)) entries e = absurd cc
opened_entries (Some (opened.Directory own)) entries e = (let same : own ≡ entries = cc in
    ap (λ (w : List NameEntry). Some (opened.Directory w)) same)

pub held_entries : (tree : FileTree) (h : List ℕ) (entries : List NameEntry) → IsFit tree
    → entries_of (opened_at tree h) ≡ Some entries → AreShort entries
held_entries tree h entries fit e = fit.entries h entries (found_has bytes_eq handles_tell tree.handles h
    (opened.Directory entries) (opened_entries (opened_at tree h) entries e))

given_fit : (tree : FileTree) (h : List ℕ) (entries : List NameEntry) → IsFit tree → AreShort entries
    → IsFit (with_entries tree h entries)
given_fit tree h entries fit short = record {
  sizes = fit.sizes;
  short = fit.short;
  entries = λ handle others has. elim (has_replaced bytes_eq tree.handles h (opened.Directory entries)
      (handle, opened.Directory others) has) [
        | inl old ↦ fit.entries handle others old
        | inr e ↦ subst AreShort (sym (ap entries_in e)) short
      ];
}

change_fits : (tree : FileTree) (handle : List ℕ) (c : Change) → IsFit tree → WasChecked tree c
    → IsFit (tree_after_change tree handle c)
change_fits tree handle Unchanged fit w = fit
change_fits tree handle (Rewritten file bytes) fit w = bytes_fit tree file bytes fit w
change_fits tree handle (Granted o) fit w = handle_fit tree handle o fit (opened_short tree tree o fit w)
change_fits tree handle (Truncated file o) fit w = handle_fit (with_bytes tree file []) handle o
    (bytes_fit tree file [] fit (omega arith)) (opened_short tree tree o fit w)
change_fits tree handle (Created name o) fit w =
    handle_fit (with_file tree name) handle o (name_fit tree name (node.File (length tree.files))
    (tree.files ++ [] ∷ []) fit (not_long name w.0.2) (λ file. push_size tree.files file (fit.sizes file)))
    (opened_short tree tree o fit w.1)
change_fits tree handle (ClosedDirectory h) fit w = closed_fit tree h fit
change_fits tree handle (ClosedFile h file) fit w = loss_fit (without_handle tree h) file (closed_fit tree h fit)
change_fits tree handle (Listed h entries) fit w = given_fit tree h entries fit
    (subst AreShort (sym w.3) (drop_short w.1 w.0 (held_entries tree h w.0 fit w.2)))
change_fits tree handle (MadeDirectory name) fit w = name_fit tree name node.Directory tree.files fit
    (not_long name w.2) fit.sizes
change_fits tree handle (RemovedDirectory name) fit w = without_fit tree name fit
change_fits tree handle (RemovedFile name file) fit w = loss_fit (without_name tree name) file
    (without_fit tree name fit)
change_fits tree handle (Renamed old to) fit w = moved_fit tree old to fit (not_long to w.1.2)
change_fits tree handle (Replaced old to gone) fit w =
    loss_fit (with_renamed (without_name tree to) old to) gone
    (moved_fit (without_name tree to) old to (without_fit tree to fit)
    (fit.short to (node.File gone) (name_has tree to gone w.2)))

-- a tree within its bounds stays so, whatever is requested
pub fit_after : (tree : FileTree) (config : ServerConfig) (r : Request) (choice : Choice) (handle : List ℕ) → IsFit tree
    → IsFit (apply tree config r choice handle).1
fit_after tree config r choice handle fit =
    let l = apply_leaves tree config r choice handle in subst IsFit (sym l.is)
    (change_fits tree handle l.change fit l.checked)
