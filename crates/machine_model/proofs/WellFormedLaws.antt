-- Each file has a number, which one name has at most, whatever is requested.
use Rattle.std.proofs.Common.{◌≡◌, ℕ, ◌<◌, ◌≤◌, Bool, true, false, List, [], ◌∷◌, ◌++◌, length, if◌then◌else◌, ap, sym, ◌∙◌, subst, arith, inl, inr}
use Rattle.std.specs.Prelude.{◌⊎◌}
use Rattle.std.specs.Str.{bytes_eq}
use Rattle.std.proofs.lemmas.List.{length-set, length_push}
use Rattle.sftp_model.specs.declared.config.Choice.{Choice}
use Rattle.sftp_model.specs.declared.config.ServerConfig.{ServerConfig}
use Rattle.sftp_model.specs.declared.reply.NameEntry.{NameEntry}
use Rattle.sftp_model.specs.declared.request.Request.{Request}
use Rattle.machine_model.specs.declared.node.Node.TheVariants as node
use Rattle.machine_model.specs.declared.opened.Opened.TheVariants as opened
use Rattle.machine_model.proofs.ChangeLaws.{apply_leaves}
use Rattle.machine_model.proofs.LossLaws.{name_has}
use Rattle.machine_model.proofs.PairLaws.{has_moved, has_push, has_replaced, has_without}
use Rattle.machine_model.specs.Changes.{
  Change,
  ClosedDirectory,
  ClosedFile,
  Created,
  Granted,
  IsWellFormed,
  Listed,
  MadeDirectory,
  MayLead,
  OpensFile,
  OpensNamed,
  RemovedDirectory,
  RemovedFile,
  Renamed,
  Replaced,
  Rewritten,
  Truncated,
  Unchanged,
  tree_after_change,
}
use Rattle.machine_model.specs.Components.{Name, moved_name, same_name}
use Rattle.machine_model.specs.FileTree.{FileTree, after_loss, is_file_in_use, with_bytes, with_file, with_handle, with_renamed, without_handle, without_name}
use Rattle.machine_model.specs.NameRequests.{with_entries}
use Rattle.machine_model.specs.Pairs.{HasEntry}
use Rattle.machine_model.specs.TreeAnswers.{apply}
use Rattle.machine_model.specs.declared.node.Node.{Node}
use Rattle.machine_model.specs.declared.opened.Opened.{Opened}

bytes_sound : (tree : FileTree) (file : ℕ) (bytes : List ℕ) → IsWellFormed tree
    → IsWellFormed (with_bytes tree file bytes)
bytes_sound tree file bytes s = record {
  named = λ name f h. rw (length-set tree.files file bytes) (s.named name f h);
  held = λ handle held h. rw (length-set tree.files file bytes) (s.held handle held h);
  alone = s.alone;
}

loss_sound : (tree : FileTree) (file : ℕ) → IsWellFormed tree → IsWellFormed (after_loss tree file)
loss_sound tree file s = by_test (is_file_in_use tree file)
  where
    by_test : (b : Bool) → IsWellFormed (if b then tree else with_bytes tree file [])
    by_test true = s
    by_test false = bytes_sound tree file [] s

-- what is opened has a file's number
abbrev Within : FileTree → Opened → Type 0
Within tree (opened.File held) = held.file < length tree.files
Within tree (opened.Directory entries) = Unit {0}

handle_sound : (tree : FileTree) (handle : List ℕ) (o : Opened) → IsWellFormed tree → Within tree o
    → IsWellFormed (with_handle tree handle o)
handle_sound tree handle o s w = record {
  named = s.named;
  held = λ h held has. elim (has_push tree.handles (handle, o) (h, opened.File held) has) [
    | inl old ↦ s.held h held old
    | inr e ↦ subst (Within tree) (ap (λ (w : List ℕ × Opened). w.1) e) w
  ];
  alone = s.alone;
}

without_handle_sound : (tree : FileTree) (h : List ℕ) → IsWellFormed tree → IsWellFormed (without_handle tree h)
without_handle_sound tree h s = record {
  named = s.named;
  held = λ handle held has. s.held handle held (has_without bytes_eq tree.handles h (handle, opened.File held) has);
  alone = s.alone;
}

-- a file's pair isn't a directory's
abbrev file_value : Node → Bool
file_value node.Directory = false
file_value (node.File file) = true

abbrev opened_value : Opened → Bool
opened_value (opened.File held) = true
opened_value (opened.Directory entries) = false

entries_sound : (tree : FileTree) (h : List ℕ) (entries : List NameEntry) → IsWellFormed tree
    → IsWellFormed (with_entries tree h entries)
entries_sound tree h entries s = record {
  named = s.named;
  held = λ handle held has. elim (has_replaced bytes_eq tree.handles h (opened.Directory entries)
      (handle, opened.File held) has) [
        | inl old ↦ s.held handle held old
        | inr e ↦ absurd (let no : true ≡ false = ap opened_value e in cc)
      ];
  alone = s.alone;
}

-- with one more name, whose file is new where it has one
push_sound : (tree : FileTree) (name : Name) (n : Node) (files : List (List ℕ)) → IsWellFormed tree
    → length tree.files ≤ length files → ((file : ℕ) → n ≡ node.File file → (file ≡ length tree.files)
    × (file < length files))
    → IsWellFormed (record { names = tree.names ++ (name, n) ∷ []; files = files; handles = tree.handles })
push_sound tree name n files s le new = record {
  named = λ a file has. elim (has_push tree.names (name, n) (a, node.File file) has) [
    | inl old ↦ (let lt = s.named a file old in omega (arith, lt, le))
    | inr e ↦ (new file (ap (λ (w : Name × Node). w.1) e)).1
  ];
  held = λ h held has. (let lt = s.held h held has in omega (arith, lt, le));
  alone = λ a b file x y. both a b file (has_push tree.names (name, n) (a, node.File file) x)
      (has_push tree.names (name, n) (b, node.File file) y);
}
  where
    both : (a b : Name) (file : ℕ) → HasEntry tree.names (a, node.File file)
        ⊎ (let p : Name × Node = (name, n) in p ≡ (a, node.File file)) → HasEntry tree.names (b, node.File file)
        ⊎ (let p : Name × Node = (name, n) in p ≡ (b, node.File file)) → a ≡ b
    both a b file (inl x) (inl y) = s.alone a b file x y
    both a b file (inl x) (inr y) = absurd (let lt = s.named a file x in let is =
        (new file (ap (λ (w : Name × Node). w.1) y)).0 in omega (arith, lt, is))
    both a b file (inr x) (inl y) = absurd (let lt = s.named b file y in let is =
        (new file (ap (λ (w : Name × Node). w.1) x)).0 in omega (arith, lt, is))
    both a b file (inr x) (inr y) = sym (ap (λ (w : Name × Node). w.0) x) ∙ ap (λ (w : Name × Node). w.0) y

without_name_sound : (tree : FileTree) (name : Name) → IsWellFormed tree → IsWellFormed (without_name tree name)
without_name_sound tree name s = record {
  named = λ a file has. s.named a file (has_without same_name tree.names name (a, node.File file) has);
  held = s.held;
  alone = λ a b file x y. s.alone a b file (has_without same_name tree.names name (a, node.File file) x)
      (has_without same_name tree.names name (b, node.File file) y);
}

moved_sound : (tree : FileTree) (old to : Name) → IsWellFormed tree → IsWellFormed (with_renamed tree old to)
moved_sound tree old to s = record {
  named = λ a file has. (let p = has_moved (moved_name old to) tree.names (a, node.File file) has in
      s.named p.0 file p.1.1);
  held = s.held;
  alone = λ a b file x y.
      (let p = has_moved (moved_name old to) tree.names (a, node.File file) x in
      let q = has_moved (moved_name old to) tree.names (b, node.File file) y in
      sym p.1.0 ∙ (ap (moved_name old to) (s.alone p.0 q.0 file p.1.1 q.1.1) ∙ q.1.0));
}

opens_within : (tree : FileTree) (r : Request) (o : Opened) → IsWellFormed tree → OpensNamed tree r o → Within tree o
opens_within tree r (opened.File held) s opens = s.named opens.0 held.file (name_has tree opens.0 held.file opens.1.1)
opens_within tree r (opened.Directory entries) s opens = tt

new_within : (tree : FileTree) (name : Name) (o : Opened) → OpensFile (length tree.files) o
    → Within (with_file tree name) o
new_within tree name (opened.File held) e = let more = length_push tree.files [] in let is : held.file
    ≡ length tree.files = e in omega (arith, more, is)
new_within tree name (opened.Directory entries) e = tt

emptied_within : (tree : FileTree) (file : ℕ) (o : Opened) → Within tree o → Within (with_bytes tree file []) o
emptied_within tree file (opened.File held) w = rw (length-set tree.files file []) w
emptied_within tree file (opened.Directory entries) w = tt

abbrev file_number : ℕ → Node → ℕ
file_number d node.Directory = d
file_number d (node.File file) = file

change_sound : (tree : FileTree) (r : Request) (handle : List ℕ) (c : Change) → IsWellFormed tree → MayLead tree r c
    → IsWellFormed (tree_after_change tree handle c)
change_sound tree r handle Unchanged s may = s
change_sound tree r handle (Rewritten file bytes) s may = bytes_sound tree file bytes s
change_sound tree r handle (Granted o) s may = handle_sound tree handle o s (opens_within tree r o s may.0)
change_sound tree r handle (Truncated file o) s may = handle_sound (with_bytes tree file []) handle o
    (bytes_sound tree file [] s) (emptied_within tree file o (opens_within tree r o s may.2))
change_sound tree r handle (Created name o) s may =
    handle_sound (with_file tree name) handle o
    (push_sound tree name (node.File (length tree.files)) (tree.files ++ [] ∷ []) s
    (let more = length_push tree.files [] in omega (arith, more))
    (λ file e. (let is : length tree.files ≡ file = ap (file_number 0) e in let more = length_push tree.files [] in
    (sym is, omega (arith, is, more)))))
    (new_within tree name o may.2)
change_sound tree r handle (ClosedDirectory h) s may = without_handle_sound tree h s
change_sound tree r handle (ClosedFile h file) s may = loss_sound (without_handle tree h) file
    (without_handle_sound tree h s)
change_sound tree r handle (Listed h entries) s may = entries_sound tree h entries s
change_sound tree r handle (MadeDirectory name) s may = push_sound tree name node.Directory tree.files s (omega arith)
    (λ file e. absurd (let no : false ≡ true = ap file_value e in cc))
change_sound tree r handle (RemovedDirectory name) s may = without_name_sound tree name s
change_sound tree r handle (RemovedFile name file) s may = loss_sound (without_name tree name) file
    (without_name_sound tree name s)
change_sound tree r handle (Renamed old to) s may = moved_sound tree old to s
change_sound tree r handle (Replaced old to gone) s may = loss_sound (with_renamed (without_name tree to) old to) gone
    (moved_sound (without_name tree to) old to (without_name_sound tree to s))

pub well_formed_after : (tree : FileTree) (config : ServerConfig) (r : Request) (choice : Choice) (handle : List ℕ)
    → IsWellFormed tree → IsWellFormed (apply tree config r choice handle).1
well_formed_after tree config r choice handle s =
    let l = apply_leaves tree config r choice handle in subst IsWellFormed (sym l.is)
    (change_sound tree r handle l.change s l.may)
