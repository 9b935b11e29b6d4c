-- A tree stays one, whatever is requested.
use Rattle.std.proofs.Common.{◌≡◌, ◌≢◌, ℕ, Bool, true, false, List, [], ◌∷◌, ◌++◌, length, Some, if◌then◌else◌, refl, ap, sym, ◌∙◌, subst}
use Rattle.std.specs.Prelude.{◌+◌}
use Rattle.std.proofs.lemmas.Bool.{eq-eqb}
use Rattle.std.proofs.lemmas.List.{length-append}
use Rattle.sftp_model.specs.declared.config.Choice.{Choice}
use Rattle.sftp_model.specs.declared.config.ServerConfig.{ServerConfig}
use Rattle.sftp_model.specs.declared.request.Request.{Request}
use Rattle.machine_model.proofs.ChangeLaws.{apply_leaves}
use Rattle.machine_model.proofs.MoveLaws.{moved_tree}
use Rattle.machine_model.proofs.NameLaws.{names_tell}
use Rattle.machine_model.proofs.HasLaws.{has_all, none_passes}
use Rattle.machine_model.proofs.OnceLaws.{without_none}
use Rattle.machine_model.proofs.PairLaws.{found_without_other}
use Rattle.machine_model.proofs.TreeLaws.{named_not_root, node_found, pushed_tree, removed_tree, tree_parent}
use Rattle.machine_model.proofs.WithinLaws.{parent_last, within_join}
use Rattle.machine_model.specs.Changes.{
  Change,
  ClosedDirectory,
  ClosedFile,
  Created,
  Granted,
  Listed,
  MadeDirectory,
  RemovedDirectory,
  RemovedFile,
  Renamed,
  Replaced,
  Rewritten,
  Truncated,
  Unchanged,
  WasChecked,
  tree_after_change,
}
use Rattle.machine_model.specs.Components.{Name, is_child, is_within, last_of, parent_of, same_name}
use Rattle.machine_model.specs.FileTree.{FileTree, after_loss, is_directory, is_file_in_use, node_at, with_bytes, with_renamed, without_handle, without_name}
use Rattle.machine_model.specs.NameRequests.{has_child}
use Rattle.machine_model.specs.Pairs.{HasEntry}
use Rattle.machine_model.specs.TreeAnswers.{apply}
use Rattle.machine_model.specs.Trees.{IsTree, has_parent}
use Rattle.machine_model.specs.declared.node.Node.{Node}
use Rattle.machine_model.specs.declared.node.Node.TheVariants as node
use Rattle.machine_model.specs.declared.opened.Opened.{Opened}

-- all that is asked of a tree is asked of its names
same_names : (tree : FileTree) (files : List (List ℕ)) (handles : List (List ℕ × Opened)) → IsTree tree
    → IsTree (record { names = tree.names; files = files; handles = handles })
same_names tree files handles t = record { once = t.once; rootless = t.rootless; parents = t.parents }

loss_tree : (tree : FileTree) (file : ℕ) → IsTree tree → IsTree (after_loss tree file)
loss_tree tree file t = by_test (is_file_in_use tree file)
  where
    by_test : (b : Bool) → IsTree (if b then tree else with_bytes tree file [])
    by_test true = t
    by_test false = same_names tree (with_bytes tree file []).files tree.handles t

-- ---- what has nothing in it

child_of_parent : (name : Name) → name ≢ [] → is_child (parent_of name) name ≡ true
child_of_parent name ne =
    let whole = parent_last name ne in
    let within : is_within (parent_of name) name ≡ true = subst (λ (w : Name). is_within (parent_of name) w ≡ true)
    (sym whole) (within_join (parent_of name) (last_of name ∷ [])) in
    let long : length name ≡ length (parent_of name) + 1 = ap length whole
    ∙ length-append (parent_of name) (last_of name ∷ []) in
    rw (eq-eqb (length name) (length (parent_of name) + 1) long, within) refl

-- no child: no name has it as its parent
childless : (tree : FileTree) (name : Name) → IsTree tree → has_child tree name ≡ false → (pair : Name × Node)
    → HasEntry tree.names pair → name ≢ parent_of pair.0
childless tree name t e pair has is =
    let child : is_child name pair.0 ≡ true = subst (λ (w : Name). is_child w pair.0 ≡ true) (sym is)
    (child_of_parent pair.0 (named_not_root tree pair.0 pair.1 t has)) in
    let none : is_child name pair.0 ≡ false = none_passes (λ (pair : Name × Node). is_child name pair.0) tree.names pair
    e has in
    absurd (let both : true ≡ false = sym child ∙ none in cc)

-- a file is no directory
file_differs : (tree : FileTree) (name up : Name) (file : ℕ) → node_at tree name ≡ Some (node.File file)
    → is_directory (node_at tree up) ≡ true → name ≢ up
file_differs tree name up file e d is =
    let both : is_directory (Some (node.File file)) ≡ true = ap is_directory (sym e)
    ∙ subst (λ (w : Name). is_directory (node_at tree w) ≡ true) (sym is) d in
    absurd cc

removed_file : (tree : FileTree) (name : Name) (file : ℕ) → IsTree tree → node_at tree name ≡ Some (node.File file)
    → IsTree (without_name tree name)
removed_file tree name file t e =
    removed_tree tree name t (file_differs tree name [] file e refl)
    (λ pair has. file_differs tree name (parent_of pair.0) file e
    (has_all (has_parent tree) tree.names pair t.parents has))

-- a file makes room for what is moved to its name
replaced_tree : (tree : FileTree) (old to : Name) (gone : ℕ) → IsTree tree → node_at tree to ≡ Some (node.File gone)
    → is_within old to ≡ false → IsTree (with_renamed (without_name tree to) old to)
replaced_tree tree old to gone t e outside =
    let parent = tree_parent tree to (node.File gone) t e in
    moved_tree (without_name tree to) old to (record {
      is = removed_file tree to gone t e;
      none = node_found (without_name tree to) to (file_differs tree to [] gone e refl)
          ∙ without_none tree.names to t.once;
      parent = stays (parent_of to) (file_differs tree to (parent_of to) gone e parent) parent;
      outside = outside;
    })
  where
    stays : (up : Name) → to ≢ up → is_directory (node_at tree up) ≡ true
        → is_directory (node_at (without_name tree to) up) ≡ true
    stays [] ne h = refl
    stays (part ∷ parts) ne h = ap is_directory (found_without_other same_name names_tell tree.names to (part ∷ parts)
        ne) ∙ h

change_stays : (tree : FileTree) (handle : List ℕ) (c : Change) → IsTree tree → WasChecked tree c
    → IsTree (tree_after_change tree handle c)
change_stays tree handle Unchanged t w = t
change_stays tree handle (Rewritten file bytes) t w = same_names tree _ _ t
change_stays tree handle (Granted o) t w = same_names tree _ _ t
change_stays tree handle (Truncated file o) t w = same_names tree _ _ t
change_stays tree handle (Created name o) t w = same_names _ _ _
    (pushed_tree tree name (node.File (length tree.files)) (tree.files ++ [] ∷ []) t w.0.0 w.0.1)
change_stays tree handle (ClosedDirectory h) t w = same_names tree _ _ t
change_stays tree handle (ClosedFile h file) t w = loss_tree (without_handle tree h) file (same_names tree _ _ t)
change_stays tree handle (Listed h entries) t w = same_names tree _ _ t
change_stays tree handle (MadeDirectory name) t w = pushed_tree tree name node.Directory tree.files t w.0 w.1
change_stays tree handle (RemovedDirectory name) t w = removed_tree tree name t w.1 (childless tree name t w.2)
change_stays tree handle (RemovedFile name file) t w = loss_tree (without_name tree name) file
    (removed_file tree name file t w)
change_stays tree handle (Renamed old to) t w = moved_tree tree old to
    (record { is = t; none = w.1.0; parent = w.1.1; outside = w.0.2 })
change_stays tree handle (Replaced old to gone) t w = loss_tree (with_renamed (without_name tree to) old to) gone
    (replaced_tree tree old to gone t w.2 w.3)

pub tree_after : (tree : FileTree) (config : ServerConfig) (r : Request) (choice : Choice) (handle : List ℕ)
    → IsTree tree → IsTree (apply tree config r choice handle).1
tree_after tree config r choice handle t =
    let l = apply_leaves tree config r choice handle in subst IsTree (sym l.is)
    (change_stays tree handle l.change t l.checked)
