-- A tree stays one, whatever is requested, and what stands within another name stands within a directory.
use Rattle.std.proofs.Common.{◌≡◌, ◌≢◌, ℕ, true, false, List, [], ◌∷◌, ◌++◌, Option, Some, None, refl, ap, sym, ◌∙◌, subst, inl, inr}
use Rattle.std.specs.Prelude.{◌⊎◌}
use Rattle.std.proofs.lemmas.List.{append-nil, append_assoc}
use Rattle.machine_model.proofs.HasLaws.{all_has, has_all}
use Rattle.machine_model.proofs.NameLaws.{names_tell}
use Rattle.machine_model.proofs.OnceLaws.{has_found, none_has, push_once, without_once}
use Rattle.machine_model.proofs.PairLaws.{differs, found_has, found_push_old, found_push_other, found_without_other, has_push, has_without}
use Rattle.machine_model.proofs.WithinLaws.{lies, parent_push}
use Rattle.machine_model.specs.Components.{Name, is_within, parent_of, same_name}
use Rattle.machine_model.specs.FileTree.{FileTree, value_at_key, is_directory, node_at, without_name}
use Rattle.machine_model.specs.Pairs.{HasEntry}
use Rattle.machine_model.specs.Trees.{IsTree, has_parent}
use Rattle.machine_model.specs.declared.node.Node.{Node}
use Rattle.machine_model.specs.declared.node.Node.TheVariants as node

-- ---- what is there

pub directory_is : (o : Option Node) → is_directory o ≡ true → o ≡ Some node.Directory
directory_is None e = absurd cc
directory_is (Some node.Directory) e = refl
directory_is (Some (node.File file)) e = absurd cc

pub absent_not_root : (tree : FileTree) (name : Name) → node_at tree name ≡ None → name ≢ []
absent_not_root tree name e is = let none : node_at tree [] ≡ None = subst (λ (w : Name). node_at tree w ≡ None) is e in
    absurd cc

pub node_found : (tree : FileTree) (name : Name) → name ≢ [] → node_at tree name
    ≡ value_at_key same_name tree.names name
node_found tree [] ne = absurd (ne refl)
node_found tree (part ∷ parts) ne = refl

pub named_not_root : (tree : FileTree) (name : Name) (n : Node) → IsTree tree → HasEntry tree.names (name, n)
    → name ≢ []
named_not_root tree name n t has is = none_has tree.names [] n t.rootless
    (subst (λ (w : Name). HasEntry tree.names (w, n)) is has)

pub named_node : (tree : FileTree) (name : Name) (n : Node) → IsTree tree → HasEntry tree.names (name, n)
    → node_at tree name ≡ Some n
named_node tree name n t has = node_found tree name (named_not_root tree name n t has)
    ∙ has_found tree.names name n t.once has

pub node_named : (tree : FileTree) (name : Name) (n : Node) → name ≢ [] → node_at tree name ≡ Some n
    → HasEntry tree.names (name, n)
node_named tree name n ne e = found_has same_name names_tell tree.names name n (sym (node_found tree name ne) ∙ e)

-- ---- parents are directories

pub tree_parent : (tree : FileTree) (name : Name) (n : Node) → IsTree tree → node_at tree name ≡ Some n
    → is_directory (node_at tree (parent_of name)) ≡ true
tree_parent tree [] n t e = refl
tree_parent tree (part ∷ parts) n t e = has_all (has_parent tree) tree.names (part ∷ parts, n) t.parents
    (found_has same_name names_tell tree.names (part ∷ parts) n e)

push_parent : (tree : FileTree) (at : Name) (part : List ℕ) (n : Node) → IsTree tree → node_at tree (at ++ part ∷ [])
    ≡ Some n → is_directory (node_at tree at) ≡ true
push_parent tree at part n t e = subst (λ (w : Name). is_directory (node_at tree w) ≡ true) (parent_push at part)
    (tree_parent tree (at ++ part ∷ []) n t e)

pub prefix_directory : (tree : FileTree) (at : Name) (part : List ℕ) (rest : Name) (n : Node) → IsTree tree
    → node_at tree (at ++ part ∷ rest) ≡ Some n → is_directory (node_at tree at) ≡ true
prefix_directory tree at part [] n t e = push_parent tree at part n t e
prefix_directory tree at part (next ∷ rest) n t e =
    let below : is_directory (node_at tree (at ++ part ∷ [])) ≡ true =
    prefix_directory tree (at ++ part ∷ []) next rest n t (subst (λ (w : Name). node_at tree w ≡ Some n)
    (sym (append_assoc at (part ∷ []) (next ∷ rest))) e) in
    push_parent tree at part node.Directory t (directory_is (node_at tree (at ++ part ∷ [])) below)

pub prefixes_directories : (tree : FileTree) (directory name : Name) (n : Node) → IsTree tree → is_within directory name
    ≡ true → directory ≢ name → node_at tree name ≡ Some n → node_at tree directory ≡ Some node.Directory
prefixes_directories tree directory name n t within ne e = by_lie (lies directory name)
  where
    by_lie : ((rest : Name) × (name ≡ directory ++ rest)) ⊎ (is_within directory name ≡ false) → node_at tree directory
        ≡ Some node.Directory
    by_lie (inl ([], same)) = absurd (ne (sym (same ∙ append-nil directory)))
    by_lie (inl (part ∷ rest, same)) =
        directory_is (node_at tree directory) (prefix_directory tree directory part rest n t
        (subst (λ (w : Name). node_at tree w ≡ Some n) same e))
    by_lie (inr outside) = absurd (let both : true ≡ false = sym within ∙ outside in cc)

-- within a name that isn't there is nothing
pub within_absent : (tree : FileTree) (to rest : Name) (n : Node) → IsTree tree → node_at tree to ≡ None
    → node_at tree (to ++ rest) ≡ Some n → ⊥
within_absent tree to [] n t none e =
    let some : node_at tree to ≡ Some n = subst (λ (w : Name). node_at tree w ≡ Some n) (append-nil to) e in
    absurd (let both : None ≡ Some n = sym none ∙ some in cc)
within_absent tree to (part ∷ rest) n t none e =
    let some : node_at tree to ≡ Some node.Directory = directory_is (node_at tree to)
    (prefix_directory tree to part rest n t e) in
    absurd (let both : None ≡ Some node.Directory = sym none ∙ some in cc)

-- ---- one name more

pub pushed_tree : (tree : FileTree) (name : Name) (n : Node) (files : List (List ℕ)) → IsTree tree → node_at tree name
    ≡ None → is_directory (node_at tree (parent_of name)) ≡ true
    → IsTree (record { names = tree.names ++ (name, n) ∷ []; files = files; handles = tree.handles })
pushed_tree tree name n files t none parent = record {
  once = push_once tree.names name n t.once (sym (node_found tree name ne) ∙ none);
  rootless = found_push_other same_name tree.names name [] n (differs same_name names_tell name [] ne) ∙ t.rootless;
  parents = all_has (has_parent after) after.names (λ pair has. elim (has_push tree.names (name, n) pair has) [
    | inl old ↦ stays (parent_of pair.0) (has_all (has_parent tree) tree.names pair t.parents old)
    | inr new ↦ stays (parent_of pair.0) (subst (λ (w : Name × Node). has_parent tree w ≡ true) new parent)
  ]);
}
  where
    after : FileTree
    after = record { names = tree.names ++ (name, n) ∷ []; files = files; handles = tree.handles }

    ne : name ≢ []
    ne = absent_not_root tree name none

    stays : (p : Name) → is_directory (node_at tree p) ≡ true → is_directory (node_at after p) ≡ true
    stays [] h = refl
    stays (part ∷ parts) h = ap is_directory (found_push_old same_name tree.names (name, n) (part ∷ parts)
        node.Directory (directory_is (node_at tree (part ∷ parts)) h))

-- ---- one name less

pub removed_tree : (tree : FileTree) (name : Name) → IsTree tree → name ≢ []
    → ((pair : Name × Node) → HasEntry tree.names pair → name ≢ parent_of pair.0) → IsTree (without_name tree name)
removed_tree tree name t ne childless = record {
  once = without_once tree.names name t.once;
  rootless = found_without_other same_name names_tell tree.names name [] ne ∙ t.rootless;
  parents = all_has (has_parent (without_name tree name)) (without_name tree name).names (λ pair has.
      let old : HasEntry tree.names pair = has_without same_name tree.names name pair has in
      stays (parent_of pair.0) (childless pair old) (has_all (has_parent tree) tree.names pair t.parents old));
}
  where
    stays : (p : Name) → name ≢ p → is_directory (node_at tree p) ≡ true
        → is_directory (node_at (without_name tree name) p) ≡ true
    stays [] other h = refl
    stays (part ∷ parts) other h = ap is_directory (found_without_other same_name names_tell tree.names name
        (part ∷ parts) other) ∙ h
