-- A tree stays one where a name moves with all that is within it.
use Rattle.std.proofs.Common.{◌≡◌, ◌≢◌, true, false, [], ◌∷◌, ◌++◌, Some, None, refl, ap, sym, ◌∙◌, subst, inl, inr}
use Rattle.std.proofs.lemmas.List.{append-nil, append_cancel_left}
use Rattle.machine_model.proofs.HasLaws.{all_has, has_all, has_map}
use Rattle.machine_model.proofs.OnceLaws.{has_found, has_none, map_once}
use Rattle.machine_model.proofs.PairLaws.{has_moved}
use Rattle.machine_model.proofs.TreeLaws.{absent_not_root, directory_is, named_node, named_not_root, node_found, node_named, within_absent}
use Rattle.machine_model.proofs.WithinLaws.{Lies, cons_not_nil, lies, moved_outside, moved_within, parent_below, parent_outside}
use Rattle.machine_model.specs.Components.{Name, is_within, moved_name, parent_of}
use Rattle.machine_model.specs.FileTree.{FileTree, is_directory, node_at, with_renamed}
use Rattle.machine_model.specs.Pairs.{HasEntry}
use Rattle.machine_model.specs.Trees.{IsTree, StandOnce, has_parent}
use Rattle.machine_model.specs.declared.node.Node.{Node}
use Rattle.machine_model.specs.declared.node.Node.TheVariants as node

-- a tree in which a name may move
pub record MayMoveTo (tree : FileTree) (old to : Name) : Type 0 where
  pub is : IsTree tree
  pub none : node_at tree to ≡ None
  pub parent : is_directory (node_at tree (parent_of to)) ≡ true
  pub outside : is_within old to ≡ false

-- the root doesn't move
old_not_root : (old to : Name) → is_within old to ≡ false → old ≢ []
old_not_root old to e is = let all : is_within [] to ≡ false = subst (λ (w : Name). is_within w to ≡ false) is e in
    absurd (let both : true ≡ false = all in cc)

append_not_nil : (to rest : Name) → to ≢ [] → to ++ rest ≢ []
append_not_nil [] rest ne is = ne refl
append_not_nil (part ∷ parts) rest ne is = cons_not_nil part (parts ++ rest) is

-- no name becomes the root's
moved_not_root : (tree : FileTree) (old to name : Name) → MayMoveTo tree old to → name ≢ []
    → moved_name old to name ≢ []
moved_not_root tree old to name m ne = by_lie (lies old name)
  where
    by_lie : Lies old name → moved_name old to name ≢ []
    by_lie (inl (rest, e)) = λ is. append_not_nil to rest (absent_not_root tree to m.none)
        (sym (ap (moved_name old to) e ∙ moved_within old to rest) ∙ is)
    by_lie (inr out) = λ is. ne (sym (moved_outside old to name out) ∙ is)

-- names that differ stay apart, since nothing is within a name that isn't there
moved_same : (tree : FileTree) (old to : Name) → MayMoveTo tree old to → (a b : Name) (v w : Node)
    → HasEntry tree.names (a, v) → HasEntry tree.names (b, w) → moved_name old to a ≡ moved_name old to b → a ≡ b
moved_same tree old to m a b v w x y e = by_lies (lies old a) (lies old b)
  where
    moves : (name rest : Name) → name ≡ old ++ rest → moved_name old to name ≡ to ++ rest
    moves name rest is = ap (moved_name old to) is ∙ moved_within old to rest

    beneath : (name : Name) (n : Node) (rest : Name) → HasEntry tree.names (name, n) → to ++ rest ≡ name → ⊥
    beneath name n rest has is = within_absent tree to rest n m.is m.none
        (subst (λ (w : Name). node_at tree w ≡ Some n) (sym is) (named_node tree name n m.is has))

    by_lies : Lies old a → Lies old b → a ≡ b
    by_lies (inl (r, ea)) (inl (s, eb)) =
        (let rests : r ≡ s = append_cancel_left to r s (sym (moves a r ea) ∙ (e ∙ moves b s eb)) in
        ea ∙ (ap (λ (w : Name). old ++ w) rests ∙ sym eb))
    by_lies (inl (r, ea)) (inr ob) = absurd (beneath b w r y (sym (moves a r ea) ∙ (e ∙ moved_outside old to b ob)))
    by_lies (inr oa) (inl (s, eb)) = absurd (beneath a v s x (sym (moves b s eb) ∙ (sym e ∙ moved_outside old to a oa)))
    by_lies (inr oa) (inr ob) = sym (moved_outside old to a oa) ∙ (e ∙ moved_outside old to b ob)

moved_once : (tree : FileTree) (old to : Name) → MayMoveTo tree old to → StandOnce (with_renamed tree old to).names
moved_once tree old to m = map_once (moved_name old to) tree.names (moved_same tree old to m) m.is.once

-- what a name has is found by its new name
moved_node : (tree : FileTree) (old to name : Name) (n : Node) → MayMoveTo tree old to → name ≢ [] → node_at tree name
    ≡ Some n → node_at (with_renamed tree old to) (moved_name old to name) ≡ Some n
moved_node tree old to name n m ne e =
    node_found (with_renamed tree old to) (moved_name old to name) (moved_not_root tree old to name m ne)
    ∙ has_found (with_renamed tree old to).names (moved_name old to name) n (moved_once tree old to m)
    (has_map (λ (pair : Name × Node). let moved : Name × Node = (moved_name old to pair.0, pair.1) in moved)
    tree.names (name, n) (node_named tree name n ne e))

-- a directory is one by its new name, also the root
moved_directory : (tree : FileTree) (old to name : Name) → MayMoveTo tree old to → is_directory (node_at tree name)
    ≡ true → is_directory (node_at (with_renamed tree old to) (moved_name old to name)) ≡ true
moved_directory tree old to [] m h = by_lie (lies old [])
  where
    by_lie : Lies old [] → is_directory (node_at (with_renamed tree old to) (moved_name old to [])) ≡ true
    by_lie (inl (rest, e)) = absurd (append_not_nil old rest (old_not_root old to m.outside) (sym e))
    by_lie (inr out) = subst (λ (w : Name). is_directory (node_at (with_renamed tree old to) w) ≡ true)
        (sym (moved_outside old to [] out)) refl
moved_directory tree old to (part ∷ parts) m h =
    ap is_directory (moved_node tree old to (part ∷ parts) node.Directory m (cons_not_nil part parts)
    (directory_is (node_at tree (part ∷ parts)) h))

-- the parent of a moved name is a moved name of a directory
moved_parent : (tree : FileTree) (old to name : Name) → MayMoveTo tree old to → name ≢ []
    → is_directory (node_at tree (parent_of name)) ≡ true
    → is_directory (node_at (with_renamed tree old to) (parent_of (moved_name old to name))) ≡ true
moved_parent tree old to name m ne h = by_lie (lies old name)
  where
    goes : (up new : Name) → is_directory (node_at tree up) ≡ true → moved_name old to up ≡ new
        → is_directory (node_at (with_renamed tree old to) new) ≡ true
    goes up new there e = subst (λ (w : Name). is_directory (node_at (with_renamed tree old to) w) ≡ true) e
        (moved_directory tree old to up m there)

    by_lie : Lies old name → is_directory (node_at (with_renamed tree old to) (parent_of (moved_name old to name)))
        ≡ true
    by_lie (inl ([], e)) =
        (let is : moved_name old to name ≡ to = ap (moved_name old to) e ∙ (moved_within old to [] ∙ append-nil to) in
        goes (parent_of to) _ m.parent (moved_outside old to (parent_of to)
        (parent_outside old to (absent_not_root tree to m.none) m.outside) ∙ ap parent_of (sym is)))
    by_lie (inl (part ∷ rest, e)) =
        (let is : moved_name old to name ≡ to ++ part ∷ rest = ap (moved_name old to) e
        ∙ moved_within old to (part ∷ rest) in
        let up : parent_of name ≡ old ++ parent_of (part ∷ rest) = ap parent_of e ∙ parent_below old part rest in
        goes (parent_of name) _ h (ap (moved_name old to) up ∙ (moved_within old to (parent_of (part ∷ rest))
        ∙ (sym (parent_below to part rest) ∙ ap parent_of (sym is)))))
    by_lie (inr out) = goes (parent_of name) _ h (moved_outside old to (parent_of name) (parent_outside old name ne out)
        ∙ ap parent_of (sym (moved_outside old to name out)))

pub moved_tree : (tree : FileTree) (old to : Name) → MayMoveTo tree old to → IsTree (with_renamed tree old to)
moved_tree tree old to m = record {
  once = moved_once tree old to m;
  rootless = has_none (with_renamed tree old to).names [] (λ n has.
      let was = has_moved (moved_name old to) tree.names ([], n) has in
      moved_not_root tree old to was.0 m (named_not_root tree was.0 n m.is was.1.1) was.1.0);
  parents = all_has (has_parent (with_renamed tree old to)) (with_renamed tree old to).names (λ pair has.
      let was = has_moved (moved_name old to) tree.names pair has in
      subst (λ (w : Name). is_directory (node_at (with_renamed tree old to) (parent_of w)) ≡ true) was.1.0
      (moved_parent tree old to was.0 m (named_not_root tree was.0 pair.1 m.is was.1.1)
      (has_all (has_parent tree) tree.names (was.0, pair.1) m.is.parents was.1.1)));
}
