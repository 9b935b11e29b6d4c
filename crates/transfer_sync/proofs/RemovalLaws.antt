-- The removals can be carried out one after another.
use Rattle.std.proofs.Common.{◌≡◌, ◌&&◌, ◌||◌, ◌⊎◌, ℕ, Bool, true, false, not, List, [], ◌∷◌, ◌++◌, ◌∙◌, Option, Some, None, map, refl, sym, ap, subst, inl, inr, if◌then◌else◌}
use Rattle.std.specs.List.{list_any}
use Rattle.std.specs.Str.{bytes_eq}
use Rattle.std.proofs.lemmas.List.{append_assoc, map-append}
use Rattle.transfer_sync.specs.Listings.{can_follow_all, is_listing}
use Rattle.transfer_sync.specs.Entries.{entry_of_path, has_open_directory, is_directory, is_file, is_link, is_open_directory, is_same_kind}
use Rattle.transfer_sync.specs.Paths.{directory_of, with_path}
use Rattle.transfer_sync.specs.Trees.{
  BytesByPath,
  CanApply,
  CanApplyAll,
  DirectoryNode,
  IsTreeOf,
  Node,
  Nothing,
  Tree,
  has_attributes,
  is_no_directory,
  may_have_file,
  may_have_link,
  node_of,
  tree_after_all,
}
use Rattle.transfer_sync.specs.Verdicts.{SweepValue, has_other_attributes, is_in_source, is_other_content, stays_in_target, sweep_of}
use Rattle.transfer_sync.specs.Actions.{has_directory_mode, removal_action}
use Rattle.transfer_sync.specs.declared.action.Action.{Action}
use Rattle.transfer_sync.specs.declared.action.Step.TheVariants.{RemoveFile, RemoveDirectory}
use Rattle.transfer_sync.specs.declared.entry.Entry.{Entry}
use Rattle.transfer_sync.specs.declared.entry.Kind.{Kind}
use Rattle.transfer_sync.specs.declared.entry.Kind.TheVariants.{File, Directory, Link, Other}
use Rattle.transfer_sync.specs.declared.rules.Rules.{Rules}
use Rattle.transfer_sync.proofs.ListingLaws.{IsIn, at_in, both_right, clash, in_at, in_right, none_left, none_right, not_root, same_path, some_left, some_right}
use Rattle.transfer_sync.proofs.ExcludedLaws.{comes_after, not_yet_removed}
use Rattle.transfer_sync.proofs.LoopSteps.{all_append}
use Rattle.transfer_sync.proofs.SweepLaws.{after_removals, can_append, gone_or_kept}

abbrev sweep_by : Bool → SweepValue → Entry → SweepValue
sweep_by t w x = if t then record w { kept = with_path w.kept (directory_of x.path) }
    else record w { gone = with_path w.gone x.path; removed = w.removed ++ x ∷ [] }

-- ---- Nodes by their kinds

pub directory_node : (b : List ℕ) (k : Kind) → is_directory k ≡ true → node_of b k ≡ DirectoryNode
directory_node b (File f) is = absurd cc
directory_node b (Directory mode) is = refl
directory_node b (Link text) is = absurd cc
directory_node b Other is = absurd cc

pub directory_if_node : (b : List ℕ) (k : Kind) → node_of b k ≡ DirectoryNode → is_directory k ≡ true
directory_if_node b (File f) is = absurd cc
directory_if_node b (Directory mode) is = refl
directory_if_node b (Link text) is = absurd cc
directory_if_node b Other is = absurd cc

no_directory_thing : (b : List ℕ) (k : Kind) → is_directory k ≡ false → is_no_directory (node_of b k) ≡ true
no_directory_thing b (File f) is = refl
no_directory_thing b (Directory mode) is = absurd cc
no_directory_thing b (Link text) is = refl
no_directory_thing b Other is = refl

pub file_fits : (b : List ℕ) (k t : Kind) → is_file k ≡ true → is_same_kind k t ≡ true → may_have_file (node_of b t)
    ≡ true
file_fits b (File f) (File g) is same = refl
file_fits b (File f) (Directory m) is same = absurd cc
file_fits b (File f) (Link l) is same = absurd cc
file_fits b (File f) Other is same = absurd cc
file_fits b (Directory n) t is same = absurd cc
file_fits b (Link l) t is same = absurd cc
file_fits b Other t is same = absurd cc

pub link_fits : (b : List ℕ) (k t : Kind) → is_link k ≡ true → is_same_kind k t ≡ true → may_have_link (node_of b t)
    ≡ true
link_fits b (Link l) (File g) is same = absurd cc
link_fits b (Link l) (Directory m) is same = absurd cc
link_fits b (Link l) (Link m) is same = refl
link_fits b (Link l) Other is same = absurd cc
link_fits b (File f) t is same = absurd cc
link_fits b (Directory n) t is same = absurd cc
link_fits b Other t is same = absurd cc

pub same_directory : (k t : Kind) → is_directory k ≡ true → is_same_kind k t ≡ true → is_directory t ≡ true
same_directory (Directory n) (File g) is same = absurd cc
same_directory (Directory n) (Directory m) is same = refl
same_directory (Directory n) (Link m) is same = absurd cc
same_directory (Directory n) Other is same = absurd cc
same_directory (File f) t is same = absurd cc
same_directory (Link l) t is same = absurd cc
same_directory Other t is same = absurd cc

pub both_directories : (k t : Kind) → is_directory k ≡ true → is_directory t ≡ true → is_same_kind k t ≡ true
both_directories (Directory n) (Directory m) a b = refl
both_directories (Directory n) (File g) a b = absurd cc
both_directories (Directory n) (Link l) a b = absurd cc
both_directories (Directory n) Other a b = absurd cc
both_directories (File f) t a b = absurd cc
both_directories (Link l) t a b = absurd cc
both_directories Other t a b = absurd cc

pub directory_as_is : (rules : Rules) (k t : Kind) → is_directory k ≡ true → is_other_content rules k t ≡ false
directory_as_is rules (Directory n) t is = refl
directory_as_is rules (File f) t is = absurd cc
directory_as_is rules (Link l) t is = absurd cc
directory_as_is rules Other t is = absurd cc

pub touched_node : (b : List ℕ) (k t : Kind) → has_other_attributes k t ≡ true → has_attributes (node_of b t) ≡ true
touched_node b (File f) (File g) is = refl
touched_node b (File f) (Directory m) is = absurd cc
touched_node b (File f) (Link l) is = absurd cc
touched_node b (File f) Other is = absurd cc
touched_node b (Directory n) (File g) is = absurd cc
touched_node b (Directory n) (Directory m) is = refl
touched_node b (Directory n) (Link l) is = absurd cc
touched_node b (Directory n) Other is = absurd cc
touched_node b (Link l) t is = absurd cc
touched_node b Other t is = absurd cc

pub mode_node : (b : List ℕ) (k : Kind) → has_directory_mode k ≡ true → has_attributes (node_of b k) ≡ true
mode_node b (File f) is = absurd cc
mode_node b (Directory m) is = refl
mode_node b (Link l) is = absurd cc
mode_node b Other is = absurd cc

pub file_no_directory : (k : Kind) → is_file k ≡ true → is_directory k ≡ false
file_no_directory (File f) is = refl
file_no_directory (Directory m) is = absurd cc
file_no_directory (Link l) is = absurd cc
file_no_directory Other is = absurd cc

pub link_no_directory : (k : Kind) → is_link k ≡ true → is_directory k ≡ false
link_no_directory (File f) is = absurd cc
link_no_directory (Directory m) is = absurd cc
link_no_directory (Link l) is = refl
link_no_directory Other is = absurd cc

pub link_no_file : (k : Kind) → is_link k ≡ true → is_file k ≡ false
link_no_file (File f) is = absurd cc
link_no_file (Directory m) is = absurd cc
link_no_file (Link l) is = refl
link_no_file Other is = absurd cc

pub directory_no_file : (k : Kind) → is_directory k ≡ true → is_file k ≡ false
directory_no_file (File f) is = absurd cc
directory_no_file (Directory m) is = refl
directory_no_file (Link l) is = absurd cc
directory_no_file Other is = absurd cc

pub nothing_there : (t : Tree) (p : List ℕ) → (t (directory_of p) ≡ DirectoryNode) ⊎ (t p ≡ Nothing)
    → (t (directory_of p) ≡ DirectoryNode → ⊥) → t p ≡ Nothing
nothing_there t p (inl is) isnt = absurd (isnt is)
nothing_there t p (inr is) isnt = is

-- ---- Removals

pub open_at : (xs : List Entry) (e : Entry) → IsIn xs e → is_open_directory e ≡ true → has_open_directory xs e.path
    ≡ true
open_at xs e is opens = some_right (bytes_eq e.path []) (list_any
    (λ (y : Entry). bytes_eq e.path y.path && is_open_directory y) xs) (among xs is)
  where
    among : (ys : List Entry) → IsIn ys e → list_any (λ (y : Entry). bytes_eq e.path y.path && is_open_directory y) ys
        ≡ true
    among [] i = absurd i
    among (y ∷ ys) (inl same) =
        some_left (bytes_eq e.path y.path && is_open_directory y)
        (list_any (λ (z : Entry). bytes_eq e.path z.path && is_open_directory z) ys)
        (ap (λ (z : Entry). bytes_eq e.path z.path && is_open_directory z) same ∙ (λ i. same_path e.path i && opens i))
    among (y ∷ ys) (inr i) =
        some_right (bytes_eq e.path y.path && is_open_directory y)
        (list_any (λ (z : Entry). bytes_eq e.path z.path && is_open_directory z) ys) (among ys i)

module _ (c to : BytesByPath) (rules : Rules) (source target : List Entry) (found : is_listing target ≡ true)
    (tree : Tree)
    (seen : IsTreeOf target to tree) where
  pub removals_can : (before xs : List Entry) → target ≡ before ++ xs
      → CanApplyAll c (map removal_action (sweep_of rules source xs).removed) tree
  removals_can before [] whole = tt
  removals_can before (x ∷ later) whole =
      by_test (stays_in_target rules source (sweep_of rules source later).kept x) refl
      (removals_can (before ++ x ∷ []) later (whole ∙ sym (append_assoc before (x ∷ []) later)))
    where
      listed : is_listing (before ++ x ∷ later) ≡ true
      listed = ap (λ (l : List Entry). is_listing l) (sym whole) ∙ found

      h : can_follow_all before (x ∷ later) ≡ true
      h = both_right (can_follow_all [] before) (can_follow_all before (x ∷ later))
          (sym (all_append [] before (x ∷ later)) ∙ listed)

      in_target : IsIn target x
      in_target = subst (λ (l : List Entry). IsIn l x) (sym whole) (in_right before (x ∷ later) x (inl refl))

      now_is : (p : List ℕ) → tree_after_all c (map removal_action (sweep_of rules source later).removed) tree p
          ≡ (if (sweep_of rules source later).gone p then Nothing else tree p)
      now_is p = after_removals c rules source later tree p

      node_here : tree_after_all c (map removal_action (sweep_of rules source later).removed) tree x.path
          ≡ node_of (to x.path) x.kind
      node_here = now_is x.path
          ∙ (ap (λ (b : Bool). if b then Nothing else tree x.path) (not_yet_removed rules source before x later h)
          ∙ seen.listed x.path x (at_in [] target x found in_target))

      empty : stays_in_target rules source (sweep_of rules source later).kept x ≡ false → is_directory x.kind ≡ true
          → (other : List ℕ)
          → directory_of other ≡ x.path → tree_after_all c (map removal_action (sweep_of rules source later).removed)
          tree
          other ≡ Nothing
      empty test directory other at = now_is other
          ∙ by_gone ((sweep_of rules source later).gone other) refl (entry_of_path target other) refl
        where
          kept_not : (sweep_of rules source later).kept x.path ≡ false
          kept_not = none_right (not rules.delete || x.excluded) ((sweep_of rules source later).kept x.path)
              (none_left (not rules.delete || x.excluded || (sweep_of rules source later).kept x.path)
              (is_in_source (entry_of_path source x.path) x) test)

          inside : x.excluded ≡ false
          inside = none_right (not rules.delete) x.excluded
              (none_left (not rules.delete || x.excluded) ((sweep_of rules source later).kept x.path)
              (none_left (not rules.delete || x.excluded || (sweep_of rules source later).kept x.path)
              (is_in_source (entry_of_path source x.path) x) test))

          opens : is_open_directory x ≡ true
          opens = λ i. directory i && not (inside i)

          by_gone : (g : Bool) → (sweep_of rules source later).gone other ≡ g → (o : Option Entry)
              → entry_of_path target other ≡ o
              → (if g then Nothing else tree other) ≡ Nothing
          by_gone true is o at_o = refl
          by_gone false is None none =
              seen.unlisted other none
              (λ root. not_root [] target x found in_target (sym at ∙ ap (λ (q : List ℕ). directory_of q) root))
              (ap (λ (q : List ℕ). has_open_directory target q) at ∙ open_at target x in_target opens)
          by_gone false is (Some e) at_e =
              let there = in_at target other e at_e in
              let among : IsIn (before ++ x ∷ later) e = subst (λ (l : List Entry). IsIn l e) whole there.0 in
              let to_x : directory_of e.path ≡ x.path = ap (λ (q : List ℕ). directory_of q) (sym there.1) ∙ at in
              elim (gone_or_kept rules source later e (comes_after before x later e listed among to_x)) [
                | inl gone ↦ clash ((sweep_of rules source later).gone other)
                    (ap (λ (q : List ℕ). (sweep_of rules source later).gone q) there.1 ∙ gone) is
                | inr kept ↦ clash ((sweep_of rules source later).kept x.path)
                    (ap (λ (q : List ℕ). (sweep_of rules source later).kept q) (sym to_x) ∙ kept) kept_not
              ]

      can_here : stays_in_target rules source (sweep_of rules source later).kept x ≡ false → (b : Bool)
          → is_directory x.kind ≡ b
          → CanApply (tree_after_all c (map removal_action (sweep_of rules source later).removed) tree) x.path
          (if b then RemoveDirectory else RemoveFile)
      can_here test true directory = (node_here ∙ directory_node (to x.path) x.kind directory, empty test directory)
      can_here test false directory =
          ap (λ (t : Node). is_no_directory t) node_here ∙ no_directory_thing (to x.path) x.kind directory

      by_test : (b : Bool) → stays_in_target rules source (sweep_of rules source later).kept x ≡ b
          → CanApplyAll c (map removal_action (sweep_of rules source later).removed) tree
          → CanApplyAll c (map removal_action (sweep_by b (sweep_of rules source later) x).removed) tree
      by_test true test more = more
      by_test false test more =
          subst (λ (l : List Action). CanApplyAll c l tree) (sym (map-append removal_action
          (sweep_of rules source later).removed (x ∷ [])))
          (can_append c (map removal_action (sweep_of rules source later).removed) (removal_action x ∷ []) tree more
          (can_here test (is_directory x.kind) refl, tt))
