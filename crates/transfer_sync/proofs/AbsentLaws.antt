-- What the source has and the target lacks after the removals.
use Rattle.std.proofs.Common.{◌≡◌, ◌&&◌, ◌||◌, ℕ, Bool, true, false, not, List, [], ◌∷◌, ◌++◌, ◌∙◌, Option, Some, None, refl, sym, ap, subst, inl, inr, if◌then◌else◌}
use Rattle.std.specs.List.{list_any}
use Rattle.std.specs.Str.{bytes_eq}
use Rattle.std.proofs.lemmas.List.{append_assoc}
use Rattle.transfer_sync.specs.Listings.{can_follow_all, is_listing}
use Rattle.transfer_sync.specs.Entries.{entry_of_path, has_open_directory, is_directory, is_open_directory, is_same_kind}
use Rattle.transfer_sync.specs.Paths.{Paths, directory_of, no_path}
use Rattle.transfer_sync.specs.Trees.{BytesByPath, DirectoryNode, IsTreeOf, Nothing, Tree, node_of, tree_after_all}
use Rattle.transfer_sync.specs.Actions.{actions_of_part, is_in_part, needs_copy, removal_actions}
use Rattle.transfer_sync.specs.Verdicts.{blocked_paths, entry_left_at, is_blocked, is_in_source, is_in_way, sweep_of}
use Rattle.transfer_sync.specs.declared.action.Action.{Action}
use Rattle.transfer_sync.specs.declared.entry.Entry.{Entry}
use Rattle.transfer_sync.specs.declared.rules.Rules.{Rules}
use Rattle.transfer_sync.specs.declared.verdict.Part.{Part}
use Rattle.transfer_sync.proofs.BlockedLaws.{not_blocked}
use Rattle.transfer_sync.proofs.RemovalLaws.{both_directories, directory_node, nothing_there, open_at, same_directory, directory_if_node}
use Rattle.transfer_sync.proofs.FinalTreeLaws.{is_free, left_parts}
use Rattle.transfer_sync.proofs.ListingLaws.{IsIn, at_in, both_left, both_right, clash, head_follower, parent_or_root, in_at, in_either, in_left, in_right, none_left, none_right, not_not, not_root, not_so, same_path, some_left}
use Rattle.transfer_sync.proofs.LoopSteps.{all_append}
use Rattle.transfer_sync.proofs.SweepLaws.{after_removals, gone_is}

module _ (rules : Rules) (source target : List Entry) (listed : is_listing source ≡ true)
    (found : is_listing target ≡ true)
    (from to : BytesByPath) (tree : Tree) (seen : IsTreeOf target to tree) where
  abbrev G : Paths
  G = (sweep_of rules source target).gone

  abbrev B : Paths
  B = blocked_paths rules source target

  abbrev Free : Entry → Type 0
  Free h = is_blocked G target B h ≡ false

  abbrev test : Part → Entry → Bool
  test part = is_in_part rules part G target B

  abbrev of : Part → List Action
  of part = actions_of_part rules part G target B source

  abbrev after : Tree
  after = tree_after_all from (removal_actions rules source target) tree

  after_is : (p : List ℕ) → after p ≡ (if G p then Nothing else tree p)
  after_is p = after_removals from rules source target tree p

  pub free_parent : (e h : Entry) → Free e → IsIn source h → h.path ≡ directory_of e.path → Free h
  free_parent e h free is at =
      not_blocked G target no_path [] source h listed is
      (ap (λ (q : List ℕ). B q) at ∙ (is_free G target B e free).above)

  -- ---- What does not exist

  pub by_left : (h : Entry) (t : Entry) → Free h → entry_left_at G target h.path ≡ Some t
      → (t.excluded ≡ false) × (is_same_kind h.kind t.kind ≡ true)
  by_left h t free left =
      let clear : is_in_way (Some t) h.kind ≡ false =
      ap (λ (o : Option Entry). is_in_way o h.kind) (sym left) ∙ (is_free G target B h free).clear in (
        none_left t.excluded (not (is_same_kind h.kind t.kind)) clear,
        not_not (is_same_kind h.kind t.kind) (none_right t.excluded (not (is_same_kind h.kind t.kind)) clear),
      )

  root_open : has_open_directory target [] ≡ true
  root_open = some_left (bytes_eq [] []) (list_any (λ (e : Entry). bytes_eq [] e.path && is_open_directory e) target)
      (same_path [])

  -- A directory of the source has nothing in the target, is removed there, or is one of the target.
  absent_below : (x h : Entry) → IsIn source x → IsIn source h → h.path ≡ directory_of x.path → is_open_directory h
      ≡ true
      → Free h
      → (entry_of_path target h.path ≡ None → tree h.path ≡ Nothing) → entry_of_path target x.path ≡ None
      → (o : Option Entry) → entry_of_path target h.path ≡ o → (g : Bool) → G h.path ≡ g → tree x.path ≡ Nothing
  absent_below x h ix ih at opens free before none None no_h g is =
      nothing_there tree x.path (seen.in_directory x.path)
      (λ directory. let bad : Nothing ≡ DirectoryNode = sym (before no_h) ∙ (ap (λ (q : List ℕ). tree q) at ∙ directory)
      in absurd cc)
  absent_below x h ix ih at opens free before none (Some t) at_t true is =
      nothing_there tree x.path (seen.in_directory x.path) (λ directory.
      let g = gone_is rules source target h.path is in
      let g_at : entry_of_path target h.path ≡ Some g.entry =
      ap (λ (q : List ℕ). entry_of_path target q) g.at ∙ at_in [] target g.entry found g.among in
      let node : node_of (to h.path) (g.entry).kind ≡ DirectoryNode =
      sym (seen.listed h.path g.entry g_at) ∙ (ap (λ (q : List ℕ). tree q) at ∙ directory) in
      let is_one : is_directory (g.entry).kind ≡ true = directory_if_node (to h.path) (g.entry).kind node in
      let same : is_same_kind h.kind (g.entry).kind ≡ true =
      both_directories h.kind (g.entry).kind (both_left (is_directory h.kind) (not h.excluded) opens) is_one in
      let inside : h.excluded ≡ false = not_so h.excluded (both_right (is_directory h.kind) (not h.excluded) opens) in
      let at_s : entry_of_path source (g.entry).path ≡ Some h =
      ap (λ (q : List ℕ). entry_of_path source q) (sym g.at) ∙ at_in [] source h listed ih in
      let wanted : is_in_source (entry_of_path source (g.entry).path) g.entry ≡ true =
      ap (λ (o : Option Entry). is_in_source o g.entry) at_s ∙ (λ i. not (inside i) && same i) in
      clash (is_in_source (entry_of_path source (g.entry).path) g.entry) wanted
      (none_right (not rules.delete || (g.entry).excluded) (is_in_source (entry_of_path source (g.entry).path) g.entry)
      g.goes))
  absent_below x h ix ih at opens free before none (Some t) at_t false is =
      let left : entry_left_at G target h.path ≡ Some t =
      ap (λ (b : Bool). if b then None else entry_of_path target h.path) is ∙ at_t in
      let l = by_left h t free left in
      let there = in_at target h.path t at_t in
      let directory : is_directory t.kind ≡ true = same_directory h.kind t.kind
      (both_left (is_directory h.kind) (not h.excluded) opens) l.1 in
      let opens_t : is_open_directory t ≡ true = λ i. directory i && not (l.0 i) in
      seen.unlisted x.path none (not_root [] source x listed ix)
      (ap (λ (q : List ℕ). has_open_directory target q) (sym at ∙ there.1) ∙ open_at target t there.0 opens_t)

  at_one : (before : List Entry) (x : Entry) (later : List Entry) → source ≡ before ++ x ∷ later
      → ((h : Entry) → IsIn before h → Free h → entry_of_path target h.path ≡ None → tree h.path ≡ Nothing)
      → Free x → entry_of_path target x.path ≡ None → tree x.path ≡ Nothing
  at_one before x later whole hyp free none =
      elim (parent_or_root before (directory_of x.path) (head_follower before x later h_listed).has_parent) [
        | inl root ↦ seen.unlisted x.path none (not_root [] source x listed ix)
            (ap (λ (q : List ℕ). has_open_directory target q) root ∙ root_open)
        | inr parent ↦
            let ih : IsIn source parent.parent =
            subst (λ (l : List Entry). IsIn l parent.parent) (sym whole)
            (in_left before (x ∷ later) parent.parent parent.among) in
            let hf : Free parent.parent = free_parent x parent.parent free ih parent.at in
            absent_below x parent.parent ix ih parent.at parent.opens hf (hyp parent.parent parent.among hf) none
            (entry_of_path target (parent.parent).path) refl (G (parent.parent).path) refl
      ]
    where
      h_listed : can_follow_all before (x ∷ later) ≡ true
      h_listed = both_right (can_follow_all [] before) (can_follow_all before (x ∷ later))
          (sym (all_append [] before (x ∷ later)) ∙ (ap (λ (l : List Entry). is_listing l) (sym whole) ∙ listed))

      ix : IsIn source x
      ix = subst (λ (l : List Entry). IsIn l x) (sym whole) (in_right before (x ∷ later) x (inl refl))

  cleared_all : (before xs : List Entry) → source ≡ before ++ xs
      → ((h : Entry) → IsIn before h → Free h → entry_of_path target h.path ≡ None → tree h.path ≡ Nothing)
      → (e : Entry) → IsIn xs e → Free e → entry_of_path target e.path ≡ None → tree e.path ≡ Nothing
  cleared_all before [] whole hyp e is = absurd is
  cleared_all before (x ∷ later) whole hyp e (inl same) =
      subst (λ (y : Entry). Free y → entry_of_path target y.path ≡ None → tree y.path ≡ Nothing) same
      (at_one before x later whole hyp)
  cleared_all before (x ∷ later) whole hyp e (inr is) =
      cleared_all (before ++ x ∷ []) later (whole ∙ sym (append_assoc before (x ∷ []) later))
      (λ h i. elim (in_either before (x ∷ []) h i) [
        | inl old ↦ hyp h old
        | inr (inl same) ↦ subst (λ (y : Entry). Free y → entry_of_path target y.path ≡ None → tree y.path ≡ Nothing)
            same
            (at_one before x later whole hyp)
        | inr (inr nowhere) ↦ absurd nowhere
      ]) e is

  pub cleared : (e : Entry) → IsIn source e → Free e → entry_left_at G target e.path ≡ None → after e.path ≡ Nothing
  cleared e is free left = after_is e.path ∙ by_gone (G e.path) refl
    where
      by_gone : (g : Bool) → G e.path ≡ g → (if g then Nothing else tree e.path) ≡ Nothing
      by_gone true gone = refl
      by_gone false gone = cleared_all [] source refl (λ h i. absurd i) e is free
          (ap (λ (b : Bool). if b then None else entry_of_path target e.path) (sym gone) ∙ left)

  pub left_node : (e t : Entry) → Free e → entry_left_at G target e.path ≡ Some t → after e.path
      ≡ node_of (to e.path) t.kind
  left_node e t free left =
      let parts = left_parts (G e.path) (entry_of_path target e.path) t left in
      after_is e.path ∙ (ap (λ (b : Bool). if b then Nothing else tree e.path) parts.0 ∙ seen.listed e.path t parts.1)

  pub directory_there : (h : Entry) → IsIn source h → Free h → is_directory h.kind ≡ true → (o : Option Entry)
      → entry_left_at G target h.path ≡ o
      → needs_copy rules o h.kind ≡ false → after h.path ≡ DirectoryNode
  directory_there h is free directory None left made = absurd cc
  directory_there h is free directory (Some t) left made =
      left_node h t free left ∙ directory_node (to h.path) t.kind
      (same_directory h.kind t.kind directory (by_left h t free left).1)

  pub after_root : after [] ≡ DirectoryNode
  after_root = after_is [] ∙ (ap (λ (b : Bool). if b then Nothing else tree []) (by_gone (G []) refl) ∙ seen.root)
    where
      by_gone : (g : Bool) → G [] ≡ g → G [] ≡ false
      by_gone false is = is
      by_gone true is = let g = gone_is rules source target [] is in
          absurd (not_root [] target g.entry found g.among (sym g.at))
