-- What is created can be created after the actions before it.
use Rattle.std.proofs.Common.{◌≡◌, ◌&&◌, ℕ, Bool, true, false, not, List, [], ◌∷◌, ◌++◌, ◌∙◌, Option, Some, None, refl, sym, ap, subst, inl, inr, if◌then◌else◌}
use Rattle.std.specs.Str.{bytes_eq}
use Rattle.std.proofs.lemmas.List.{append_assoc}
use Rattle.transfer_sync.specs.Listings.{can_follow_all, has_entry, is_listing}
use Rattle.transfer_sync.specs.Entries.{is_directory, is_file, is_link, is_same_kind}
use Rattle.transfer_sync.specs.Paths.{Paths, directory_of}
use Rattle.transfer_sync.specs.Trees.{
  BytesByPath,
  CanApply,
  CanApplyAll,
  DirectoryNode,
  IsTreeOf,
  Node,
  Nothing,
  Tree,
  after_step,
  has_attributes,
  may_have_file,
  may_have_link,
  node_of,
  tree_after,
  tree_after_all,
}
use Rattle.transfer_sync.specs.Actions.{
  action_of,
  actions_after_removals,
  actions_of,
  actions_of_part,
  has_directory_mode,
  has_part_action,
  is_in_part,
  needs_attributes,
  needs_copy,
  removal_actions,
  step_of,
}
use Rattle.transfer_sync.specs.Verdicts.{blocked_paths, choice_of, entry_left_at, has_other_attributes, is_blocked, is_other_content, sweep_of}
use Rattle.transfer_sync.specs.declared.action.Action.{Action}
use Rattle.transfer_sync.specs.declared.action.Step.TheVariants.{MakeDirectory, SetAttributes}
use Rattle.transfer_sync.specs.declared.entry.Entry.{Entry}
use Rattle.transfer_sync.specs.declared.entry.Kind.{Kind}
use Rattle.transfer_sync.specs.declared.rules.Rules.{Rules}
use Rattle.transfer_sync.specs.declared.verdict.Part.{Part}
use Rattle.transfer_sync.specs.declared.verdict.Part.TheVariants.{Directories, Files, Links, Attributes}
use Rattle.transfer_sync.proofs.RemovalLaws.{file_fits, file_no_directory, directory_as_is, directory_no_file, link_fits, link_no_file, link_no_directory, mode_node, removals_can, touched_node}
use Rattle.transfer_sync.proofs.FinalTreeLaws.{done_by, free_end, has_is, part_at, part_off}
use Rattle.transfer_sync.proofs.ListingLaws.{IsIn, other_path, both_left, both_right, clash, eq_path, head_follower, parent_or_root, has_parent, in_either, in_left, in_right, is_same, not_root, not_so, one_in, tail_listed}
use Rattle.transfer_sync.proofs.LoopSteps.{all_append}
use Rattle.transfer_sync.proofs.SweepLaws.{applied_append, can_append}
use Rattle.transfer_sync.proofs.AbsentLaws.{
  free_parent as free_parent_before,
  by_left as by_left_before,
  cleared as cleared_before,
  left_node as left_node_before,
  directory_there as directory_there_before,
  after_root as after_root_before,
}

not_at : (p q : List ℕ) → (p ≡ q → ⊥) → bytes_eq p q ≡ false
not_at p q distinct_path = by_test (bytes_eq p q) refl
  where
    by_test : (t : Bool) → bytes_eq p q ≡ t → bytes_eq p q ≡ false
    by_test false is = is
    by_test true is = absurd (distinct_path (is_same p q is))

out_of : (a b m : Bool) → b ≡ false → (not a && (b && m)) ≡ false
out_of true b m is = refl
out_of false true m is = absurd cc
out_of false false m is = refl

-- A directory that is not created, although something is done for it.
not_made : (a b m : Bool) → a ≡ false → b ≡ true → (not a && (b && m)) ≡ false → m ≡ false
not_made true b m na ib is = absurd cc
not_made false false m na ib is = absurd cc
not_made false true m na ib is = is

done_same : (t : Bool) (bytes : List ℕ) (node : Node) → done_by t bytes SetAttributes node ≡ node
done_same true bytes node = refl
done_same false bytes node = refl

module _ (rules : Rules) (source target : List Entry) (listed : is_listing source ≡ true)
    (found : is_listing target ≡ true)
    (from to : BytesByPath) (tree : Tree) (seen : IsTreeOf target to tree) where
  abbrev G : Paths
  G = (sweep_of rules source target).gone

  abbrev B : Paths
  B = blocked_paths rules source target

  abbrev Free : Entry → Type 0
  Free h = is_blocked G target B h ≡ false

  abbrev test : Part → Entry → Bool
  test part = is_in_part rules part G target B

  abbrev of : Part → List Action
  of part = actions_of_part rules part G target B source

  abbrev after : Tree
  after = tree_after_all from (removal_actions rules source target) tree

  free_parent : (e h : Entry) → Free e → IsIn source h → h.path ≡ directory_of e.path → Free h
  free_parent = free_parent_before rules source target listed found from to tree seen

  by_left : (h : Entry) (t : Entry) → Free h → entry_left_at G target h.path ≡ Some t
      → (t.excluded ≡ false) × (is_same_kind h.kind t.kind ≡ true)
  by_left = by_left_before rules source target listed found from to tree seen

  cleared : (e : Entry) → IsIn source e → Free e → entry_left_at G target e.path ≡ None → after e.path ≡ Nothing
  cleared = cleared_before rules source target listed found from to tree seen

  left_node : (e t : Entry) → Free e → entry_left_at G target e.path ≡ Some t → after e.path
      ≡ node_of (to e.path) t.kind
  left_node = left_node_before rules source target listed found from to tree seen

  directory_there : (h : Entry) → IsIn source h → Free h → is_directory h.kind ≡ true → (o : Option Entry)
      → entry_left_at G target h.path ≡ o
      → needs_copy rules o h.kind ≡ false → after h.path ≡ DirectoryNode
  directory_there = directory_there_before rules source target listed found from to tree seen

  after_root : after [] ≡ DirectoryNode
  after_root = after_root_before rules source target listed found from to tree seen

  is_part_free : (part : Part) (e : Entry) → test part e ≡ true → Free e
  is_part_free part e is = not_so (is_blocked G target B e)
      (both_left (not (is_blocked G target B e)) (has_part_action rules part (entry_left_at G target e.path) e.kind) is)

  is_part_due : (part : Part) (e : Entry) → test part e ≡ true
      → has_part_action rules part (entry_left_at G target e.path) e.kind ≡ true
  is_part_due part e is = both_right (not (is_blocked G target B e))
      (has_part_action rules part (entry_left_at G target e.path) e.kind) is

  -- ---- Directories

  new_directory : (e : Entry) → is_directory e.kind ≡ true → (o : Option Entry) → entry_left_at G target e.path ≡ o
      → needs_copy rules o e.kind ≡ true → entry_left_at G target e.path ≡ None
  new_directory e directory None left made = left
  new_directory e directory (Some t) left made = clash (is_other_content rules e.kind t.kind) made
      (directory_as_is rules e.kind t.kind directory)

  directories_can : (before xs : List Entry) (now : Tree) → source ≡ before ++ xs → now [] ≡ DirectoryNode
      → ((h : Entry) → IsIn before h → Free h → is_directory h.kind ≡ true → now h.path ≡ DirectoryNode)
      → ((e : Entry) → IsIn xs e → now e.path ≡ after e.path)
      → CanApplyAll from (choice_of (test Directories) (action_of Directories) xs) now
  directories_can before [] now whole root ready same = tt
  directories_can before (x ∷ later) now whole root ready same =
      by_test (test Directories x) refl
      (λ t. directories_can (before ++ x ∷ []) later t (whole ∙ sym (append_assoc before (x ∷ []) later)))
    where
      h_listed : can_follow_all before (x ∷ later) ≡ true
      h_listed = both_right (can_follow_all [] before) (can_follow_all before (x ∷ later))
          (sym (all_append [] before (x ∷ later)) ∙ (ap (λ (l : List Entry). is_listing l) (sym whole) ∙ listed))

      ix : IsIn source x
      ix = subst (λ (l : List Entry). IsIn l x) (sym whole) (in_right before (x ∷ later) x (inl refl))

      in_directory : Free x → now (directory_of x.path) ≡ DirectoryNode
      in_directory free = elim (parent_or_root before (directory_of x.path)
          (head_follower before x later h_listed).has_parent) [
            | inl at ↦ ap (λ (q : List ℕ). now q) at ∙ root
            | inr parent ↦
                let ih : IsIn source parent.parent =
                subst (λ (l : List Entry). IsIn l parent.parent) (sym whole)
                (in_left before (x ∷ later) parent.parent parent.among) in
                ap (λ (q : List ℕ). now q) (sym parent.at)
                ∙ ready parent.parent parent.among (free_parent x parent.parent free ih parent.at)
                (both_left (is_directory (parent.parent).kind) (not (parent.parent).excluded) parent.opens)
          ]

      made_or : (b : Bool) (node : Node) → node ≡ DirectoryNode → (if b then DirectoryNode else node) ≡ DirectoryNode
      made_or true node is = refl
      made_or false node is = is

      by_test : (b : Bool) → test Directories x ≡ b
          → ((t : Tree) → t [] ≡ DirectoryNode
          → ((h : Entry) → IsIn (before ++ x ∷ []) h → Free h → is_directory h.kind ≡ true → t h.path ≡ DirectoryNode)
          → ((e : Entry) → IsIn later e → t e.path ≡ after e.path)
          → CanApplyAll from (choice_of (test Directories) (action_of Directories) later) t)
          → CanApplyAll from (if b then action_of Directories x ∷ choice_of (test Directories) (action_of Directories)
          later
          else choice_of (test Directories) (action_of Directories) later) now
      by_test true is rest =
          let free = is_part_free Directories x is in
          let due = is_part_due Directories x is in
          let directory : is_directory x.kind ≡ true = both_left (is_directory x.kind)
          (needs_copy rules (entry_left_at G target x.path) x.kind) due in
          let made : needs_copy rules (entry_left_at G target x.path) x.kind ≡ true =
          both_right (is_directory x.kind) (needs_copy rules (entry_left_at G target x.path) x.kind) due in
          let left : entry_left_at G target x.path ≡ None = new_directory x directory (entry_left_at G target x.path)
          refl made in (
            (in_directory free, same x (inl refl) ∙ cleared x ix free left),
            rest (tree_after from (action_of Directories x) now)
                (made_or (bytes_eq [] x.path) (now []) root)
                (λ h i hf hk. elim (in_either before (x ∷ []) h i) [
                  | inl old ↦ made_or (bytes_eq h.path x.path) (now h.path) (ready h old hf hk)
                  | inr (inl is_x) ↦ ap (λ (b : Bool). if b then DirectoryNode else now h.path)
                      (eq_path h.path x.path (ap (λ (y : Entry). y.path) (sym is_x)))
                  | inr (inr nowhere) ↦ absurd nowhere
                ])
                (λ e i. ap (λ (b : Bool). if b then DirectoryNode else now e.path)
                (other_path before x later e h_listed i) ∙ same e (inr i)),
          )
      by_test false is rest =
          rest now root
          (λ h i hf hk. elim (in_either before (x ∷ []) h i) [
            | inl old ↦ ready h old hf hk
            | inr (inl is_x) ↦
                subst (λ (y : Entry). Free y → is_directory y.kind ≡ true → now y.path ≡ DirectoryNode) is_x
                (λ xf xk. same x (inl refl) ∙ directory_there x ix xf xk (entry_left_at G target x.path) refl
                (not_made (is_blocked G target B x) (is_directory x.kind)
                (needs_copy rules (entry_left_at G target x.path) x.kind) xf xk is)) hf hk
            | inr (inr nowhere) ↦ absurd nowhere
          ])
          (λ e i. same e (inr i))

  -- ---- Files and links

  rest_can : (part : Part) (kind_of : Kind → Bool) (fits : Node → Bool)
      → ((k : Kind) → kind_of k ≡ true → is_directory k ≡ false)
      → ((e : Entry) → test part e ≡ true → kind_of e.kind ≡ true)
      → ((t : Tree) (e : Entry) → t (directory_of e.path) ≡ DirectoryNode → fits (t e.path) ≡ true
      → CanApply t e.path (step_of part e.kind))
      → (before xs : List Entry) (now : Tree) → can_follow_all before xs ≡ true
      → ((e : Entry) → IsIn xs e → IsIn source e)
      → now [] ≡ DirectoryNode → ((h : Entry) → IsIn source h → Free h → is_directory h.kind ≡ true → now h.path
      ≡ DirectoryNode)
      → ((e : Entry) → IsIn xs e → test part e ≡ true → fits (now e.path) ≡ true)
      → CanApplyAll from (choice_of (test part) (action_of part) xs) now
  rest_can part kind_of fits apart_kind due can before [] now h sub root ready fit = tt
  rest_can part kind_of fits apart_kind due can before (x ∷ later) now h sub root ready fit =
      by_test (test part x) refl
      (λ t. rest_can part kind_of fits apart_kind due can (before ++ x ∷ []) later t (tail_listed before x later h)
      (λ e i. sub e (inr i)))
    where
      ix : IsIn source x
      ix = sub x (inl refl)

      in_directory : Free x → now (directory_of x.path) ≡ DirectoryNode
      in_directory free = elim (parent_or_root source (directory_of x.path) (has_parent [] source x listed ix)) [
        | inl at ↦ ap (λ (q : List ℕ). now q) at ∙ root
        | inr parent ↦ ap (λ (q : List ℕ). now q) (sym parent.at)
            ∙ ready parent.parent parent.among (free_parent x parent.parent free parent.among parent.at)
            (both_left (is_directory (parent.parent).kind) (not (parent.parent).excluded) parent.opens)
      ]

      elsewhere : (p : List ℕ) (new : Node) → bytes_eq p x.path ≡ false → (if bytes_eq p x.path then new else now p)
          ≡ now p
      elsewhere p new is = ap (λ (b : Bool). if b then new else now p) is

      by_test : (b : Bool) → test part x ≡ b
          → ((t : Tree) → t [] ≡ DirectoryNode → ((q : Entry) → IsIn source q → Free q → is_directory q.kind ≡ true
          → t q.path ≡ DirectoryNode)
          → ((e : Entry) → IsIn later e → test part e ≡ true → fits (t e.path) ≡ true)
          → CanApplyAll from (choice_of (test part) (action_of part) later) t)
          → CanApplyAll from (if b then action_of part x ∷ choice_of (test part) (action_of part) later
          else choice_of (test part) (action_of part) later) now
      by_test true is rest = (
        can now x (in_directory (is_part_free part x is)) (fit x (inl refl) is),
        rest (tree_after from (action_of part x) now)
            (elsewhere [] (after_step (from []) (step_of part x.kind) (now []))
            (not_at [] x.path (λ same. not_root [] source x listed ix (sym same))) ∙ root)
            (λ q iq qf qk.
            elsewhere q.path (after_step (from q.path) (step_of part x.kind) (now q.path))
            (not_at q.path x.path (λ same.
            let one : q ≡ x = one_in [] source q x listed iq ix same in
            clash (is_directory x.kind) (ap (λ (y : Entry). is_directory y.kind) (sym one) ∙ qk)
            (apart_kind x.kind (due x is))))
            ∙ ready q iq qf qk)
            (λ e i te. ap (λ (t : Node). fits t)
            (elsewhere e.path (after_step (from e.path) (step_of part x.kind) (now e.path))
            (other_path before x later e h i))
            ∙ fit e (inr i) te),
      )
      by_test false is rest = rest now root ready (λ e i te. fit e (inr i) te)

  -- ---- Permissions and times

  touched_can : (before xs : List Entry) (now : Tree) → can_follow_all before xs ≡ true
      → ((e : Entry) → IsIn xs e → test Attributes e ≡ true → has_attributes (now e.path) ≡ true)
      → CanApplyAll from (choice_of (test Attributes) (action_of Attributes) xs) now
  touched_can before [] now h fit = tt
  touched_can before (x ∷ later) now h fit =
      by_test (test Attributes x) refl (λ t. touched_can (before ++ x ∷ []) later t (tail_listed before x later h))
    where
      by_test : (b : Bool) → test Attributes x ≡ b
          → ((t : Tree) → ((e : Entry) → IsIn later e → test Attributes e ≡ true → has_attributes (t e.path) ≡ true)
          → CanApplyAll from (choice_of (test Attributes) (action_of Attributes) later) t)
          → CanApplyAll from (if b then action_of Attributes x ∷ choice_of (test Attributes) (action_of Attributes)
          later
          else choice_of (test Attributes) (action_of Attributes) later) now
      by_test true is rest = (
        fit x (inl refl) is,
        rest (tree_after from (action_of Attributes x) now)
            (λ e i te. ap (λ (t : Node). has_attributes t)
            (ap (λ (b : Bool). if b then now e.path else now e.path) (other_path before x later e h i))
            ∙ fit e (inr i) te),
      )
      by_test false is rest = rest now (λ e i te. fit e (inr i) te)

  -- ---- The whole plan

  abbrev with_directories : Tree
  with_directories = tree_after_all from (of Directories) after

  abbrev with_files : Tree
  with_files = tree_after_all from (of Files) with_directories

  abbrev with_links : Tree
  with_links = tree_after_all from (of Links) with_files

  no_root_entry : has_entry source [] ≡ false
  no_root_entry = by_test (has_entry source []) refl
    where
      by_test : (b : Bool) → has_entry source [] ≡ b → has_entry source [] ≡ false
      by_test false is = is
      by_test true is = let f = has_is source [] is in absurd (not_root [] source f.0 listed f.1 (sym f.2))

  -- A part does not change the path of an entry of another kind.
  passes : (part : Part) (now : Tree) (e : Entry) → IsIn source e → test part e ≡ false
      → tree_after_all from (of part) now e.path ≡ now e.path
  passes part now e is out = part_at from (test part) part [] source now e listed is
      ∙ ap (λ (b : Bool). done_by b (from e.path) (step_of part e.kind) (now e.path)) out

  directories_ready : (h : Entry) → IsIn source h → Free h → is_directory h.kind ≡ true → with_directories h.path
      ≡ DirectoryNode
  directories_ready h is free directory =
      part_at from (test Directories) Directories [] source after h listed is ∙ by_test (test Directories h) refl
    where
      by_test : (b : Bool) → test Directories h ≡ b → done_by b (from h.path) MakeDirectory (after h.path)
          ≡ DirectoryNode
      by_test true t = refl
      by_test false t = directory_there h is free directory (entry_left_at G target h.path) refl
          (not_made (is_blocked G target B h) (is_directory h.kind)
          (needs_copy rules (entry_left_at G target h.path) h.kind) free directory t)

  files_ready : (h : Entry) → IsIn source h → Free h → is_directory h.kind ≡ true → with_files h.path ≡ DirectoryNode
  files_ready h is free directory =
      passes Files with_directories h is
      (out_of (is_blocked G target B h) (is_file h.kind) (needs_copy rules (entry_left_at G target h.path) h.kind)
      (directory_no_file h.kind directory))
      ∙ directories_ready h is free directory

  root_directories : with_directories [] ≡ DirectoryNode
  root_directories = part_off from (test Directories) Directories source after [] no_root_entry ∙ after_root

  root_files : with_files [] ≡ DirectoryNode
  root_files = part_off from (test Files) Files source with_directories [] no_root_entry ∙ root_directories

  file_fit : (e : Entry) → IsIn source e → test Files e ≡ true → may_have_file (with_directories e.path) ≡ true
  file_fit e is t =
      ap (λ (x : Node). may_have_file x)
      (passes Directories after e is (out_of (is_blocked G target B e) (is_directory e.kind)
      (needs_copy rules (entry_left_at G target e.path) e.kind)
      (file_no_directory e.kind file)))
      ∙ by_o (entry_left_at G target e.path) refl
    where
      file : is_file e.kind ≡ true
      file = both_left (is_file e.kind) (needs_copy rules (entry_left_at G target e.path) e.kind)
          (is_part_due Files e t)

      by_o : (o : Option Entry) → entry_left_at G target e.path ≡ o → may_have_file (after e.path) ≡ true
      by_o None left = ap (λ (x : Node). may_have_file x) (cleared e is (is_part_free Files e t) left)
      by_o (Some f) left = ap (λ (x : Node). may_have_file x) (left_node e f (is_part_free Files e t) left)
          ∙ file_fits (to e.path) e.kind f.kind file (by_left e f (is_part_free Files e t) left).1

  link_fit : (e : Entry) → IsIn source e → test Links e ≡ true → may_have_link (with_files e.path) ≡ true
  link_fit e is t =
      ap (λ (x : Node). may_have_link x)
      (passes Files with_directories e is (out_of (is_blocked G target B e) (is_file e.kind)
      (needs_copy rules (entry_left_at G target e.path) e.kind)
      (link_no_file e.kind link))
      ∙ passes Directories after e is (out_of (is_blocked G target B e) (is_directory e.kind)
      (needs_copy rules (entry_left_at G target e.path) e.kind)
      (link_no_directory e.kind link)))
      ∙ by_o (entry_left_at G target e.path) refl
    where
      link : is_link e.kind ≡ true
      link = both_left (is_link e.kind) (needs_copy rules (entry_left_at G target e.path) e.kind)
          (is_part_due Links e t)

      by_o : (o : Option Entry) → entry_left_at G target e.path ≡ o → may_have_link (after e.path) ≡ true
      by_o None left = ap (λ (x : Node). may_have_link x) (cleared e is (is_part_free Links e t) left)
      by_o (Some f) left = ap (λ (x : Node). may_have_link x) (left_node e f (is_part_free Links e t) left)
          ∙ link_fits (to e.path) e.kind f.kind link (by_left e f (is_part_free Links e t) left).1

  links_end : (e : Entry) → IsIn source e → Free e
      → with_links e.path ≡ (if needs_copy rules (entry_left_at G target e.path) e.kind then
      node_of (from e.path) e.kind else after e.path)
  links_end e is free =
      sym (done_same (test Attributes e) (from e.path) (with_links e.path))
      ∙ (sym (part_at from (test Attributes) Attributes [] source with_links e listed is)
      ∙ (sym (ap (λ (t : Tree). t e.path) (applied_append from (of Directories)
      (of Files ++ (of Links ++ of Attributes)) after)
      ∙ (ap (λ (t : Tree). t e.path) (applied_append from (of Files) (of Links ++ of Attributes) with_directories)
      ∙ ap (λ (t : Tree). t e.path) (applied_append from (of Links) (of Attributes) with_files)))
      ∙ free_end rules source target from G B listed after e is free))

  attributes_fit : (e : Entry) → IsIn source e → test Attributes e ≡ true → has_attributes (with_links e.path) ≡ true
  attributes_fit e is t =
      ap (λ (x : Node). has_attributes x) (links_end e is (is_part_free Attributes e t))
      ∙ by_o (entry_left_at G target e.path) refl (is_part_due Attributes e t)
    where
      by_o : (o : Option Entry) → entry_left_at G target e.path ≡ o → needs_attributes rules o e.kind ≡ true
          → has_attributes (if needs_copy rules o e.kind then node_of (from e.path) e.kind else after e.path) ≡ true
      by_o None left touched = mode_node (from e.path) e.kind (both_right rules.keep (has_directory_mode e.kind)
          touched)
      by_o (Some f) left touched =
          let first : (rules.keep && not (is_other_content rules e.kind f.kind)) ≡ true =
          both_left (rules.keep && not (is_other_content rules e.kind f.kind)) (has_other_attributes e.kind f.kind)
          touched in
          let as_is : is_other_content rules e.kind f.kind ≡ false =
          not_so (is_other_content rules e.kind f.kind) (both_right rules.keep
          (not (is_other_content rules e.kind f.kind)) first) in
          ap (λ (b : Bool). has_attributes (if b then node_of (from e.path) e.kind else after e.path)) as_is
          ∙ (ap (λ (x : Node). has_attributes x) (left_node e f (is_part_free Attributes e t) left)
          ∙ touched_node (to e.path) e.kind f.kind
          (both_right (rules.keep && not (is_other_content rules e.kind f.kind)) (has_other_attributes e.kind f.kind)
          touched))

  made_can : CanApplyAll from (actions_after_removals rules G target B source) after
  made_can =
      can_append from (of Directories) (of Files ++ (of Links ++ of Attributes)) after
      (directories_can [] source after refl after_root (λ h i. absurd i) (λ e i. refl))
      (can_append from (of Files) (of Links ++ of Attributes) with_directories
      (rest_can Files is_file may_have_file file_no_directory
      (λ e t. both_left (is_file e.kind) (needs_copy rules (entry_left_at G target e.path) e.kind)
      (is_part_due Files e t))
      (λ t e directory fit. (directory, fit)) [] source with_directories listed (λ e i. i) root_directories
      directories_ready file_fit)
      (can_append from (of Links) (of Attributes) with_files
      (rest_can Links is_link may_have_link link_no_directory
      (λ e t. both_left (is_link e.kind) (needs_copy rules (entry_left_at G target e.path) e.kind)
      (is_part_due Links e t))
      (λ t e directory fit. (directory, fit)) [] source with_files listed (λ e i. i) root_files files_ready link_fit)
      (touched_can [] source with_links listed attributes_fit)))

  pub all_applied : CanApplyAll from (actions_of rules source target) tree
  all_applied = can_append from (removal_actions rules source target) (actions_after_removals rules G target B source)
      tree
      (removals_can from to rules source target found tree seen [] target refl) made_can
