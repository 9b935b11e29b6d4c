-- Without exceptions the target is a mirror of the source.
use Rattle.std.proofs.Common.{◌≡◌, ◌&&◌, ◌||◌, ◌⊎◌, ℕ, Bool, true, false, not, List, [], ◌∷◌, ◌++◌, ◌∙◌, Option, Some, None, refl, sym, ap, subst, inl, inr, if◌then◌else◌}
use Rattle.std.specs.Str.{bytes_eq}
use Rattle.std.proofs.lemmas.List.{append_assoc}
use Rattle.transfer_sync.specs.Listings.{can_follow_all, is_listing}
use Rattle.transfer_sync.specs.Entries.{entry_of_path, is_directory, is_same_kind}
use Rattle.transfer_sync.specs.Paths.{Paths, directory_of, no_path, with_path}
use Rattle.transfer_sync.specs.Theorems.{HasRemovalReason, HasStayReason, HaveNoExceptions, IsFinalTree, IsMirror, UnchangedFilesMatch, skips_entry}
use Rattle.transfer_sync.specs.Trees.{BytesByPath, IsTreeOf, Nothing, Tree, tree_after_all}
use Rattle.transfer_sync.specs.Verdicts.{
  SweepValue,
  blocked_after_entries,
  blocked_paths,
  conflicts_of,
  entry_left_at,
  is_conflict,
  is_ignored,
  is_in_source,
  is_in_way,
  is_other_kind,
  stays_in_target,
  sweep_of,
}
use Rattle.transfer_sync.specs.Actions.{actions_of}
use Rattle.transfer_sync.specs.declared.entry.Entry.{Entry}
use Rattle.transfer_sync.specs.declared.entry.Kind.{Kind}
use Rattle.transfer_sync.specs.declared.rules.Rules.{Rules}
use Rattle.transfer_sync.proofs.RemovalLaws.{both_directories}
use Rattle.transfer_sync.proofs.FinalTreeLaws.{final_tree_of, left_parts}
use Rattle.transfer_sync.proofs.ListingLaws.{
  IsIn,
  other_path,
  at_in,
  both_left,
  both_right,
  clash,
  parent_or_root,
  has_parent,
  in_at,
  in_right,
  is_same,
  none,
  none_left,
  not_root,
  not_so,
  one_in,
  one_of,
  same_path,
  some_left,
  some_right,
  tail_listed,
}
use Rattle.transfer_sync.proofs.InSyncLaws.{choice_none}
use Rattle.transfer_sync.proofs.ExcludedLaws.{not_yet_removed}
use Rattle.transfer_sync.proofs.LoopSteps.{all_append}
use Rattle.transfer_sync.proofs.SweepLaws.{gone_is}

abbrev sweep_by : Bool → SweepValue → Entry → SweepValue
sweep_by t w x = if t then record w { kept = with_path w.kept (directory_of x.path) }
    else record w { gone = with_path w.gone x.path; removed = w.removed ++ x ∷ [] }

-- Something that stays is in the directory.
pub record IsKept (rules : Rules) (source xs : List Entry) (p : List ℕ) : Type 0 where
  pub entry : Entry
  pub among : IsIn xs entry
  pub at : directory_of entry.path ≡ p
  pub stays_there : (sweep_of rules source xs).gone entry.path ≡ false

pub kept_why : (rules : Rules) (source before xs : List Entry) (p : List ℕ) → can_follow_all before xs ≡ true
    → (sweep_of rules source xs).kept p ≡ true → IsKept rules source xs p
kept_why rules source before [] p h is = absurd cc
kept_why rules source before (x ∷ later) p h is =
    by_test (stays_in_target rules source (sweep_of rules source later).kept x) refl is
    (λ k. kept_why rules source (before ++ x ∷ []) later p (tail_listed before x later h) k)
  where
    wide : (b : Bool) → stays_in_target rules source (sweep_of rules source later).kept x ≡ b
        → IsKept rules source later p
        → IsKept rules source (x ∷ later) p
    wide b test k = record {
      entry = k.entry;
      among = inr k.among;
      at = k.at;
      stays_there = by_b b test;
    }
      where
        by_b : (c : Bool) → stays_in_target rules source (sweep_of rules source later).kept x ≡ c
            → (sweep_of rules source (x ∷ later)).gone (k.entry).path ≡ false
        by_b true is_c = ap (λ (d : Bool). (sweep_by d (sweep_of rules source later) x).gone (k.entry).path) is_c
            ∙ k.stays_there
        by_b false is_c = ap (λ (d : Bool). (sweep_by d (sweep_of rules source later) x).gone (k.entry).path) is_c
            ∙ none ((sweep_of rules source later).gone (k.entry).path) (bytes_eq (k.entry).path x.path) k.stays_there
            (other_path before x later k.entry h k.among)

    by_test : (b : Bool) → stays_in_target rules source (sweep_of rules source later).kept x ≡ b
        → (sweep_by b (sweep_of rules source later) x).kept p ≡ true
        → ((sweep_of rules source later).kept p ≡ true → IsKept rules source later p)
        → IsKept rules source (x ∷ later) p
    by_test true test k before_it =
        elim (one_of ((sweep_of rules source later).kept p) (bytes_eq p (directory_of x.path)) k) [
          | inl old ↦ wide true test (before_it old)
          | inr here ↦ record {
            entry = x;
            among = inl refl;
            at = sym (is_same p (directory_of x.path) here);
            stays_there = ap (λ (d : Bool). (sweep_by d (sweep_of rules source later) x).gone x.path) test
                ∙ not_yet_removed rules source before x later h;
          }
        ]
    by_test false test k before_it = wide false test (before_it k)

module _ (rules : Rules) (source target : List Entry) (listed : is_listing source ≡ true)
    (found : is_listing target ≡ true)
    (deletes : rules.delete ≡ true) (plain : HaveNoExceptions source target) where
  -- If the source has an entry of a directory of the target, it has the directory.
  in_source : (x c : Entry) → IsIn target x → IsIn target c → directory_of c.path ≡ x.path
      → (o : Option Entry) → entry_of_path source c.path ≡ o → is_in_source o c ≡ true
      → is_in_source (entry_of_path source x.path) x ≡ true
  in_source x c ix ic at None at_s wanted = absurd cc
  in_source x c ix ic at (Some s) at_s wanted =
      let s_in = in_at source c.path s at_s in
      let to_x : directory_of s.path ≡ x.path = ap (λ (q : List ℕ). directory_of q) (sym s_in.1) ∙ at in
      elim (parent_or_root source (directory_of s.path) (has_parent [] source s listed s_in.0)) [
        | inl root ↦ absurd (not_root [] target x found ix (sym to_x ∙ root))
        | inr f ↦
            elim (parent_or_root target (directory_of c.path) (has_parent [] target c found ic)) [
              | inl root ↦ absurd (not_root [] target x found ix (sym at ∙ root))
              | inr g ↦
                  let one : g.parent ≡ x = one_in [] target g.parent x found g.among ix (g.at ∙ at) in
                  let directory : is_directory x.kind ≡ true =
                  ap (λ (y : Entry). is_directory y.kind) (sym one) ∙ both_left (is_directory (g.parent).kind)
                  (not (g.parent).excluded) g.opens in
                  let f_directory : is_directory (f.parent).kind ≡ true =
                  both_left (is_directory (f.parent).kind) (not (f.parent).excluded) f.opens in
                  let inside : (f.parent).excluded ≡ false = not_so (f.parent).excluded
                  (both_right (is_directory (f.parent).kind) (not (f.parent).excluded) f.opens) in
                  let at_f : entry_of_path source x.path ≡ Some f.parent =
                  ap (λ (q : List ℕ). entry_of_path source q) (sym (f.at ∙ to_x))
                  ∙ at_in [] source f.parent listed f.among
                  in
                  ap (λ (o : Option Entry). is_in_source o x) at_f
                  ∙ (λ i. not (inside i) && both_directories (f.parent).kind x.kind f_directory directory i)
            ]
      ]

  -- What stays is in the source.
  all_wanted : (before xs : List Entry) → target ≡ before ++ xs → (c : Entry) → IsIn xs c
      → (sweep_of rules source xs).gone c.path ≡ false → is_in_source (entry_of_path source c.path) c ≡ true
  all_wanted before [] whole c is stay = absurd is
  all_wanted before (x ∷ later) whole c is stay =
      by_place (λ e i g. all_wanted (before ++ x ∷ []) later (whole ∙ sym (append_assoc before (x ∷ []) later)) e i g)
      is
    where
      h : can_follow_all before (x ∷ later) ≡ true
      h = both_right (can_follow_all [] before) (can_follow_all before (x ∷ later))
          (sym (all_append [] before (x ∷ later)) ∙ (ap (λ (l : List Entry). is_listing l) (sym whole) ∙ found))

      in_target : (e : Entry) → IsIn (x ∷ later) e → IsIn target e
      in_target e i = subst (λ (l : List Entry). IsIn l e) (sym whole) (in_right before (x ∷ later) e i)

      earlier : (b : Bool) → (sweep_by b (sweep_of rules source later) x).gone c.path ≡ false
          → (sweep_of rules source later).gone c.path ≡ false
      earlier true g = g
      earlier false g = none_left ((sweep_of rules source later).gone c.path) (bytes_eq c.path x.path) g

      stays_by : (b : Bool) → stays_in_target rules source (sweep_of rules source later).kept x ≡ b
          → (sweep_by b (sweep_of rules source later) x).gone x.path ≡ false
          → stays_in_target rules source (sweep_of rules source later).kept x ≡ true
      stays_by true test g = test
      stays_by false test g = clash ((sweep_of rules source later).gone x.path || bytes_eq x.path x.path)
          (some_right ((sweep_of rules source later).gone x.path) (bytes_eq x.path x.path) (same_path x.path)) g

      kept_by : (nd ex kept wanted : Bool) → nd ≡ false → ex ≡ false → (nd || ex || kept || wanted) ≡ true
          → (kept ≡ true) ⊎ (wanted ≡ true)
      kept_by true ex kept wanted n e is = absurd cc
      kept_by false true kept wanted n e is = absurd cc
      kept_by false false true wanted n e is = inl refl
      kept_by false false false wanted n e is = inr is

      here : ((e : Entry) → IsIn later e → (sweep_of rules source later).gone e.path ≡ false
          → is_in_source (entry_of_path source e.path) e ≡ true)
          → (sweep_of rules source (x ∷ later)).gone x.path ≡ false → is_in_source (entry_of_path source x.path) x
          ≡ true
      here before_it g =
          elim (kept_by (not rules.delete) x.excluded ((sweep_of rules source later).kept x.path)
          (is_in_source (entry_of_path source x.path) x)
          (λ i. not (deletes i)) (plain.from_target x.path x (at_in [] target x found (in_target x (inl refl))))
          (stays_by (stays_in_target rules source (sweep_of rules source later).kept x) refl g)) [
            | inl kept ↦
                let k = kept_why rules source (before ++ x ∷ []) later x.path (tail_listed before x later h) kept in
                in_source x k.entry (in_target x (inl refl)) (in_target k.entry (inr k.among)) k.at
                (entry_of_path source (k.entry).path) refl
                (before_it k.entry k.among k.stays_there)
            | inr wanted ↦ wanted
          ]

      by_place : ((e : Entry) → IsIn later e → (sweep_of rules source later).gone e.path ≡ false
          → is_in_source (entry_of_path source e.path) e ≡ true)
          → IsIn (x ∷ later) c → is_in_source (entry_of_path source c.path) c ≡ true
      by_place before_it (inl same) =
          subst (λ (y : Entry). (sweep_of rules source (x ∷ later)).gone y.path ≡ false
          → is_in_source (entry_of_path source y.path) y ≡ true) same
          (here before_it) stay
      by_place before_it (inr late) =
          before_it c late (earlier (stays_in_target rules source (sweep_of rules source later).kept x) stay)

  clear : (s : Entry) → IsIn source s → (o : Option Entry) → entry_left_at (sweep_of rules source target).gone target
      s.path ≡ o
      → is_in_way o s.kind ≡ false
  clear s is None left = refl
  clear s is (Some t) left =
      let parts = left_parts ((sweep_of rules source target).gone s.path) (entry_of_path target s.path) t left in
      let there = in_at target s.path t parts.1 in
      let wanted : is_in_source (entry_of_path source t.path) t ≡ true =
      all_wanted [] target refl t there.0 (ap (λ (q : List ℕ). (sweep_of rules source target).gone q) (sym there.1)
      ∙ parts.0) in
      let at_s : entry_of_path source t.path ≡ Some s =
      ap (λ (q : List ℕ). entry_of_path source q) (sym there.1) ∙ at_in [] source s listed is in
      let same : is_same_kind s.kind t.kind ≡ true =
      both_right (not s.excluded) (is_same_kind s.kind t.kind) (ap (λ (o : Option Entry). is_in_source o t) (sym at_s)
      ∙ wanted) in
      (λ i. plain.from_target s.path t parts.1 i || not (same i))

  out : (s : Entry) → IsIn source s → is_ignored s ≡ false
  out s is = plain.from_source s.path s (at_in [] source s listed is)

  none_blocked : (xs : List Entry) → ((e : Entry) → IsIn xs e → IsIn source e)
      → blocked_after_entries (sweep_of rules source target).gone target no_path xs ≡ no_path
  none_blocked [] all = refl
  none_blocked (x ∷ xs) all =
      ap (λ (b : Paths). blocked_after_entries (sweep_of rules source target).gone target b xs)
      (λ i. if out x (all x (inl refl)) i || false
      || clear x (all x (inl refl)) (entry_left_at (sweep_of rules source target).gone target x.path) refl i then
      with_path no_path x.path else no_path)
      ∙ none_blocked xs (λ e j. all e (inr j))

  not_skipped : (s : Entry) → IsIn source s → skips_entry rules source target s ≡ false
  not_skipped s is = λ i. out s is i || none_blocked source (λ e j. j) i (directory_of s.path)
      || clear s is (entry_left_at (sweep_of rules source target).gone target s.path) refl i

  pub mirror : (from to : BytesByPath) (tree : Tree) → IsTreeOf target to tree
      → UnchangedFilesMatch rules source target from to
      → IsMirror source target from (tree_after_all from (actions_of rules source target) tree)
  mirror from to tree seen trusts = record {
    source_paths = λ path s at. ends.synced trusts path s at (not_skipped s (in_at source path s at).0);
    extra_paths = λ path t at none_s. ends.others path none_s ∙ by_gone path t at none_s
        ((sweep_of rules source target).gone path) refl;
  }
    where
      ends : IsFinalTree rules source target from to tree (tree_after_all from (actions_of rules source target) tree)
      ends = final_tree_of rules source target listed from to tree seen

      by_gone : (path : List ℕ) (t : Entry) → entry_of_path target path ≡ Some t → entry_of_path source path ≡ None
          → (g : Bool)
          → (sweep_of rules source target).gone path ≡ g → (if g then Nothing else tree path) ≡ Nothing
      by_gone path t at none_s true is = refl
      by_gone path t at none_s false is =
          let there = in_at target path t at in
          let wanted : is_in_source (entry_of_path source t.path) t ≡ true =
          all_wanted [] target refl t there.0 (ap (λ (q : List ℕ). (sweep_of rules source target).gone q) (sym there.1)
          ∙ is) in
          let none_t : entry_of_path source t.path ≡ None = ap (λ (q : List ℕ). entry_of_path source q) (sym there.1)
          ∙ none_s in
          clash (is_in_source (entry_of_path source t.path) t) wanted
          (ap (λ (o : Option Entry). is_in_source o t) none_t)

  pub no_conflicts : conflicts_of rules source target ≡ []
  no_conflicts = choice_none
      (is_conflict (sweep_of rules source target).gone target (blocked_paths rules source target))
      (λ (e : Entry). e.path) source
      (λ e is. and_none (not (is_ignored e || blocked_paths rules source target (directory_of e.path)))
      (is_other_kind (entry_left_at (sweep_of rules source target).gone target e.path) e.kind)
      (no_other (entry_left_at (sweep_of rules source target).gone target e.path) e.kind
      (clear e is (entry_left_at (sweep_of rules source target).gone target e.path) refl)))
    where
      and_none : (a b : Bool) → b ≡ false → (a && b) ≡ false
      and_none true b is = is
      and_none false b is = refl

      no_other : (o : Option Entry) (k : Kind) → is_in_way o k ≡ false → is_other_kind o k ≡ false
      no_other None k is = refl
      no_other (Some t) k is = by_two t.excluded (not (is_same_kind k t.kind)) is
        where
          by_two : (a b : Bool) → (a || b) ≡ false → (not a && b) ≡ false
          by_two true b is_t = absurd cc
          by_two false b is_f = is_f

-- ---- Why an entry is removed, and why it stays

reason_by : (nd ex kept wanted : Bool) → (nd || ex || kept || wanted) ≡ true
    → ((nd || ex || wanted) ≡ true) ⊎ (kept ≡ true)
reason_by true ex kept wanted is = inl refl
reason_by false true kept wanted is = inl refl
reason_by false false true wanted is = inr refl
reason_by false false false wanted is = inl is

stay_why : (rules : Rules) (source xs : List Entry) (t : Entry) → IsIn xs t → (sweep_of rules source xs).gone t.path
    ≡ false
    → ((not rules.delete || t.excluded || is_in_source (entry_of_path source t.path) t) ≡ true)
    ⊎ ((sweep_of rules source xs).kept t.path ≡ true)
stay_why rules source [] t is stay = absurd is
stay_why rules source (x ∷ later) t (inl same) stay =
    subst (λ (y : Entry). (sweep_of rules source (x ∷ later)).gone y.path ≡ false
    → ((not rules.delete || y.excluded || is_in_source (entry_of_path source y.path) y) ≡ true)
    ⊎ ((sweep_of rules source (x ∷ later)).kept y.path ≡ true)) same
    (λ g. here (stays_in_target rules source (sweep_of rules source later).kept x) refl g) stay
  where
    here : (b : Bool) → stays_in_target rules source (sweep_of rules source later).kept x ≡ b
        → (sweep_by b (sweep_of rules source later) x).gone x.path ≡ false
        → ((not rules.delete || x.excluded || is_in_source (entry_of_path source x.path) x) ≡ true)
        ⊎ ((sweep_by b (sweep_of rules source later) x).kept x.path ≡ true)
    here true test g =
        elim (reason_by (not rules.delete) x.excluded ((sweep_of rules source later).kept x.path)
        (is_in_source (entry_of_path source x.path) x) test) [
          | inl why ↦ inl why
          | inr kept ↦ inr (some_left ((sweep_of rules source later).kept x.path)
              (bytes_eq x.path (directory_of x.path)) kept)
        ]
    here false test g = clash ((sweep_of rules source later).gone x.path || bytes_eq x.path x.path)
        (some_right ((sweep_of rules source later).gone x.path) (bytes_eq x.path x.path) (same_path x.path)) g
stay_why rules source (x ∷ later) t (inr is) stay =
    by_test (stays_in_target rules source (sweep_of rules source later).kept x) stay
    (λ g. stay_why rules source later t is g)
  where
    by_test : (b : Bool) → (sweep_by b (sweep_of rules source later) x).gone t.path ≡ false
        → ((sweep_of rules source later).gone t.path ≡ false
        → ((not rules.delete || t.excluded || is_in_source (entry_of_path source t.path) t) ≡ true)
        ⊎ ((sweep_of rules source later).kept t.path ≡ true))
        → ((not rules.delete || t.excluded || is_in_source (entry_of_path source t.path) t) ≡ true)
        ⊎ ((sweep_by b (sweep_of rules source later) x).kept t.path ≡ true)
    by_test true g before_it = elim (before_it g) [
      | inl why ↦ inl why
      | inr kept ↦ inr (some_left ((sweep_of rules source later).kept t.path) (bytes_eq t.path (directory_of x.path))
          kept)
    ]
    by_test false g before_it =
        before_it (none_left ((sweep_of rules source later).gone t.path) (bytes_eq t.path x.path) g)

pub stay_reason : (rules : Rules) (source target : List Entry) → is_listing target ≡ true → (path : List ℕ) (t : Entry)
    → entry_of_path target path ≡ Some t → (sweep_of rules source target).gone path ≡ false
    → HasStayReason rules source target path t
stay_reason rules source target found path t at stay =
    let there = in_at target path t at in
    elim (stay_why rules source target t there.0 (ap (λ (q : List ℕ). (sweep_of rules source target).gone q)
    (sym there.1) ∙ stay)) [
      | inl why ↦ inl (ap (λ (q : List ℕ). not rules.delete || t.excluded || is_in_source (entry_of_path source q) t)
          there.1
          ∙ why)
      | inr kept ↦
          let k = kept_why rules source [] target t.path found kept in
          inr (k.entry, at_in [] target k.entry found k.among, k.at ∙ sym there.1, k.stays_there)
    ]

pub removal_reason : (rules : Rules) (source target : List Entry) → is_listing target ≡ true → (path : List ℕ)
    → (sweep_of rules source target).gone path ≡ true → HasRemovalReason rules source target path
removal_reason rules source target found path is =
    let g = gone_is rules source target path is in (
      g.entry,
      ap (λ (q : List ℕ). entry_of_path target q) g.at ∙ at_in [] target g.entry found g.among,
      ap (λ (q : List ℕ). not rules.delete || (g.entry).excluded || is_in_source (entry_of_path source q) g.entry) g.at
          ∙ g.goes,
    )
