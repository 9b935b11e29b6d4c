-- Nothing is done for what is excluded.
use Rattle.std.proofs.Common.{◌≡◌, ◌&&◌, ◌||◌, ◌⊎◌, ℕ, zero, suc, Bool, true, false, not, List, [], ◌∷◌, ◌++◌, ◌∙◌, Option, Some, None, map, refl, sym, ap, subst, inl, inr, if◌then◌else◌}
use Rattle.std.specs.Str.{bytes_eq}
use Rattle.std.proofs.lemmas.List.{append_assoc}
use Rattle.transfer_sync.specs.Listings.{can_follow_all, has_entry, is_listing}
use Rattle.transfer_sync.specs.Entries.{entry_of_path, has_open_directory, is_directory, is_open_directory, is_same_kind}
use Rattle.transfer_sync.specs.Paths.{Paths, directory_of, no_path, with_path}
use Rattle.transfer_sync.specs.Theorems.{HasNoActionAt, directory_above}
use Rattle.transfer_sync.specs.Verdicts.{SweepValue, blocked_after_entries, blocked_paths, entry_left_at, is_blocked, is_ignored, is_in_source, is_in_way, stays_in_target, sweep_of}
use Rattle.transfer_sync.specs.Actions.{action_of, actions_of, actions_of_part, has_part_action, is_in_part, removal_action, removal_actions}
use Rattle.transfer_sync.specs.declared.action.Action.{Action}
use Rattle.transfer_sync.specs.declared.entry.Entry.{Entry}
use Rattle.transfer_sync.specs.declared.entry.Kind.{Kind}
use Rattle.transfer_sync.specs.declared.rules.Rules.{Rules}
use Rattle.transfer_sync.specs.declared.verdict.Part.{Part}
use Rattle.transfer_sync.specs.declared.verdict.Part.TheVariants.{Directories, Files, Links, Attributes}
use Rattle.transfer_sync.proofs.BlockedLaws.{not_blocked}
use Rattle.transfer_sync.proofs.ListingLaws.{
  IsParent,
  IsIn,
  other_path,
  both_left,
  both_right,
  clash,
  eq_path,
  has_in,
  head_follower,
  parent_or_root,
  has_parent,
  in_at,
  in_either,
  is_same,
  none_left,
  none_right,
  not_root,
  not_so,
  one_in,
  some_left,
}
use Rattle.transfer_sync.proofs.InterruptLaws.{IsRemovedEntry, removed_are}
use Rattle.transfer_sync.proofs.SweepLaws.{gone_is, gone_or_kept}
use Rattle.transfer_sync.proofs.LoopSteps.{all_append}

abbrev sweep_by : Bool → SweepValue → Entry → SweepValue
sweep_by t w x = if t then record w { kept = with_path w.kept (directory_of x.path) }
    else record w { gone = with_path w.gone x.path; removed = w.removed ++ x ∷ [] }

-- ---- A directory that is removed

-- No entry is in one that comes after it.
pub no_parent : (before : List Entry) (x : Entry) (later : List Entry) → can_follow_all before (x ∷ later) ≡ true
    → has_open_directory before x.path ≡ true → ⊥
no_parent before x later h opens = elim (parent_or_root before x.path opens) [
  | inl root ↦ not_root before (x ∷ later) x h (inl refl) root
  | inr parent ↦ clash (has_entry before x.path)
      (ap (λ (q : List ℕ). has_entry before q) (sym parent.at) ∙ has_in before parent.parent parent.among)
      (head_follower before x later h).new
]

-- The entries of a directory come after it.
pub comes_after : (before : List Entry) (x : Entry) (later : List Entry) (c : Entry) → is_listing (before ++ x ∷ later)
    ≡ true
    → IsIn (before ++ x ∷ later) c → directory_of c.path ≡ x.path → IsIn later c
comes_after before x later c listed is at =
    elim (in_either before (x ∷ later) c is) [
      | inl early ↦ absurd (no_parent before x later h
          (ap (λ (q : List ℕ). has_open_directory before q) (sym at) ∙ has_parent [] before c first early))
      | inr (inl same) ↦ absurd (no_parent before x later h
          (ap (λ (q : List ℕ). has_open_directory before q) (sym (ap (λ (y : Entry). directory_of y.path) same ∙ at))
          ∙ (head_follower before x later h).has_parent))
      | inr (inr late) ↦ late
    ]
  where
    whole : (can_follow_all [] before && can_follow_all before (x ∷ later)) ≡ true
    whole = sym (all_append [] before (x ∷ later)) ∙ listed

    first : can_follow_all [] before ≡ true
    first = both_left (can_follow_all [] before) (can_follow_all before (x ∷ later)) whole

    h : can_follow_all before (x ∷ later) ≡ true
    h = both_right (can_follow_all [] before) (can_follow_all before (x ∷ later)) whole

pub not_yet_removed : (rules : Rules) (source before : List Entry) (x : Entry) (later : List Entry)
    → can_follow_all before (x ∷ later) ≡ true
    → (sweep_of rules source later).gone x.path ≡ false
not_yet_removed rules source before x later h = by_test ((sweep_of rules source later).gone x.path) refl
  where
    by_test : (t : Bool) → (sweep_of rules source later).gone x.path ≡ t → (sweep_of rules source later).gone x.path
        ≡ false
    by_test false is = is
    by_test true is =
        let g = gone_is rules source later x.path is in
        clash (bytes_eq (g.entry).path x.path) (eq_path (g.entry).path x.path (sym g.at))
        (other_path before x later g.entry h g.among)

-- If a directory is removed, so are its entries.
pub entries_removed : (rules : Rules) (source before xs : List Entry) (h c : Entry) → is_listing (before ++ xs) ≡ true
    → IsIn xs h → (sweep_of rules source xs).gone h.path ≡ true → IsIn (before ++ xs) c → directory_of c.path ≡ h.path
    → (sweep_of rules source xs).gone c.path ≡ true
entries_removed rules source before [] h c listed is gone among at = absurd is
entries_removed rules source before (x ∷ later) h c listed is gone among at =
    by_place (λ late g. entries_removed rules source (before ++ x ∷ []) later h c
    (ap (λ (l : List Entry). is_listing l) moved ∙ listed) late g
    (subst (λ (l : List Entry). IsIn l c) (sym moved) among) at) is
  where
    h_listed : can_follow_all before (x ∷ later) ≡ true
    h_listed = both_right (can_follow_all [] before) (can_follow_all before (x ∷ later))
        (sym (all_append [] before (x ∷ later)) ∙ listed)

    moved : (before ++ x ∷ []) ++ later ≡ before ++ x ∷ later
    moved = append_assoc before (x ∷ []) later

    wide : (b : Bool) → (sweep_of rules source later).gone c.path ≡ true
        → (sweep_by b (sweep_of rules source later) x).gone c.path ≡ true
    wide true g = g
    wide false g = some_left ((sweep_of rules source later).gone c.path) (bytes_eq c.path x.path) g

    older : (b : Bool) → IsIn later h → (sweep_by b (sweep_of rules source later) x).gone h.path ≡ true
        → (sweep_of rules source later).gone h.path ≡ true
    older true late g = g
    older false late g = by_or ((sweep_of rules source later).gone h.path) (bytes_eq h.path x.path)
        (other_path before x later h h_listed late) g
      where
        by_or : (a b : Bool) → b ≡ false → (a || b) ≡ true → a ≡ true
        by_or true b no_b is = refl
        by_or false b no_b is = sym no_b ∙ is

    -- The directory is this one, so its entries come after it.
    here : (b : Bool) → stays_in_target rules source (sweep_of rules source later).kept x ≡ b → x ≡ h
        → (sweep_by b (sweep_of rules source later) x).gone h.path ≡ true → (sweep_of rules source later).gone c.path
        ≡ true
    here true test same g =
        clash ((sweep_of rules source later).gone x.path) (ap (λ (y : Entry). (sweep_of rules source later).gone y.path)
        same ∙ g)
        (not_yet_removed rules source before x later h_listed)
    here false test same g =
        let to_x : directory_of c.path ≡ x.path = at ∙ ap (λ (y : Entry). y.path) (sym same) in
        elim (gone_or_kept rules source later c (comes_after before x later c listed among to_x)) [
          | inl gone_c ↦ gone_c
          | inr kept ↦ clash ((sweep_of rules source later).kept x.path)
              (ap (λ (q : List ℕ). (sweep_of rules source later).kept q) (sym to_x) ∙ kept)
              (none_right (not rules.delete || x.excluded) ((sweep_of rules source later).kept x.path)
              (none_left (not rules.delete || x.excluded || (sweep_of rules source later).kept x.path)
              (is_in_source (entry_of_path source x.path) x) test))
        ]

    by_place : (IsIn later h → (sweep_of rules source later).gone h.path ≡ true
        → (sweep_of rules source later).gone c.path ≡ true)
        → IsIn (x ∷ later) h → (sweep_of rules source (x ∷ later)).gone c.path ≡ true
    by_place before_it (inl same) = wide (stays_in_target rules source (sweep_of rules source later).kept x)
        (here (stays_in_target rules source (sweep_of rules source later).kept x) refl same gone)
    by_place before_it (inr late) = wide (stays_in_target rules source (sweep_of rules source later).kept x)
        (before_it late (older (stays_in_target rules source (sweep_of rules source later).kept x) late gone))

-- ---- The ways up

-- The path is the root, or that of an entry with this property.
abbrev IsRootOr : (Entry → Type 0) → List Entry → List ℕ → Type 0
IsRootOr P xs p = (p ≡ []) ⊎ ((h : Entry) × IsIn xs h × (p ≡ h.path) × P h)

abbrev IsNotExcluded : Entry → Type 0
IsNotExcluded h = h.excluded ≡ false

open_stays : (h : Entry) → is_open_directory h ≡ true → h.excluded ≡ false
open_stays h is = not_so h.excluded (both_right (is_directory h.kind) (not h.excluded) is)

up_target : (target : List Entry) → is_listing target ≡ true → (r : Entry) → IsIn target r → r.excluded ≡ false
    → (n : ℕ)
    → IsRootOr IsNotExcluded target (directory_above n r.path)
up_target target listed r is stay zero = inr (r, is, refl, stay)
up_target target listed r is stay (suc n) = elim (up_target target listed r is stay n) [
  | inl root ↦ inl (ap (λ (q : List ℕ). directory_of q) root)
  | inr found ↦
      elim (parent_or_root target (directory_of (found.0).path) (has_parent [] target found.0 listed found.1)) [
        | inl root ↦ inl (ap (λ (q : List ℕ). directory_of q) found.2 ∙ root)
        | inr parent ↦ inr (
          parent.parent,
          parent.among,
          ap (λ (q : List ℕ). directory_of q) found.2 ∙ sym parent.at,
          open_stays parent.parent parent.opens,
        )
      ]
]

up_source : (gone : Paths) (target source : List Entry) → is_listing source ≡ true → (e : Entry) → IsIn source e
    → is_blocked gone target (blocked_after_entries gone target no_path source) e ≡ false → (n : ℕ)
    → IsRootOr (λ h. is_blocked gone target (blocked_after_entries gone target no_path source) h ≡ false) source
    (directory_above n e.path)
up_source gone target source listed e is free zero = inr (e, is, refl, free)
up_source gone target source listed e is free (suc n) = elim (up_source gone target source listed e is free n) [
  | inl root ↦ inl (ap (λ (q : List ℕ). directory_of q) root)
  | inr found ↦
      elim (parent_or_root source (directory_of (found.0).path) (has_parent [] source found.0 listed found.1)) [
        | inl root ↦ inl (ap (λ (q : List ℕ). directory_of q) found.2 ∙ root)
        | inr parent ↦ inr (
          parent.parent,
          parent.among,
          ap (λ (q : List ℕ). directory_of q) found.2 ∙ sym parent.at,
          above found.0 found.3 parent,
        )
      ]
]
  where
    above : (h : Entry) → is_blocked gone target (blocked_after_entries gone target no_path source) h ≡ false
        → (parent : IsParent source (directory_of h.path))
        → is_blocked gone target (blocked_after_entries gone target no_path source) parent.parent ≡ false
    above h free parent =
        not_blocked gone target no_path [] source parent.parent listed parent.among
        (ap (λ (q : List ℕ). blocked_after_entries gone target no_path source q) parent.at
        ∙ none_right (is_ignored h) (blocked_after_entries gone target no_path source (directory_of h.path))
        (none_left (is_ignored h || blocked_after_entries gone target no_path source (directory_of h.path))
        (is_in_way (entry_left_at gone target h.path) h.kind) free))

-- ---- No action is at the path

no_action_append : (xs ys : List Action) (p : List ℕ) → HasNoActionAt xs p → HasNoActionAt ys p
    → HasNoActionAt (xs ++ ys) p
no_action_append [] ys p a b = b
no_action_append (x ∷ xs) ys p a b = (a.0, no_action_append xs ys p a.1 b)

not_at : (p q : List ℕ) → (p ≡ q → ⊥) → bytes_eq p q ≡ false
not_at p q distinct_path = by_test (bytes_eq p q) refl
  where
    by_test : (t : Bool) → bytes_eq p q ≡ t → bytes_eq p q ≡ false
    by_test false is = is
    by_test true is = absurd (distinct_path (is_same p q is))

module _ (rules : Rules) (source target : List Entry) (listed : is_listing source ≡ true)
    (found : is_listing target ≡ true)
    (path : List ℕ) (t : Entry) (at : entry_of_path target path ≡ Some t) (out : t.excluded ≡ true) where
  there : IsIn target t
  there = (in_at target path t at).0

  its_path : path ≡ t.path
  its_path = (in_at target path t at).1

  -- An entry of the target that is not excluded has another path.
  other_entry : (h : Entry) → IsIn target h → path ≡ h.path → h.excluded ≡ false → ⊥
  other_entry h is same stay =
      let one : t ≡ h = one_in [] target t h found there is (sym its_path ∙ same) in
      clash t.excluded out (ap (λ (y : Entry). y.excluded) one ∙ stay)

  not_up_root : (p : List ℕ) → p ≡ path → p ≡ [] → ⊥
  not_up_root p is root = not_root [] target t found there (sym its_path ∙ (sym is ∙ root))

  goes_in : (r : Entry) → (not rules.delete || r.excluded || is_in_source (entry_of_path source r.path) r) ≡ false
      → r.excluded ≡ false
  goes_in r goes = none_right (not rules.delete) r.excluded
      (none_left (not rules.delete || r.excluded) (is_in_source (entry_of_path source r.path) r) goes)

  pub stays_there : (sweep_of rules source target).gone path ≡ false
  stays_there = by_test ((sweep_of rules source target).gone path) refl
    where
      by_test : (b : Bool) → (sweep_of rules source target).gone path ≡ b → (sweep_of rules source target).gone path
          ≡ false
      by_test false is = is
      by_test true is =
          let g = gone_is rules source target path is in
          absurd (other_entry g.entry g.among g.at (goes_in g.entry g.goes))

  no_removal_below : (other : List ℕ) (n : ℕ) → directory_above n other ≡ path → (rs : List Entry)
      → ((r : Entry) → IsIn rs r → IsRemovedEntry rules source target r) → HasNoActionAt (map removal_action rs) other
  no_removal_below other n is [] all = tt
  no_removal_below other n is (r ∷ rs) all = (
    not_at other r.path (λ same. by_way same (up_target target found r (all r (inl refl)).among
        (goes_in r (all r (inl refl)).goes) n)),
    no_removal_below other n is rs (λ q i. all q (inr i)),
  )
    where
      by_way : other ≡ r.path → IsRootOr IsNotExcluded target (directory_above n r.path) → ⊥
      by_way same (inl root) = not_up_root (directory_above n r.path)
          (ap (λ (q : List ℕ). directory_above n q) (sym same) ∙ is) root
      by_way same (inr way) = other_entry way.0 way.1 (sym is ∙ (ap (λ (q : List ℕ). directory_above n q) same ∙ way.2))
          way.3

  -- An entry of the source for which something is done has another path.
  other_source : (h : Entry) → path ≡ h.path → is_blocked (sweep_of rules source target).gone target
      (blocked_paths rules source target) h ≡ false → ⊥
  other_source h same free =
      let way : is_in_way (entry_left_at (sweep_of rules source target).gone target h.path) h.kind ≡ false =
      none_right (is_ignored h || blocked_paths rules source target (directory_of h.path))
      (is_in_way (entry_left_at (sweep_of rules source target).gone target h.path) h.kind) free in
      let left : entry_left_at (sweep_of rules source target).gone target h.path ≡ Some t =
      ap (λ (q : List ℕ). entry_left_at (sweep_of rules source target).gone target q) (sym same)
      ∙ (ap (λ (b : Bool). if b then None else entry_of_path target path) stays_there ∙ at) in
      clash (is_in_way (entry_left_at (sweep_of rules source target).gone target h.path) h.kind)
      (ap (λ (o : Option Entry). is_in_way o h.kind) left ∙ in_way h.kind) way
    where
      in_way : (k : Kind) → is_in_way (Some t) k ≡ true
      in_way k = some_left t.excluded (not (is_same_kind k t.kind)) out

  no_part_action_below : (other : List ℕ) (n : ℕ) → directory_above n other ≡ path → (part : Part) → (xs : List Entry)
      → ((e : Entry) → IsIn xs e → IsIn source e)
      → HasNoActionAt (actions_of_part rules part (sweep_of rules source target).gone target
      (blocked_paths rules source target) xs) other
  no_part_action_below other n is part [] all = tt
  no_part_action_below other n is part (x ∷ xs) all =
      by_test (is_in_part rules part (sweep_of rules source target).gone target (blocked_paths rules source target) x)
      refl
      (no_part_action_below other n is part xs (λ e i. all e (inr i)))
    where
      by_way : other ≡ x.path
          → IsRootOr (λ h. is_blocked (sweep_of rules source target).gone target (blocked_paths rules source target) h
          ≡ false) source (directory_above n x.path) → ⊥
      by_way same (inl root) = not_up_root (directory_above n x.path)
          (ap (λ (q : List ℕ). directory_above n q) (sym same) ∙ is) root
      by_way same (inr way) = other_source way.0 (sym is ∙ (ap (λ (q : List ℕ). directory_above n q) same ∙ way.2))
          way.3

      by_test : (b : Bool) → is_in_part rules part (sweep_of rules source target).gone target
          (blocked_paths rules source target) x ≡ b
          → HasNoActionAt (actions_of_part rules part (sweep_of rules source target).gone target
          (blocked_paths rules source target) xs) other
          → HasNoActionAt (if b then action_of part x ∷ actions_of_part rules part (sweep_of rules source target).gone
          target (blocked_paths rules source target) xs
          else actions_of_part rules part (sweep_of rules source target).gone target (blocked_paths rules source target)
          xs) other
      by_test true test more = (
        not_at other x.path (λ same. by_way same (up_source (sweep_of rules source target).gone target source listed x
            (all x (inl refl))
            (not_so (is_blocked (sweep_of rules source target).gone target (blocked_paths rules source target) x)
            (both_left (not (is_blocked (sweep_of rules source target).gone target (blocked_paths rules source target)
            x))
            (has_part_action rules part (entry_left_at (sweep_of rules source target).gone target x.path) x.kind) test))
            n)),
        more,
      )
      by_test false test more = more

  pub no_action_below : (other : List ℕ) (n : ℕ) → directory_above n other ≡ path
      → HasNoActionAt (actions_of rules source target) other
  no_action_below other n is =
      no_action_append (removal_actions rules source target) (of Directories
      ++ (of Files ++ (of Links ++ of Attributes)))
      other
      (no_removal_below other n is (sweep_of rules source target).removed (removed_are rules source target))
      (no_action_append (of Directories) (of Files ++ (of Links ++ of Attributes)) other (no_part_action Directories)
      (no_action_append (of Files) (of Links ++ of Attributes) other (no_part_action Files)
      (no_action_append (of Links) (of Attributes) other (no_part_action Links) (no_part_action Attributes))))
    where
      of : Part → List Action
      of part = actions_of_part rules part (sweep_of rules source target).gone target
          (blocked_paths rules source target) source

      no_part_action : (part : Part) → HasNoActionAt (actions_of_part rules part (sweep_of rules source target).gone
          target (blocked_paths rules source target) source) other
      no_part_action part = no_part_action_below other n is part source (λ e i. i)

  -- ---- No directory above it is removed

  stays_up : (n : ℕ) → IsRootOr (λ h. (sweep_of rules source target).gone h.path ≡ false) target
      (directory_above n path)
  stays_up zero = inr (
    t,
    there,
    its_path,
    ap (λ (q : List ℕ). (sweep_of rules source target).gone q) (sym its_path)
        ∙ stays_there,
  )
  stays_up (suc n) = elim (stays_up n) [
    | inl root ↦ inl (ap (λ (q : List ℕ). directory_of q) root)
    | inr way ↦
        elim (parent_or_root target (directory_of (way.0).path) (has_parent [] target way.0 found way.1)) [
          | inl root ↦ inl (ap (λ (q : List ℕ). directory_of q) way.2 ∙ root)
          | inr parent ↦ inr (
            parent.parent,
            parent.among,
            ap (λ (q : List ℕ). directory_of q) way.2 ∙ sym parent.at,
            above way.0 way.1 way.3 parent ((sweep_of rules source target).gone (parent.parent).path) refl,
          )
        ]
  ]
    where
      above : (h : Entry) → IsIn target h → (sweep_of rules source target).gone h.path ≡ false
          → (parent : IsParent target (directory_of h.path))
          → (b : Bool) → (sweep_of rules source target).gone (parent.parent).path ≡ b
          → (sweep_of rules source target).gone (parent.parent).path ≡ false
      above h is stay parent false g = g
      above h is stay parent true g =
          clash ((sweep_of rules source target).gone h.path)
          (entries_removed rules source [] target parent.parent h found parent.among g is (sym parent.at)) stay

  pub stays_above : (n : ℕ) → (sweep_of rules source target).gone (directory_above n path) ≡ false
  stays_above n = elim (stays_up n) [
    | inl root ↦ ap (λ (q : List ℕ). (sweep_of rules source target).gone q) root
        ∙ by_root ((sweep_of rules source target).gone []) refl
    | inr way ↦ ap (λ (q : List ℕ). (sweep_of rules source target).gone q) way.2 ∙ way.3
  ]
    where
      by_root : (b : Bool) → (sweep_of rules source target).gone [] ≡ b → (sweep_of rules source target).gone [] ≡ false
      by_root false is = is
      by_root true is =
          let g = gone_is rules source target [] is in absurd (not_root [] target g.entry found g.among (sym g.at))
