-- The entries that a sweep over the target removes.
use Rattle.std.proofs.Common.{◌≡◌, ◌||◌, ◌⊎◌, ℕ, Bool, true, false, not, List, [], ◌∷◌, ◌++◌, ◌∙◌, map, refl, ap, subst, inl, inr, if◌then◌else◌}
use Rattle.std.specs.Str.{bytes_eq}
use Rattle.std.proofs.lemmas.List.{map-append}
use Rattle.transfer_sync.specs.Entries.{entry_of_path, is_directory}
use Rattle.transfer_sync.specs.Listings.{has_entry}
use Rattle.transfer_sync.specs.Paths.{directory_of, with_path}
use Rattle.transfer_sync.specs.Trees.{BytesByPath, CanApplyAll, Node, Nothing, Tree, after_step, tree_after, tree_after_all}
use Rattle.transfer_sync.specs.Verdicts.{SweepValue, is_in_source, stays_in_target, sweep_of}
use Rattle.transfer_sync.specs.Actions.{removal_action}
use Rattle.transfer_sync.specs.declared.action.Action.{Action}
use Rattle.transfer_sync.specs.declared.action.Step.TheVariants.{RemoveFile, RemoveDirectory}
use Rattle.transfer_sync.specs.declared.entry.Entry.{Entry}
use Rattle.transfer_sync.specs.declared.rules.Rules.{Rules}
use Rattle.transfer_sync.proofs.ListingLaws.{IsIn, clash, has_in, is_same, same_path, some_left, some_right}

abbrev sweep_by : Bool → SweepValue → Entry → SweepValue
sweep_by t w x = if t then record w { kept = with_path w.kept (directory_of x.path) }
    else record w { gone = with_path w.gone x.path; removed = w.removed ++ x ∷ [] }

-- ---- Lists of actions

pub applied_append : (c : BytesByPath) (xs ys : List Action) (tree : Tree)
    → tree_after_all c (xs ++ ys) tree ≡ tree_after_all c ys (tree_after_all c xs tree)
applied_append c [] ys tree = refl
applied_append c (x ∷ xs) ys tree = applied_append c xs ys (tree_after c x tree)

pub can_append : (c : BytesByPath) (xs ys : List Action) (tree : Tree) → CanApplyAll c xs tree
    → CanApplyAll c ys (tree_after_all c xs tree) → CanApplyAll c (xs ++ ys) tree
can_append c [] ys tree first second = second
can_append c (x ∷ xs) ys tree first second = (first.0, can_append c xs ys (tree_after c x tree) first.1 second)

-- ---- What is removed

-- A path that is removed is that of an entry of the target that nothing keeps.
pub record IsGone (rules : Rules) (source xs : List Entry) (p : List ℕ) : Type 0 where
  pub entry : Entry
  pub among : IsIn xs entry
  pub at : p ≡ entry.path
  pub goes : (not rules.delete || entry.excluded || is_in_source (entry_of_path source entry.path) entry) ≡ false

goes_by : (nd ex kept wanted : Bool) → (nd || ex || kept || wanted) ≡ false → (nd || ex || wanted) ≡ false
goes_by true ex kept wanted is = absurd cc
goes_by false true kept wanted is = absurd cc
goes_by false false true wanted is = absurd cc
goes_by false false false wanted is = is

pub gone_is : (rules : Rules) (source xs : List Entry) (p : List ℕ) → (sweep_of rules source xs).gone p ≡ true
    → IsGone rules source xs p
gone_is rules source [] p is = absurd cc
gone_is rules source (x ∷ later) p is =
    by_test (stays_in_target rules source (sweep_of rules source later).kept x) refl is (gone_is rules source later p)
  where
    comes_after : IsGone rules source later p → IsGone rules source (x ∷ later) p
    comes_after g = record { entry = g.entry; among = inr g.among; at = g.at; goes = g.goes }

    by_path : (old same : Bool) → (sweep_of rules source later).gone p ≡ old → bytes_eq p x.path ≡ same → (old || same)
        ≡ true
        → stays_in_target rules source (sweep_of rules source later).kept x ≡ false
        → ((sweep_of rules source later).gone p ≡ true → IsGone rules source later p)
        → IsGone rules source (x ∷ later) p
    by_path true same ho hs is test before = comes_after (before ho)
    by_path false true ho hs is test before = record {
      entry = x;
      among = inl refl;
      at = is_same p x.path hs;
      goes = goes_by (not rules.delete) x.excluded ((sweep_of rules source later).kept x.path)
          (is_in_source (entry_of_path source x.path) x) test;
    }
    by_path false false ho hs is test before = absurd cc

    by_test : (t : Bool) → stays_in_target rules source (sweep_of rules source later).kept x ≡ t
        → (sweep_by t (sweep_of rules source later) x).gone p ≡ true
        → ((sweep_of rules source later).gone p ≡ true → IsGone rules source later p)
        → IsGone rules source (x ∷ later) p
    by_test true test is before = comes_after (before is)
    by_test false test is before =
        by_path ((sweep_of rules source later).gone p) (bytes_eq p x.path) refl refl is test before

-- A path that is not listed is not removed.
pub not_gone : (rules : Rules) (source xs : List Entry) (p : List ℕ) → has_entry xs p ≡ false
    → (sweep_of rules source xs).gone p ≡ false
not_gone rules source xs p free = by_test ((sweep_of rules source xs).gone p) refl
  where
    by_test : (t : Bool) → (sweep_of rules source xs).gone p ≡ t → (sweep_of rules source xs).gone p ≡ false
    by_test false is = is
    by_test true is = let g = gone_is rules source xs p is in
        clash (has_entry xs p) (ap (λ (q : List ℕ). has_entry xs q) g.at ∙ has_in xs g.entry g.among) free

-- An entry that is not removed keeps its directory.
pub gone_or_kept : (rules : Rules) (source xs : List Entry) (t : Entry) → IsIn xs t
    → ((sweep_of rules source xs).gone t.path ≡ true) ⊎ ((sweep_of rules source xs).kept (directory_of t.path) ≡ true)
gone_or_kept rules source [] t is = absurd is
gone_or_kept rules source (x ∷ later) t (inl is) =
    subst (λ (y : Entry). ((sweep_of rules source (x ∷ later)).gone y.path ≡ true)
    ⊎ ((sweep_of rules source (x ∷ later)).kept (directory_of y.path) ≡ true)) is
    (by_test (stays_in_target rules source (sweep_of rules source later).kept x))
  where
    by_test : (b : Bool) → ((sweep_by b (sweep_of rules source later) x).gone x.path ≡ true)
        ⊎ ((sweep_by b (sweep_of rules source later) x).kept (directory_of x.path) ≡ true)
    by_test true = inr (some_right ((sweep_of rules source later).kept (directory_of x.path))
        (bytes_eq (directory_of x.path) (directory_of x.path)) (same_path (directory_of x.path)))
    by_test false = inl (some_right ((sweep_of rules source later).gone x.path) (bytes_eq x.path x.path)
        (same_path x.path))
gone_or_kept rules source (x ∷ later) t (inr is) =
    by_test (stays_in_target rules source (sweep_of rules source later).kept x) (gone_or_kept rules source later t is)
  where
    by_test : (b : Bool) → ((sweep_of rules source later).gone t.path ≡ true)
        ⊎ ((sweep_of rules source later).kept (directory_of t.path) ≡ true)
        → ((sweep_by b (sweep_of rules source later) x).gone t.path ≡ true)
        ⊎ ((sweep_by b (sweep_of rules source later) x).kept (directory_of t.path) ≡ true)
    by_test true (inl g) = inl g
    by_test true (inr k) = inr (some_left ((sweep_of rules source later).kept (directory_of t.path))
        (bytes_eq (directory_of t.path) (directory_of x.path)) k)
    by_test false (inl g) = inl (some_left ((sweep_of rules source later).gone t.path) (bytes_eq t.path x.path) g)
    by_test false (inr k) = inr k

-- ---- The tree after the removals

step_by : (bytes : List ℕ) (old : Node) (b : Bool) → after_step bytes (if b then RemoveDirectory else RemoveFile) old
    ≡ Nothing
step_by bytes old true = refl
step_by bytes old false = refl

pub after_removals : (c : BytesByPath) (rules : Rules) (source xs : List Entry) (tree : Tree) (p : List ℕ)
    → tree_after_all c (map removal_action (sweep_of rules source xs).removed) tree p
    ≡ (if (sweep_of rules source xs).gone p then Nothing else tree p)
after_removals c rules source [] tree p = refl
after_removals c rules source (x ∷ later) tree p =
    by_test (stays_in_target rules source (sweep_of rules source later).kept x)
    (after_removals c rules source later tree p)
  where
    now : List Action
    now = map removal_action (sweep_of rules source later).removed

    by_path : (old same : Bool) (node new : Node)
        → node ≡ (if old then Nothing else tree p) → new ≡ Nothing
        → (if same then new else node) ≡ (if old || same then Nothing else tree p)
    by_path true true node new is gone = gone
    by_path true false node new is gone = is
    by_path false true node new is gone = gone
    by_path false false node new is gone = is

    by_test : (b : Bool)
        → tree_after_all c (map removal_action (sweep_of rules source later).removed) tree p
        ≡ (if (sweep_of rules source later).gone p then Nothing else tree p)
        → tree_after_all c (map removal_action (sweep_by b (sweep_of rules source later) x).removed) tree p
        ≡ (if (sweep_by b (sweep_of rules source later) x).gone p then Nothing else tree p)
    by_test true before = before
    by_test false before =
        ap (λ (l : List Action). tree_after_all c l tree p) (map-append removal_action
        (sweep_of rules source later).removed
        (x ∷ []))
        ∙ (ap (λ (t : Tree). t p) (applied_append c (map removal_action (sweep_of rules source later).removed)
        (removal_action x ∷ []) tree)
        ∙ by_path ((sweep_of rules source later).gone p) (bytes_eq p x.path)
        (tree_after_all c (map removal_action (sweep_of rules source later).removed) tree p)
        (after_step (c p) (removal_action x).step (tree_after_all c
        (map removal_action (sweep_of rules source later).removed)
        tree p))
        before (step_by (c p) (tree_after_all c (map removal_action (sweep_of rules source later).removed) tree p)
        (is_directory x.kind)))
