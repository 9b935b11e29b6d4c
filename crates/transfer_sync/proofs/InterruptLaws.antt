-- The target after any first part of the actions.
use Rattle.std.proofs.Common.{◌≡◌, ◌||◌, ◌⊎◌, ℕ, Bool, true, false, not, List, [], ◌∷◌, ◌++◌, ◌∙◌, Option, Some, map, refl, sym, subst, inl, inr, if◌then◌else◌}
use Rattle.std.specs.Str.{bytes_eq}
use Rattle.transfer_sync.specs.Entries.{entry_of_path, is_directory, is_file, is_link}
use Rattle.transfer_sync.specs.Listings.{is_listing}
use Rattle.transfer_sync.specs.Paths.{Paths, directory_of, with_path}
use Rattle.transfer_sync.specs.Theorems.{IsIntermediateNode}
use Rattle.transfer_sync.specs.Trees.{BytesByPath, DirectoryNode, FileNode, LinkNode, Node, Nothing, Tree, after_step, node_of, tree_after, tree_after_all}
use Rattle.transfer_sync.specs.Verdicts.{SweepValue, blocked_paths, entry_left_at, is_blocked, is_in_source, stays_in_target, sweep_of}
use Rattle.transfer_sync.specs.Actions.{action_of, actions_of, actions_of_part, has_part_action, is_in_part, link_text, needs_copy, removal_action, removal_actions}
use Rattle.transfer_sync.specs.declared.action.Action.{Action}
use Rattle.transfer_sync.specs.declared.action.Step.TheVariants.{RemoveFile, RemoveDirectory}
use Rattle.transfer_sync.specs.declared.entry.Entry.{Entry}
use Rattle.transfer_sync.specs.declared.entry.Kind.{Kind}
use Rattle.transfer_sync.specs.declared.entry.Kind.TheVariants.{File, Directory, Link, Other}
use Rattle.transfer_sync.specs.declared.rules.Rules.{Rules}
use Rattle.transfer_sync.specs.declared.verdict.Part.{Part}
use Rattle.transfer_sync.specs.declared.verdict.Part.TheVariants.{Directories, Files, Links, Attributes}
use Rattle.transfer_sync.proofs.ListingLaws.{IsIn, at_in, both_left, both_right, in_either, is_same, none_right}

abbrev sweep_by : Bool → SweepValue → Entry → SweepValue
sweep_by t w x = if t then record w { kept = with_path w.kept (directory_of x.path) }
    else record w { gone = with_path w.gone x.path; removed = w.removed ++ x ∷ [] }

-- An action leaves what the path has, what the source has, or nothing if the source has nothing of the same kind.
abbrev pub AllBetween : List Entry → List Entry → BytesByPath → Action → Type 0
AllBetween source target from a = (old : Node) → (after_step (from a.path) a.step old ≡ old)
    ⊎ ((s : Entry) × (entry_of_path source a.path ≡ Some s) × (after_step (from a.path) a.step old
    ≡ node_of (from a.path) s.kind))
    ⊎ ((t : Entry) × (entry_of_path target a.path ≡ Some t) × (is_in_source (entry_of_path source a.path) t ≡ false)
    × (after_step (from a.path) a.step old ≡ Nothing))

abbrev pub AllTurn : List Entry → List Entry → BytesByPath → List Action → Type 0
AllTurn source target from [] = Unit {0}
AllTurn source target from (a ∷ later) = AllBetween source target from a × AllTurn source target from later

module _ (source target : List Entry) (from : BytesByPath) where
  both_turn : (xs ys : List Action) → AllTurn source target from xs → AllTurn source target from ys
      → AllTurn source target from (xs ++ ys)
  both_turn [] ys a b = b
  both_turn (x ∷ xs) ys a b = (a.0, both_turn xs ys a.1 b)

  first_turn : (xs ys : List Action) → AllTurn source target from (xs ++ ys) → AllTurn source target from xs
  first_turn [] ys a = tt
  first_turn (x ∷ xs) ys a = (a.0, first_turn xs ys a.1)

  -- The same holds at each path after any number of them.
  between : (rules : Rules) (tree now : Tree) (done : List Action) → AllTurn source target from done
      → ((p : List ℕ) → IsIntermediateNode rules source target from tree p (now p)) → (p : List ℕ)
      → IsIntermediateNode rules source target from tree p (tree_after_all from done now p)
  between rules tree now [] turns is p = is p
  between rules tree now (a ∷ later) turns is p =
      between rules tree (tree_after from a now) later turns.1 (λ q. by_test q (bytes_eq q a.path) refl) p
    where
      here : IsIntermediateNode rules source target from tree a.path (after_step (from a.path) a.step (now a.path))
      here = elim (turns.0 (now a.path)) [
        | inl same ↦ subst (λ (x : Node). IsIntermediateNode rules source target from tree a.path x) (sym same)
            (is a.path)
        | inr (inl as_source) ↦ inr (inl as_source)
        | inr (inr gone) ↦ inr (inr gone)
      ]

      by_test : (q : List ℕ) (t : Bool) → bytes_eq q a.path ≡ t
          → IsIntermediateNode rules source target from tree q (if t then after_step (from q) a.step (now q) else now q)
      by_test q false test = is q
      by_test q true test =
          subst (λ (r : List ℕ). IsIntermediateNode rules source target from tree r
          (after_step (from r) a.step (now r)))
          (sym (is_same q a.path test)) here

-- ---- The removals

goes_by : (nd ex kept wanted : Bool) → (nd || ex || kept || wanted) ≡ false → (nd || ex || wanted) ≡ false
goes_by true ex kept wanted is = absurd cc
goes_by false true kept wanted is = absurd cc
goes_by false false true wanted is = absurd cc
goes_by false false false wanted is = is

pub record IsRemovedEntry (rules : Rules) (source xs : List Entry) (r : Entry) : Type 0 where
  pub among : IsIn xs r
  pub goes : (not rules.delete || r.excluded || is_in_source (entry_of_path source r.path) r) ≡ false

pub removed_are : (rules : Rules) (source xs : List Entry) (r : Entry) → IsIn (sweep_of rules source xs).removed r
    → IsRemovedEntry rules source xs r
removed_are rules source [] r is = absurd is
removed_are rules source (x ∷ later) r is =
    by_test (stays_in_target rules source (sweep_of rules source later).kept x) refl is
    (removed_are rules source later r)
  where
    comes_after : IsRemovedEntry rules source later r → IsRemovedEntry rules source (x ∷ later) r
    comes_after g = record { among = inr g.among; goes = g.goes }

    here : x ≡ r → stays_in_target rules source (sweep_of rules source later).kept x ≡ false
        → IsRemovedEntry rules source (x ∷ later) r
    here same test = record {
      among = inl same;
      goes = subst (λ (y : Entry). (not rules.delete || y.excluded || is_in_source (entry_of_path source y.path) y)
          ≡ false)
          same
          (goes_by (not rules.delete) x.excluded ((sweep_of rules source later).kept x.path)
          (is_in_source (entry_of_path source x.path) x) test);
    }

    by_test : (t : Bool) → stays_in_target rules source (sweep_of rules source later).kept x ≡ t
        → IsIn (sweep_by t (sweep_of rules source later) x).removed r
        → (IsIn (sweep_of rules source later).removed r → IsRemovedEntry rules source later r)
        → IsRemovedEntry rules source (x ∷ later) r
    by_test true test is before = comes_after (before is)
    by_test false test is before = elim (in_either (sweep_of rules source later).removed (x ∷ []) r is) [
      | inl old ↦ comes_after (before old)
      | inr (inl same) ↦ here same test
      | inr (inr nowhere) ↦ absurd nowhere
    ]

step_by : (bytes : List ℕ) (old : Node) (b : Bool) → after_step bytes (if b then RemoveDirectory else RemoveFile) old
    ≡ Nothing
step_by bytes old true = refl
step_by bytes old false = refl

removals_turn : (rules : Rules) (source target : List Entry) (from : BytesByPath) → is_listing target ≡ true
    → (rs : List Entry)
    → ((r : Entry) → IsIn rs r → IsRemovedEntry rules source target r)
    → AllTurn source target from (map removal_action rs)
removals_turn rules source target from listed [] all = tt
removals_turn rules source target from listed (r ∷ rs) all =
    let g = all r (inl refl) in (
      λ old. inr (inr (
        r,
        at_in [] target r listed g.among,
        none_right (not rules.delete || r.excluded) (is_in_source (entry_of_path source r.path) r) g.goes,
        step_by (from r.path) old (is_directory r.kind),
      )),
      removals_turn rules source target from listed rs (λ q is. all q (inr is)),
    )

-- ---- The parts

directory_node : (b : List ℕ) (k : Kind) → is_directory k ≡ true → DirectoryNode ≡ node_of b k
directory_node b (File f) is = absurd cc
directory_node b (Directory mode) is = refl
directory_node b (Link text) is = absurd cc
directory_node b Other is = absurd cc

file_node : (b : List ℕ) (k : Kind) → is_file k ≡ true → FileNode b ≡ node_of b k
file_node b (File f) is = refl
file_node b (Directory mode) is = absurd cc
file_node b (Link text) is = absurd cc
file_node b Other is = absurd cc

link_node : (b : List ℕ) (k : Kind) → is_link k ≡ true → LinkNode (link_text k) ≡ node_of b k
link_node b (File f) is = absurd cc
link_node b (Directory mode) is = absurd cc
link_node b (Link text) is = refl
link_node b Other is = absurd cc

due_turn : (rules : Rules) (source target : List Entry) (from : BytesByPath) (part : Part) (left : Option Entry)
    (e : Entry)
    → entry_of_path source e.path ≡ Some e → has_part_action rules part left e.kind ≡ true
    → AllBetween source target from (action_of part e)
due_turn rules source target from Directories left e at due old =
    inr (inl (
      e,
      at,
      directory_node (from e.path) e.kind (both_left (is_directory e.kind) (needs_copy rules left e.kind)
          due),
    ))
due_turn rules source target from Files left e at due old =
    inr (inl (e, at, file_node (from e.path) e.kind (both_left (is_file e.kind) (needs_copy rules left e.kind) due)))
due_turn rules source target from Links left e at due old =
    inr (inl (e, at, link_node (from e.path) e.kind (both_left (is_link e.kind) (needs_copy rules left e.kind) due)))
due_turn rules source target from Attributes left e at due old = inl refl

part_turns : (rules : Rules) (source target : List Entry) (from : BytesByPath) (part : Part) (gone blocked : Paths)
    → is_listing source ≡ true → (xs : List Entry) → ((e : Entry) → IsIn xs e → IsIn source e)
    → AllTurn source target from (actions_of_part rules part gone target blocked xs)
part_turns rules source target from part gone blocked listed [] all = tt
part_turns rules source target from part gone blocked listed (x ∷ xs) all =
    by_test (is_in_part rules part gone target blocked x) refl
    (part_turns rules source target from part gone blocked listed xs (λ e is. all e (inr is)))
  where
    by_test : (t : Bool) → is_in_part rules part gone target blocked x ≡ t
        → AllTurn source target from (actions_of_part rules part gone target blocked xs)
        → AllTurn source target from (if t then action_of part x ∷ actions_of_part rules part gone target blocked xs
        else actions_of_part rules part gone target blocked xs)
    by_test true test more = (
      due_turn rules source target from part (entry_left_at gone target x.path) x
          (at_in [] source x listed (all x (inl refl)))
          (both_right (not (is_blocked gone target blocked x)) (has_part_action rules part
          (entry_left_at gone target x.path) x.kind) test),
      more,
    )
    by_test false test more = more

all_turn : (rules : Rules) (source target : List Entry) (from : BytesByPath) → is_listing source ≡ true
    → is_listing target ≡ true
    → AllTurn source target from (actions_of rules source target)
all_turn rules source target from listed found =
    both_turn source target from (removal_actions rules source target)
    (of Directories ++ (of Files ++ (of Links ++ of Attributes)))
    (removals_turn rules source target from found (sweep_of rules source target).removed
    (removed_are rules source target))
    (both_turn source target from (of Directories) (of Files ++ (of Links ++ of Attributes)) (turns Directories)
    (both_turn source target from (of Files) (of Links ++ of Attributes) (turns Files)
    (both_turn source target from (of Links) (of Attributes) (turns Links) (turns Attributes))))
  where
    of : Part → List Action
    of part = actions_of_part rules part (sweep_of rules source target).gone target (blocked_paths rules source target)
        source

    turns : (part : Part) → AllTurn source target from (actions_of_part rules part (sweep_of rules source target).gone
        target (blocked_paths rules source target) source)
    turns part = part_turns rules source target from part (sweep_of rules source target).gone
        (blocked_paths rules source target) listed source (λ e is. is)

pub intermediate_node : (rules : Rules) (source target : List Entry) → is_listing source ≡ true → is_listing target
    ≡ true
    → (from : BytesByPath) (tree : Tree) (actions done later : List Action) → actions ≡ actions_of rules source target
    → actions ≡ done ++ later → (path : List ℕ)
    → IsIntermediateNode rules source target from tree path (tree_after_all from done tree path)
intermediate_node rules source target listed found from tree actions done later is split path =
    between source target from rules tree tree done
    (first_turn source target from done later
    (subst (λ (l : List Action). AllTurn source target from l) (sym is ∙ split)
    (all_turn rules source target from listed found)))
    (λ p. inl refl) path
