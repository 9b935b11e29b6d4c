-- The target at the end.
use Rattle.std.proofs.Common.{◌≡◌, ◌&&◌, ◌||◌, ℕ, Bool, true, false, not, List, [], ◌∷◌, ◌++◌, ◌∙◌, Option, Some, None, refl, sym, ap, subst, inl, inr, if◌then◌else◌, ◌⊎◌}
use Rattle.std.specs.Str.{bytes_eq}
use Rattle.transfer_sync.specs.Listings.{can_follow_all, has_entry, is_listing}
use Rattle.transfer_sync.specs.Entries.{entry_of_path, is_directory, is_file, is_link, is_same_kind}
use Rattle.transfer_sync.specs.Paths.{Paths, directory_of}
use Rattle.transfer_sync.specs.Rules.{is_changed}
use Rattle.transfer_sync.specs.Theorems.{IsFinalTree, UnchangedFilesMatch, skips_entry, HasEqualEntry}
use Rattle.transfer_sync.specs.Trees.{BytesByPath, FileNode, IsTreeOf, LinkNode, Node, Nothing, Tree, after_step, node_of, tree_after, tree_after_all}
use Rattle.transfer_sync.specs.Actions.{action_of, actions_after_removals, actions_of, actions_of_part, is_in_part, link_text, needs_attributes, needs_copy, removal_actions, step_of}
use Rattle.transfer_sync.specs.Verdicts.{blocked_paths, choice_of, entry_left_at, is_blocked, is_ignored, is_in_way, is_other_content, sweep_of}
use Rattle.transfer_sync.specs.declared.action.Action.{Action}
use Rattle.transfer_sync.specs.declared.action.Step.{Step}
use Rattle.transfer_sync.specs.declared.action.Step.TheVariants.{MakeDirectory, CopyFile, MakeLink, SetAttributes}
use Rattle.transfer_sync.specs.declared.entry.Entry.{Entry}
use Rattle.transfer_sync.specs.declared.entry.FileFacts.{FileFacts}
use Rattle.transfer_sync.specs.declared.entry.Kind.{Kind}
use Rattle.transfer_sync.specs.declared.entry.Kind.TheVariants.{File, Directory, Link, Other}
use Rattle.transfer_sync.specs.declared.rules.Rules.{Rules}
use Rattle.transfer_sync.specs.declared.verdict.Part.{Part}
use Rattle.transfer_sync.specs.declared.verdict.Part.TheVariants.{Directories, Files, Links, Attributes}
use Rattle.transfer_sync.proofs.ListingLaws.{IsIn, other_path, at_in, clash, eq_path, in_at, is_same, none_left, none_right, not_not, same_path, tail_listed}
use Rattle.transfer_sync.proofs.LoopSteps.{at_none}
use Rattle.transfer_sync.proofs.SweepLaws.{after_removals, applied_append}

-- ---- One part

pub has_is : (xs : List Entry) (p : List ℕ) → has_entry xs p ≡ true → (e : Entry) × IsIn xs e × (p ≡ e.path)
has_is [] p is = absurd cc
has_is (x ∷ xs) p is = by_test (bytes_eq p x.path) refl is (has_is xs p)
  where
    by_test : (t : Bool) → bytes_eq p x.path ≡ t → (t || has_entry xs p) ≡ true
        → (has_entry xs p ≡ true → (e : Entry) × IsIn xs e × (p ≡ e.path)) → (e : Entry) × IsIn (x ∷ xs) e
        × (p ≡ e.path)
    by_test true test is later = (x, inl refl, is_same p x.path test)
    by_test false test is later = let l = later is in (l.0, inr l.1, l.2)

pub none_behind : (before : List Entry) (x : Entry) (later : List Entry) → can_follow_all before (x ∷ later) ≡ true
    → has_entry later x.path ≡ false
none_behind before x later h = by_test (has_entry later x.path) refl
  where
    by_test : (t : Bool) → has_entry later x.path ≡ t → has_entry later x.path ≡ false
    by_test false is = is
    by_test true is = let f = has_is later x.path is in
        clash (bytes_eq (f.0).path x.path) (eq_path (f.0).path x.path (sym f.2)) (other_path before x later f.0 h f.1)

-- What a path has after an action of a part, if there is one.
abbrev pub done_by : Bool → List ℕ → Step → Node → Node
done_by t bytes step node = if t then after_step bytes step node else node

pub part_off : (from : BytesByPath) (test : Entry → Bool) (part : Part) (xs : List Entry) (tree : Tree) (p : List ℕ)
    → has_entry xs p ≡ false
    → tree_after_all from (choice_of test (action_of part) xs) tree p ≡ tree p
part_off from test part [] tree p free = refl
part_off from test part (x ∷ xs) tree p free =
    by_test (test x) (λ t. part_off from test part xs t p (none_right (bytes_eq p x.path) (has_entry xs p) free))
  where
    by_test : (t : Bool) → ((now : Tree) → tree_after_all from (choice_of test (action_of part) xs) now p ≡ now p)
        → tree_after_all from (if t then action_of part x ∷ choice_of test (action_of part) xs else
        choice_of test (action_of part) xs) tree p ≡ tree p
    by_test true later = later (tree_after from (action_of part x) tree)
        ∙ ap (λ (b : Bool). if b then after_step (from p) (step_of part x.kind) (tree p) else tree p)
        (none_left (bytes_eq p x.path) (has_entry xs p) free)
    by_test false later = later tree

pub part_at : (from : BytesByPath) (test : Entry → Bool) (part : Part) (before xs : List Entry) (tree : Tree)
    (e : Entry)
    → can_follow_all before xs ≡ true → IsIn xs e
    → tree_after_all from (choice_of test (action_of part) xs) tree e.path
    ≡ done_by (test e) (from e.path) (step_of part e.kind) (tree e.path)
part_at from test part before [] tree e h is = absurd is
part_at from test part before (x ∷ later) tree e h (inl is) =
    subst (λ (y : Entry). tree_after_all from (choice_of test (action_of part) (x ∷ later)) tree y.path
    ≡ done_by (test y) (from y.path) (step_of part y.kind) (tree y.path)) is (by_test (test x))
  where
    by_test : (t : Bool)
        → tree_after_all from (if t then action_of part x ∷ choice_of test (action_of part) later else
        choice_of test (action_of part) later) tree x.path
        ≡ done_by t (from x.path) (step_of part x.kind) (tree x.path)
    by_test true = part_off from test part later (tree_after from (action_of part x) tree) x.path
        (none_behind before x later h)
        ∙ ap (λ (b : Bool). if b then after_step (from x.path) (step_of part x.kind) (tree x.path) else tree x.path)
        (same_path x.path)
    by_test false = part_off from test part later tree x.path (none_behind before x later h)
part_at from test part before (x ∷ later) tree e h (inr is) =
    by_test (test x) (λ t. part_at from test part (before ++ x ∷ []) later t e (tail_listed before x later h) is)
  where
    by_test : (t : Bool)
        → ((now : Tree) → tree_after_all from (choice_of test (action_of part) later) now e.path
        ≡ done_by (test e) (from e.path) (step_of part e.kind) (now e.path))
        → tree_after_all from (if t then action_of part x ∷ choice_of test (action_of part) later else
        choice_of test (action_of part) later) tree e.path
        ≡ done_by (test e) (from e.path) (step_of part e.kind) (tree e.path)
    by_test true later_is = later_is (tree_after from (action_of part x) tree)
        ∙ ap (λ (b : Bool). done_by (test e) (from e.path) (step_of part e.kind)
        (if b then after_step (from e.path) (step_of part x.kind) (tree e.path) else tree e.path))
        (other_path before x later e h is)
    by_test false later_is = later_is tree

-- ---- All parts

module _ (rules : Rules) (source target : List Entry) (from : BytesByPath) (gone blocked : Paths)
    (listed : is_listing source ≡ true) where
  abbrev of : Part → List Action
  of part = actions_of_part rules part gone target blocked source

  pub made_off : (tree : Tree) (p : List ℕ) → has_entry source p ≡ false
      → tree_after_all from (actions_after_removals rules gone target blocked source) tree p ≡ tree p
  made_off tree p free =
      ap (λ (t : Tree). t p) (applied_append from (of Directories) (of Files ++ (of Links ++ of Attributes)) tree)
      ∙ (ap (λ (t : Tree). t p) (applied_append from (of Files) (of Links ++ of Attributes)
      (tree_after_all from (of Directories) tree))
      ∙ (ap (λ (t : Tree). t p) (applied_append from (of Links) (of Attributes)
      (tree_after_all from (of Files) (tree_after_all from (of Directories) tree)))
      ∙ (part_off from (is_in_part rules Attributes gone target blocked) Attributes source
      (tree_after_all from (of Links) (tree_after_all from (of Files) (tree_after_all from (of Directories) tree))) p
      free
      ∙ (part_off from (is_in_part rules Links gone target blocked) Links source
      (tree_after_all from (of Files) (tree_after_all from (of Directories) tree)) p free
      ∙ (part_off from (is_in_part rules Files gone target blocked) Files source
      (tree_after_all from (of Directories) tree) p free
      ∙ part_off from (is_in_part rules Directories gone target blocked) Directories source tree p free)))))

  abbrev pub directories_by : Entry → Node → Node
  directories_by e node = done_by (is_in_part rules Directories gone target blocked e) (from e.path) MakeDirectory node

  abbrev pub files_by : Entry → Node → Node
  files_by e node = done_by (is_in_part rules Files gone target blocked e) (from e.path) CopyFile node

  abbrev pub links_by : Entry → Node → Node
  links_by e node = done_by (is_in_part rules Links gone target blocked e) (from e.path) (MakeLink (link_text e.kind))
      node

  abbrev pub attributes_by : Entry → Node → Node
  attributes_by e node = done_by (is_in_part rules Attributes gone target blocked e) (from e.path) SetAttributes node

  pub made_at : (tree : Tree) (e : Entry) → IsIn source e
      → tree_after_all from (actions_after_removals rules gone target blocked source) tree e.path
      ≡ attributes_by e (links_by e (files_by e (directories_by e (tree e.path))))
  made_at tree e is =
      ap (λ (t : Tree). t e.path) (applied_append from (of Directories) (of Files ++ (of Links ++ of Attributes)) tree)
      ∙ (ap (λ (t : Tree). t e.path) (applied_append from (of Files) (of Links ++ of Attributes)
      (tree_after_all from (of Directories) tree))
      ∙ (ap (λ (t : Tree). t e.path) (applied_append from (of Links) (of Attributes)
      (tree_after_all from (of Files) (tree_after_all from (of Directories) tree)))
      ∙ (part_at from (is_in_part rules Attributes gone target blocked) Attributes [] source
      (tree_after_all from (of Links) (tree_after_all from (of Files) (tree_after_all from (of Directories) tree))) e
      listed is
      ∙ ap (λ (x : Node). attributes_by e x) (part_at from (is_in_part rules Links gone target blocked) Links [] source
      (tree_after_all from (of Files) (tree_after_all from (of Directories) tree)) e listed is
      ∙ ap (λ (x : Node). links_by e x) (part_at from (is_in_part rules Files gone target blocked) Files [] source
      (tree_after_all from (of Directories) tree) e listed is
      ∙ ap (λ (x : Node). files_by e x) (part_at from (is_in_part rules Directories gone target blocked) Directories []
      source tree e listed is))))))

-- What the parts leave at the path of an entry of a kind.
by_kind : (rules : Rules) (left : Option Entry) (bytes : List ℕ) (k : Kind) (m touched : Bool) (node : Node)
    → (is_file k || is_directory k || is_link k) ≡ true
    → done_by touched bytes SetAttributes (done_by (is_link k && m) bytes (MakeLink (link_text k))
    (done_by (is_file k && m) bytes CopyFile (done_by (is_directory k && m) bytes MakeDirectory node)))
    ≡ (if m then node_of bytes k else node)
by_kind rules left bytes (File f) true true node is = refl
by_kind rules left bytes (File f) true false node is = refl
by_kind rules left bytes (File f) false true node is = refl
by_kind rules left bytes (File f) false false node is = refl
by_kind rules left bytes (Directory mode) true true node is = refl
by_kind rules left bytes (Directory mode) true false node is = refl
by_kind rules left bytes (Directory mode) false true node is = refl
by_kind rules left bytes (Directory mode) false false node is = refl
by_kind rules left bytes (Link text) true true node is = refl
by_kind rules left bytes (Link text) true false node is = refl
by_kind rules left bytes (Link text) false true node is = refl
by_kind rules left bytes (Link text) false false node is = refl
by_kind rules left bytes Other m touched node is = absurd cc

-- The cases of what is left.
pub left_parts : (g : Bool) (o : Option Entry) (t : Entry) → (if g then None else o) ≡ Some t → (g ≡ false)
    × (o ≡ Some t)
left_parts true o t is = absurd cc
left_parts false o t is = (refl, is)

-- An entry for which something is done, by what the target has at its path.
pub record IsFree (gone : Paths) (target : List Entry) (blocked : Paths) (e : Entry) : Type 0 where
  pub some : (is_file e.kind || is_directory e.kind || is_link e.kind) ≡ true
  pub inside : e.excluded ≡ false
  pub above : blocked (directory_of e.path) ≡ false
  pub clear : is_in_way (entry_left_at gone target e.path) e.kind ≡ false

pub is_free : (gone : Paths) (target : List Entry) (blocked : Paths) (e : Entry) → is_blocked gone target blocked e
    ≡ false
    → IsFree gone target blocked e
is_free gone target blocked e free =
    let first : (is_ignored e || blocked (directory_of e.path)) ≡ false =
    none_left (is_ignored e || blocked (directory_of e.path)) (is_in_way (entry_left_at gone target e.path) e.kind) free
    in
    let out : is_ignored e ≡ false = none_left (is_ignored e) (blocked (directory_of e.path)) first in
    record {
      some = not_not (is_file e.kind || is_directory e.kind || is_link e.kind)
          (none_right e.excluded (not (is_file e.kind || is_directory e.kind || is_link e.kind)) out);
      inside = none_left e.excluded (not (is_file e.kind || is_directory e.kind || is_link e.kind)) out;
      above = none_right (is_ignored e) (blocked (directory_of e.path)) first;
      clear = none_right (is_ignored e || blocked (directory_of e.path))
          (is_in_way (entry_left_at gone target e.path) e.kind) free;
    }

module _ (rules : Rules) (source target : List Entry) (from : BytesByPath) (gone blocked : Paths)
    (listed : is_listing source ≡ true)
    (tree : Tree) (e : Entry) (is : IsIn source e) where
  pub free_end : is_blocked gone target blocked e ≡ false
      → tree_after_all from (actions_after_removals rules gone target blocked source) tree e.path
      ≡ (if needs_copy rules (entry_left_at gone target e.path) e.kind then node_of (from e.path) e.kind else
      tree e.path)
  free_end free =
      made_at rules source target from gone blocked listed tree e is
      ∙ ((λ i. done_by (not (free i) && needs_attributes rules (entry_left_at gone target e.path) e.kind) (from e.path)
      SetAttributes
      (done_by (not (free i) && (is_link e.kind && needs_copy rules (entry_left_at gone target e.path) e.kind))
      (from e.path) (MakeLink (link_text e.kind))
      (done_by (not (free i) && (is_file e.kind && needs_copy rules (entry_left_at gone target e.path) e.kind))
      (from e.path) CopyFile
      (done_by (not (free i) && (is_directory e.kind && needs_copy rules (entry_left_at gone target e.path) e.kind))
      (from e.path) MakeDirectory (tree e.path)))))
      ∙ by_kind rules (entry_left_at gone target e.path) (from e.path) e.kind
      (needs_copy rules (entry_left_at gone target e.path) e.kind)
      (needs_attributes rules (entry_left_at gone target e.path) e.kind) (tree e.path)
      (is_free gone target blocked e free).some)

  pub blocked_end : is_blocked gone target blocked e ≡ true
      → tree_after_all from (actions_after_removals rules gone target blocked source) tree e.path ≡ tree e.path
  blocked_end skip_reason =
      made_at rules source target from gone blocked listed tree e is
      ∙ (λ i. done_by (not (skip_reason i) && needs_attributes rules (entry_left_at gone target e.path) e.kind)
      (from e.path) SetAttributes
      (done_by (not (skip_reason i) && (is_link e.kind && needs_copy rules (entry_left_at gone target e.path) e.kind))
      (from e.path) (MakeLink (link_text e.kind))
      (done_by (not (skip_reason i) && (is_file e.kind && needs_copy rules (entry_left_at gone target e.path) e.kind))
      (from e.path) CopyFile
      (done_by (not (skip_reason i) && (is_directory e.kind && needs_copy rules (entry_left_at gone target e.path)
      e.kind)) (from e.path) MakeDirectory (tree e.path)))))

-- ---- What does not change is as in the source

pub same_node : (rules : Rules) (from to : List ℕ) (s t : Kind) → is_same_kind s t ≡ true → is_other_content rules s t
    ≡ false
    → ((f g : FileFacts) → s ≡ File f → t ≡ File g → is_changed rules f g ≡ false → to ≡ from)
    → node_of to t ≡ node_of from s
same_node rules from to (File f) (File g) same other trust = ap (λ (b : List ℕ). FileNode b) (trust f g refl refl other)
same_node rules from to (File f) (Directory m) same other trust = absurd cc
same_node rules from to (File f) (Link b) same other trust = absurd cc
same_node rules from to (File f) Other same other trust = absurd cc
same_node rules from to (Directory m) (File g) same other trust = absurd cc
same_node rules from to (Directory m) (Directory n) same other trust = refl
same_node rules from to (Directory m) (Link b) same other trust = absurd cc
same_node rules from to (Directory m) Other same other trust = absurd cc
same_node rules from to (Link a) (File g) same other trust = absurd cc
same_node rules from to (Link a) (Directory n) same other trust = absurd cc
same_node rules from to (Link a) (Link b) same other trust =
    ap (λ (l : List ℕ). LinkNode l) (sym (is_same a b (not_not (bytes_eq a b) other)))
same_node rules from to (Link a) Other same other trust = absurd cc
same_node rules from to Other (File g) same other trust = absurd cc
same_node rules from to Other (Directory n) same other trust = absurd cc
same_node rules from to Other (Link b) same other trust = absurd cc
same_node rules from to Other Other same other trust = absurd cc

module _ (rules : Rules) (source target : List Entry) (listed : is_listing source ≡ true) (from to : BytesByPath)
    (tree : Tree)
    (seen : IsTreeOf target to tree) where
  end_is : tree_after_all from (actions_of rules source target) tree
      ≡ tree_after_all from (actions_after_removals rules (sweep_of rules source target).gone target
      (blocked_paths rules source target) source)
      (tree_after_all from (removal_actions rules source target) tree)
  end_is = applied_append from (removal_actions rules source target)
      (actions_after_removals rules (sweep_of rules source target).gone target (blocked_paths rules source target)
      source) tree

  removed_at : (p : List ℕ) → tree_after_all from (removal_actions rules source target) tree p
      ≡ (if (sweep_of rules source target).gone p then Nothing else tree p)
  removed_at p = after_removals from rules source target tree p

  given_at : UnchangedFilesMatch rules source target from to → (s : Entry) → IsIn source s → entry_of_path source s.path
      ≡ Some s
      → skips_entry rules source target s ≡ false → (o : Option Entry)
      → entry_left_at (sweep_of rules source target).gone target s.path ≡ o
      → (if needs_copy rules o s.kind then node_of (from s.path) s.kind else
      tree_after_all from (removal_actions rules source target) tree s.path)
      ≡ node_of (from s.path) s.kind
  given_at trusts s is at free None left = refl
  given_at trusts s is at free (Some t) left = by_test (is_other_content rules s.kind t.kind) refl
    where
      clear : is_in_way (Some t) s.kind ≡ false
      clear = ap (λ (o : Option Entry). is_in_way o s.kind) (sym left)
          ∙ (is_free (sweep_of rules source target).gone target (blocked_paths rules source target) s free).clear

      same : is_same_kind s.kind t.kind ≡ true
      same = not_not (is_same_kind s.kind t.kind) (none_right t.excluded (not (is_same_kind s.kind t.kind)) clear)

      parts : ((sweep_of rules source target).gone s.path ≡ false) × (entry_of_path target s.path ≡ Some t)
      parts = left_parts ((sweep_of rules source target).gone s.path) (entry_of_path target s.path) t left

      stays_as : tree_after_all from (removal_actions rules source target) tree s.path ≡ node_of (to s.path) t.kind
      stays_as = removed_at s.path
          ∙ (ap (λ (b : Bool). if b then Nothing else tree s.path) parts.0 ∙ seen.listed s.path t parts.1)

      by_test : (b : Bool) → is_other_content rules s.kind t.kind ≡ b
          → (if b then node_of (from s.path) s.kind else tree_after_all from (removal_actions rules source target) tree
          s.path)
          ≡ node_of (from s.path) s.kind
      by_test true test = refl
      by_test false test = stays_as
          ∙ same_node rules (from s.path) (to s.path) s.kind t.kind same test
          (λ f g hs ht unchanged. trusts s.path s t f g at parts.1 hs ht unchanged)

  copied_at : (s : Entry) → skips_entry rules source target s ≡ false → (o : Option Entry)
      → entry_left_at (sweep_of rules source target).gone target s.path ≡ o
      → (end : Node)
      → end ≡ (if needs_copy rules o s.kind then node_of (from s.path) s.kind
      else tree_after_all from (removal_actions rules source target) tree s.path)
      → (end ≡ node_of (from s.path) s.kind) ⊎ (HasEqualEntry rules target s.path s × (end ≡ tree s.path))
  copied_at s free None left end is = inl is
  copied_at s free (Some t) left end is = by_test (is_other_content rules s.kind t.kind) refl is
    where
      clear : is_in_way (Some t) s.kind ≡ false
      clear = ap (λ (o : Option Entry). is_in_way o s.kind) (sym left)
          ∙ (is_free (sweep_of rules source target).gone target (blocked_paths rules source target) s free).clear

      same : is_same_kind s.kind t.kind ≡ true
      same = not_not (is_same_kind s.kind t.kind) (none_right t.excluded (not (is_same_kind s.kind t.kind)) clear)

      parts : ((sweep_of rules source target).gone s.path ≡ false) × (entry_of_path target s.path ≡ Some t)
      parts = left_parts ((sweep_of rules source target).gone s.path) (entry_of_path target s.path) t left

      by_test : (b : Bool) → is_other_content rules s.kind t.kind ≡ b
          → end ≡ (if b then node_of (from s.path) s.kind
          else tree_after_all from (removal_actions rules source target) tree s.path)
          → (end ≡ node_of (from s.path) s.kind) ⊎ (HasEqualEntry rules target s.path s × (end ≡ tree s.path))
      by_test true test made = inl made
      by_test false test made = inr (
        (t, parts.1, same, test),
        made ∙ (removed_at s.path ∙ ap (λ (b : Bool). if b then Nothing else tree s.path) parts.0),
      )

  pub final_tree_of : IsFinalTree rules source target from to tree
      (tree_after_all from (actions_of rules source target) tree)
  final_tree_of = record {
    copied = λ path s at free.
        let found = in_at source path s at in
        subst (λ (p : List ℕ). (tree_after_all from (actions_of rules source target) tree p ≡ node_of (from p) s.kind)
        ⊎ (HasEqualEntry rules target p s × (tree_after_all from (actions_of rules source target) tree p ≡ tree p)))
        (sym found.1)
        (copied_at s free (entry_left_at (sweep_of rules source target).gone target s.path) refl
        (tree_after_all from (actions_of rules source target) tree s.path)
        (ap (λ (t : Tree). t s.path) end_is
        ∙ free_end rules source target from (sweep_of rules source target).gone (blocked_paths rules source target)
        listed
        (tree_after_all from (removal_actions rules source target) tree) s found.0 free));
    synced = λ trusts path s at free.
        let found = in_at source path s at in
        let here : entry_of_path source s.path ≡ Some s = at_in [] source s listed found.0 in
        subst (λ (p : List ℕ). tree_after_all from (actions_of rules source target) tree p ≡ node_of (from p) s.kind)
        (sym found.1)
        (ap (λ (t : Tree). t s.path) end_is
        ∙ (free_end rules source target from (sweep_of rules source target).gone (blocked_paths rules source target)
        listed
        (tree_after_all from (removal_actions rules source target) tree) s found.0 free
        ∙ given_at trusts s found.0 here free (entry_left_at (sweep_of rules source target).gone target s.path) refl));
    skipped = λ path s at skip_reason.
        let found = in_at source path s at in
        subst (λ (p : List ℕ). tree_after_all from (actions_of rules source target) tree p
        ≡ (if (sweep_of rules source target).gone p then Nothing else tree p)) (sym found.1)
        (ap (λ (t : Tree). t s.path) end_is
        ∙ (blocked_end rules source target from (sweep_of rules source target).gone (blocked_paths rules source target)
        listed
        (tree_after_all from (removal_actions rules source target) tree) s found.0 skip_reason
        ∙ removed_at s.path));
    others = λ path none.
        ap (λ (t : Tree). t path) end_is
        ∙ (made_off rules source target from (sweep_of rules source target).gone (blocked_paths rules source target)
        listed
        (tree_after_all from (removal_actions rules source target) tree) path (at_none source path none)
        ∙ removed_at path);
  }
