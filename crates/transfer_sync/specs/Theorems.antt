-- believed
-- What is promised of a plan.
use Rattle.std.specs.Prelude.{
  ◌≡◌,
  ◌≤◌,
  ◌⊎◌,
  ◌&&◌,
  ◌||◌,
  ◌++◌,
  ℕ,
  zero,
  suc,
  Bool,
  true,
  false,
  not,
  List,
  [],
  ◌∷◌,
  Option,
  Some,
  None,
  if◌then◌else◌,
}
use Rattle.std.specs.List.{list_all}
use Rattle.std.specs.Str.{bytes_eq}
use Rattle.machine_model.specs.Components.{parts_of}
use Rattle.transfer_plan.specs.Names.{is_component}
use Rattle.transfer_sync.specs.Entries.{TreeListing, entry_of_path, is_same_kind}
use Rattle.transfer_sync.specs.Paths.{directory_of}
use Rattle.transfer_sync.specs.Rules.{is_changed, rules_for}
use Rattle.transfer_sync.specs.Trees.{
  BytesByPath,
  CanApplyAll,
  IsTreeOf,
  Node,
  Nothing,
  Tree,
  node_of,
  tree_after_all,
}
use Rattle.transfer_sync.specs.Verdicts.{
  blocked_paths,
  conflicts_of,
  entry_left_at,
  has_other_attributes,
  is_blocked,
  is_ignored,
  is_in_source,
  is_in_way,
  is_other_content,
  sweep_of,
}
use Rattle.transfer_sync.specs.declared.action.Action.{Action}
use Rattle.transfer_sync.specs.declared.action.Step.{Step}
use Rattle.transfer_sync.specs.declared.action.Step.TheVariants.{
  RemoveFile,
  RemoveDirectory,
  MakeDirectory,
  CopyFile,
  MakeLink,
  SetAttributes,
}
use Rattle.transfer_sync.specs.declared.entry.Entry.{Entry}
use Rattle.transfer_sync.specs.declared.entry.FileFacts.{FileFacts}
use Rattle.transfer_sync.specs.declared.entry.Kind.TheVariants.{File}
use Rattle.transfer_sync.specs.declared.rules.Rules.{Rules}

-- ---- Paths

-- No action is at the path.
abbrev pub HasNoActionAt : List Action → List ℕ → Type 0
HasNoActionAt [] path = Unit {0}
HasNoActionAt (a ∷ later) path = (bytes_eq path a.path ≡ false) × HasNoActionAt later path

-- The directory `n` levels above a path.
abbrev pub directory_above : ℕ → List ℕ → List ℕ
directory_above zero path = path
directory_above (suc n) path = directory_of (directory_above n path)

-- True if the path leads down from the root and never up: each part of it, between two slashes or at an end, is a
-- component.
abbrev pub is_safe_path : List ℕ → Bool
is_safe_path path = list_all is_component (parts_of path)

-- ---- Trees in sync

-- True if the target has an entry of the source as the rules ask for it.
abbrev pub is_up_to_date : Rules → Entry → Option Entry → Bool
is_up_to_date rules s None = false
is_up_to_date rules s (Some t) = not t.excluded && is_same_kind s.kind t.kind
    && not (is_other_content rules s.kind t.kind)
    && not (rules.keep && has_other_attributes s.kind t.kind)

-- Nothing differs: the target has each entry of the source that is not ignored, as the rules ask for it. If extra
-- entries are to be removed, it has no others that are not excluded.
pub record AreInSync (rules : Rules) (source target : List Entry) : Type 0 where
  pub source_entries : (path : List ℕ) (s : Entry) → entry_of_path source path ≡ Some s → is_ignored s ≡ false
      → is_up_to_date rules s (entry_of_path target path) ≡ true
  pub target_entries : (path : List ℕ) (t : Entry) → entry_of_path target path ≡ Some t
      → (not rules.delete || t.excluded || is_in_source (entry_of_path source path) t) ≡ true

-- ---- The target at the end

-- Files that do not count as changed have the same bytes.
abbrev pub UnchangedFilesMatch : Rules → List Entry → List Entry → BytesByPath → BytesByPath → Type 0
UnchangedFilesMatch rules source target from to = (path : List ℕ) (s t : Entry) (f g : FileFacts)
    → entry_of_path source path ≡ Some s
    → entry_of_path target path ≡ Some t
    → s.kind ≡ File f
    → t.kind ≡ File g
    → is_changed rules f g ≡ false
    → to path ≡ from path

-- True if nothing is done for an entry of the source: it is ignored, it is in a directory for which nothing is done, or
-- something that stays in the target is in its way.
abbrev pub skips_entry : Rules → List Entry → List Entry → Entry → Bool
skips_entry rules source target s =
    is_blocked (sweep_of rules source target).gone target (blocked_paths rules source target) s

-- The entry is ignored, something left in the target is in its way, or it is in a directory that is skipped.
abbrev pub HasSkipReason : Rules → List Entry → List Entry → Entry → Type 0
HasSkipReason rules source target s = (is_ignored s ≡ true)
    ⊎ (is_in_way (entry_left_at (sweep_of rules source target).gone target s.path) s.kind ≡ true)
    ⊎ ((f : Entry) × (entry_of_path source (directory_of s.path) ≡ Some f) × (skips_entry rules source target f ≡ true))

-- The target has an entry of the same kind there that counts as equal.
abbrev pub HasEqualEntry : Rules → List Entry → List ℕ → Entry → Type 0
HasEqualEntry rules target path s = (t : Entry) × (entry_of_path target path ≡ Some t)
    × (is_same_kind s.kind t.kind ≡ true)
    × (is_other_content rules s.kind t.kind ≡ false)

-- Each entry of the source that is not skipped is as the source has it, or was equal by the rules and is unchanged; if
-- such files have the same bytes, it is as the source has it. Any other path has what it had before, and what is
-- removed has nothing.
pub record IsFinalTree (rules : Rules) (source target : List Entry) (from to : BytesByPath) (tree end : Tree) : Type 0
  where
    pub copied : (path : List ℕ) (s : Entry) → entry_of_path source path ≡ Some s → skips_entry rules source target s
        ≡ false
        → (end path ≡ node_of (from path) s.kind) ⊎ (HasEqualEntry rules target path s × (end path ≡ tree path))
    pub synced : UnchangedFilesMatch rules source target from to → (path : List ℕ) (s : Entry)
        → entry_of_path source path ≡ Some s
        → skips_entry rules source target s ≡ false
        → end path ≡ node_of (from path) s.kind
    pub skipped : (path : List ℕ) (s : Entry) → entry_of_path source path ≡ Some s → skips_entry rules source target s
        ≡ true
        → end path ≡ (if (sweep_of rules source target).gone path then Nothing else tree path)
    pub others : (path : List ℕ) → entry_of_path source path ≡ None
        → end path ≡ (if (sweep_of rules source target).gone path then Nothing else tree path)

-- Nothing is excluded, and the source has files, directories and symbolic links alone.
pub record HaveNoExceptions (source target : List Entry) : Type 0 where
  pub from_source : (path : List ℕ) (s : Entry) → entry_of_path source path ≡ Some s → is_ignored s ≡ false
  pub from_target : (path : List ℕ) (t : Entry) → entry_of_path target path ≡ Some t → t.excluded ≡ false

-- The tree has at each path of the source what the source has, and at each other path of the target nothing.
pub record IsMirror (source target : List Entry) (from : BytesByPath) (tree : Tree) : Type 0 where
  pub source_paths : (path : List ℕ) (s : Entry) → entry_of_path source path ≡ Some s → tree path
      ≡ node_of (from path) s.kind
  pub extra_paths : (path : List ℕ) (t : Entry) → entry_of_path target path ≡ Some t → entry_of_path source path ≡ None
      → tree path ≡ Nothing

-- ---- What is removed, and what stays

-- An entry of the target stays for a reason: nothing is to be removed, it is excluded, the source has something of the
-- same kind there, or something that stays is in it.
abbrev pub HasStayReason : Rules → List Entry → List Entry → List ℕ → Entry → Type 0
HasStayReason rules source target path t =
    ((not rules.delete || t.excluded || is_in_source (entry_of_path source path) t) ≡ true)
    ⊎ ((c : Entry) × (entry_of_path target c.path ≡ Some c) × (directory_of c.path ≡ path)
    × ((sweep_of rules source target).gone c.path ≡ false))

-- What is removed is an entry of the target, removals are allowed, it is not excluded, and the source has nothing of
-- the same kind there.
abbrev pub HasRemovalReason : Rules → List Entry → List Entry → List ℕ → Type 0
HasRemovalReason rules source target path = (t : Entry) × (entry_of_path target path ≡ Some t)
    × ((not rules.delete || t.excluded || is_in_source (entry_of_path source path) t) ≡ false)

-- ---- A run that stops early

-- A path has what it had before, or what the source has, or nothing. It has nothing only if the target had something
-- there of which the source has nothing of the same kind.
abbrev pub IsIntermediateNode : Rules → List Entry → List Entry → BytesByPath → Tree → List ℕ → Node → Type 0
IsIntermediateNode rules source target from tree path now = (now ≡ tree path)
    ⊎ ((s : Entry) × (entry_of_path source path ≡ Some s) × (now ≡ node_of (from path) s.kind))
    ⊎ ((t : Entry) × (entry_of_path target path ≡ Some t) × (is_in_source (entry_of_path source path) t ≡ false)
    × (now ≡ Nothing))

-- ---- The number of removals

-- True for a removal.
abbrev pub is_removal : Step → Bool
is_removal RemoveFile = true
is_removal RemoveDirectory = true
is_removal MakeDirectory = false
is_removal CopyFile = false
is_removal (MakeLink text) = false
is_removal SetAttributes = false

-- The number of removals.
abbrev pub removal_count : List Action → ℕ
removal_count [] = 0
removal_count (a ∷ later) = if is_removal a.step then suc (removal_count later) else removal_count later

-- The number is at most the limit, if there is one.
abbrev pub IsWithinMaxDelete : Option ℕ → ℕ → Type 0
IsWithinMaxDelete None n = Unit {0}
IsWithinMaxDelete (Some most) n = n ≤ most

-- ---- All promises

-- The promises by these rules, whatever the bytes of the files are.
pub record KeepsRules (rules : Rules) (source target : List Entry) (actions : List Action) : Type 0 where
  -- If nothing differs, there is no action and no conflict.
  pub nothing_to_do : AreInSync rules source target → actions ≡ []
  pub nothing_to_report : AreInSync rules source target → conflicts_of rules source target ≡ []
  -- No action is at a path at which nothing differs, nor at one that neither walk found.
  pub equal_paths : (path : List ℕ) (s t : Entry) → entry_of_path source path ≡ Some s → entry_of_path target path
      ≡ Some t
      → is_ignored s ≡ false
      → is_up_to_date rules s (Some t) ≡ true
      → HasNoActionAt actions path
  pub unknown_paths : (path : List ℕ) → entry_of_path source path ≡ None → entry_of_path target path ≡ None
      → HasNoActionAt actions path
  -- No action is at an excluded path of the target or below it, and no directory above it is removed.
  pub excluded_paths : (path : List ℕ) (t : Entry) → entry_of_path target path ≡ Some t → t.excluded ≡ true
      → (other : List ℕ) (n : ℕ)
      → directory_above n other ≡ path
      → HasNoActionAt actions other
  pub directories_above : (path : List ℕ) (t : Entry) → entry_of_path target path ≡ Some t → t.excluded ≡ true → (n : ℕ)
      → (sweep_of rules source target).gone (directory_above n path) ≡ false
  -- Each action can be carried out after those before it.
  pub order : (from to : BytesByPath) (tree : Tree) → IsTreeOf target to tree → CanApplyAll from actions tree
  -- At the end the target is as the source, except for what is skipped.
  pub final_tree : (from to : BytesByPath) (tree : Tree) → IsTreeOf target to tree
      → IsFinalTree rules source target from to tree (tree_after_all from actions tree)
  -- If extra entries are to be removed and there are no exceptions, the target is a mirror of the source at the end,
  -- and there is no conflict.
  pub mirror_tree : rules.delete ≡ true → HaveNoExceptions source target → (from to : BytesByPath) (tree : Tree)
      → IsTreeOf target to tree
      → UnchangedFilesMatch rules source target from to
      → IsMirror source target from (tree_after_all from actions tree)
  pub mirror_conflicts : rules.delete ≡ true → HaveNoExceptions source target → conflicts_of rules source target ≡ []
  -- What is removed, what stays and what is skipped has a reason.
  pub removal_reasons : (path : List ℕ) → (sweep_of rules source target).gone path ≡ true
      → HasRemovalReason rules source target path
  pub stay_reasons : (path : List ℕ) (t : Entry) → entry_of_path target path ≡ Some t
      → (sweep_of rules source target).gone path ≡ false
      → HasStayReason rules source target path t
  pub skip_reasons : (s : Entry) → skips_entry rules source target s ≡ true → HasSkipReason rules source target s
  -- Without `delete` nothing is removed.
  pub additive : rules.delete ≡ false → removal_count actions ≡ 0
  -- There are no more removals than the limit.
  pub limit : IsWithinMaxDelete rules.max_delete (removal_count actions)
  -- If only the first actions are carried out, each path has what it had, what the source has, or nothing.
  pub interrupted_tree : (from to : BytesByPath) (tree : Tree) → IsTreeOf target to tree → (done later : List Action)
      → actions ≡ done ++ later
      → (path : List ℕ)
      → IsIntermediateNode rules source target from tree path (tree_after_all from done tree path)

-- The promises of a plan.
pub record IsSync (rules : Rules) (source target : TreeListing) (actions : List Action) : Type 0 where
  -- The promises by the rules that hold for the source.
  pub keeps_rules : KeepsRules (rules_for rules source.complete) source.entries target.entries actions
  -- If the source was not listed to its end, nothing is removed, whatever the rules are.
  pub safe : source.complete ≡ false → removal_count actions ≡ 0
  -- The path of each action leads down from the root and never up.
  pub inside : list_all (λ (a : Action). is_safe_path a.path) actions ≡ true
