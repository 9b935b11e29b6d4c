-- believed
-- Which entries of the target are removed, and for which entries of the source nothing is done.
use Rattle.std.specs.Prelude.{◌&&◌, ◌||◌, ℕ, Bool, false, not, List, [], ◌∷◌, ◌++◌, Option, Some, None, if◌then◌else◌}
use Rattle.std.specs.Str.{bytes_eq}
use Rattle.transfer_sync.specs.Entries.{entry_of_path, is_file, is_directory, is_link, is_same_kind}
use Rattle.transfer_sync.specs.Paths.{Paths, directory_of, no_path, with_path}
use Rattle.transfer_sync.specs.Rules.{is_changed, is_other_mode, is_other_time}
use Rattle.transfer_sync.specs.declared.entry.Entry.{Entry}
use Rattle.transfer_sync.specs.declared.entry.FileFacts.{FileFacts}
use Rattle.transfer_sync.specs.declared.entry.Kind.{Kind}
use Rattle.transfer_sync.specs.declared.entry.Kind.TheVariants.{File, Directory, Link, Other}
use Rattle.transfer_sync.specs.declared.rules.Rules.{Rules}

-- ---- What is removed from the target

-- True if the source has something of the same kind there, which is not excluded.
abbrev pub is_in_source : Option Entry → Entry → Bool
is_in_source None t = false
is_in_source (Some s) t = not s.excluded && is_same_kind s.kind t.kind

-- True if an entry of the target stays: nothing is to be removed, it is excluded, something in it stays, or the source
-- has something of the same kind there.
abbrev pub stays_in_target : Rules → List Entry → Paths → Entry → Bool
stays_in_target rules source kept t =
    not rules.delete || t.excluded || kept t.path || is_in_source (entry_of_path source t.path) t

-- The state of a sweep: the directories in which something stays, the paths that are removed, and the entries that are
-- removed, in order.
pub record SweepValue : Type 0 where
  pub kept : Paths
  pub gone : Paths
  pub removed : List Entry

-- The state before the first entry.
abbrev pub empty_sweep : SweepValue
empty_sweep = record { kept = no_path; gone = no_path; removed = [] }

-- The state after another entry of the target.
abbrev pub sweep_step : Rules → List Entry → SweepValue → Entry → SweepValue
sweep_step rules source w t =
    if stays_in_target rules source w.kept t then record w { kept = with_path w.kept (directory_of t.path) }
    else record w { gone = with_path w.gone t.path; removed = w.removed ++ t ∷ [] }

-- The sweep over the entries of the target, from the last to the first: a directory is removed after its entries.
abbrev pub sweep_of : Rules → List Entry → List Entry → SweepValue
sweep_of rules source [] = empty_sweep
sweep_of rules source (t ∷ later) = sweep_step rules source (sweep_of rules source later) t

-- ---- What is skipped in the source

-- The entry that the target has at a path once these paths are removed.
abbrev pub entry_left_at : Paths → List Entry → List ℕ → Option Entry
entry_left_at gone target path = if gone path then None else entry_of_path target path

-- True if what is left at the path is excluded or of another kind.
abbrev pub is_in_way : Option Entry → Kind → Bool
is_in_way None kind = false
is_in_way (Some t) kind = t.excluded || not (is_same_kind kind t.kind)

-- True if nothing is ever done for the entry: it is excluded, or no file, directory or symbolic link.
abbrev pub is_ignored : Entry → Bool
is_ignored e = e.excluded || not (is_file e.kind || is_directory e.kind || is_link e.kind)

-- True if nothing is done for an entry of the source: it is ignored, it is in a directory for which nothing is done, or
-- something of the target is in its way.
abbrev pub is_blocked : Paths → List Entry → Paths → Entry → Bool
is_blocked gone target blocked e =
    is_ignored e || blocked (directory_of e.path) || is_in_way (entry_left_at gone target e.path) e.kind

-- The paths for which nothing is done, after another entry of the source.
abbrev pub blocked_after_entry : Paths → List Entry → Paths → Entry → Paths
blocked_after_entry gone target blocked e =
    if is_blocked gone target blocked e then with_path blocked e.path else blocked

-- The paths for which nothing is done, after these entries of the source.
abbrev pub blocked_after_entries : Paths → List Entry → Paths → List Entry → Paths
blocked_after_entries gone target blocked [] = blocked
blocked_after_entries gone target blocked (e ∷ later) =
    blocked_after_entries gone target (blocked_after_entry gone target blocked e) later

-- The paths of the source for which nothing is done.
abbrev pub blocked_paths : Rules → List Entry → List Entry → Paths
blocked_paths rules source target = blocked_after_entries (sweep_of rules source target).gone target no_path source

-- ---- Conflicts

-- True if what is left at the path is of another kind, and not excluded.
abbrev pub is_other_kind : Option Entry → Kind → Bool
is_other_kind None kind = false
is_other_kind (Some t) kind = not t.excluded && not (is_same_kind kind t.kind)

-- True if nothing is done for an entry of the source because something of another kind stays at its path.
abbrev pub is_conflict : Paths → List Entry → Paths → Entry → Bool
is_conflict gone target blocked e =
    not (is_ignored e || blocked (directory_of e.path)) && is_other_kind (entry_left_at gone target e.path) e.kind

-- What is made of the entries that pass a test, in order.
abbrev pub choice_of : {X : Type 0} → (Entry → Bool) → (Entry → X) → List Entry → List X
choice_of test make [] = []
choice_of test make (e ∷ later) = if test e then make e ∷ choice_of test make later else choice_of test make later

-- The paths of the conflicts.
abbrev pub conflicts_of : Rules → List Entry → List Entry → List (List ℕ)
conflicts_of rules source target =
    choice_of (is_conflict (sweep_of rules source target).gone target (blocked_paths rules source target))
    (λ (e : Entry). e.path)
    source

-- ---- What differs between two entries

-- True if a file of the source counts as changed against the file of the target.
abbrev pub is_other_file : Rules → FileFacts → Kind → Bool
is_other_file rules f (File g) = is_changed rules f g
is_other_file rules f (Directory mode) = false
is_other_file rules f (Link text) = false
is_other_file rules f Other = false

-- True if a symbolic link of the source has another text than that of the target.
abbrev pub is_other_link : List ℕ → Kind → Bool
is_other_link text (File g) = false
is_other_link text (Directory mode) = false
is_other_link text (Link other) = not (bytes_eq text other)
is_other_link text Other = false

-- True if the content of an entry differs from that of an entry of the same kind; directories never differ.
abbrev pub is_other_content : Rules → Kind → Kind → Bool
is_other_content rules (File f) kind = is_other_file rules f kind
is_other_content rules (Directory mode) kind = false
is_other_content rules (Link text) kind = is_other_link text kind
is_other_content rules Other kind = false

-- True if the permissions or the time of a file are known, and the file of the target has others.
abbrev pub has_other_file_attributes : FileFacts → Kind → Bool
has_other_file_attributes f (File g) = is_other_mode f.mode g.mode || is_other_time f.modified g.modified
has_other_file_attributes f (Directory mode) = false
has_other_file_attributes f (Link text) = false
has_other_file_attributes f Other = false

-- True if the permissions of a directory are known, and the directory of the target has others.
abbrev pub has_other_directory_mode : Option ℕ → Kind → Bool
has_other_directory_mode mode (File g) = false
has_other_directory_mode mode (Directory other) = is_other_mode mode other
has_other_directory_mode mode (Link text) = false
has_other_directory_mode mode Other = false

-- True if permissions or a time are known, and the entry of the target has others. A symbolic link has none.
abbrev pub has_other_attributes : Kind → Kind → Bool
has_other_attributes (File f) kind = has_other_file_attributes f kind
has_other_attributes (Directory mode) kind = has_other_directory_mode mode kind
has_other_attributes (Link text) kind = false
has_other_attributes Other kind = false
