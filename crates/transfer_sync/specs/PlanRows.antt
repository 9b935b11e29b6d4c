-- Worked plans.
use Rattle.std.specs.Prelude.{◌≡◌, ℕ, Bool, true, false, List, [], ◌∷◌, Some, None, codes, refl}
use Rattle.sftp_model.specs.Frames.{no_attributes}
use Rattle.transfer_plan.specs.Names.{is_component}
use Rattle.transfer_sync.specs.Actions.{actions_of}
use Rattle.transfer_sync.specs.Listings.{is_listing, name_in_directory}
use Rattle.transfer_sync.specs.Paths.{directory_of}
use Rattle.transfer_sync.specs.Rules.{rules_for}
use Rattle.transfer_sync.specs.Theorems.{is_safe_path}
use Rattle.transfer_sync.specs.Verdicts.{conflicts_of}
use Rattle.transfer_sync.specs.declared.action.Action.{Action}
use Rattle.transfer_sync.specs.declared.action.Step.{Step}
use Rattle.transfer_sync.specs.declared.action.Step.TheVariants.{
  RemoveFile,
  RemoveDirectory,
  MakeDirectory,
  CopyFile,
  MakeLink,
  SetAttributes,
}
use Rattle.transfer_sync.specs.declared.entry.Entry.{Entry}
use Rattle.transfer_sync.specs.declared.entry.Kind.{Kind}
use Rattle.transfer_sync.specs.declared.entry.Kind.TheVariants.{File, Directory, Link}
use Rattle.transfer_sync.specs.declared.rules.Changed.{Changed}
use Rattle.transfer_sync.specs.declared.rules.Changed.TheVariants.{SizeOrTime, Size, Always}
use Rattle.transfer_sync.specs.declared.rules.Rules.{Rules}

-- An entry that is not excluded.
abbrev entry_at : List ℕ → Kind → Entry
entry_at path kind =
    record { path = path; kind = kind; excluded = false; depth = 1; attrs = no_attributes }

-- A file of a length and a time.
abbrev file : List ℕ → ℕ → ℕ → Entry
file path len time = entry_at path (File (record { len = len; modified = Some time; mode = None }))

-- A directory.
abbrev directory : List ℕ → Entry
directory path = entry_at path (Directory None)

-- A directory with permissions.
abbrev directory_with : List ℕ → ℕ → Entry
directory_with path mode = entry_at path (Directory (Some mode))

-- A symbolic link.
abbrev link : List ℕ → List ℕ → Entry
link path text = entry_at path (Link text)

-- The entry, excluded.
abbrev excluded_entry : Entry → Entry
excluded_entry e = record e { excluded = true }

-- Rules with and without removals.
abbrev rules : Bool → Rules
rules delete =
    record { delete = delete; changed = SizeOrTime; only_newer = false; keep = true; max_delete = None }

-- Rules with another test for files that changed.
abbrev rules_by : Changed → Rules
rules_by changed = record (rules false) { changed = changed }

-- Rules that copy newer files alone.
abbrev newer_rules : Rules
newer_rules = record (rules false) { only_newer = true }

-- An action.
abbrev action : Step → List ℕ → Action
action step path = record { step = step; path = path }

-- ---- Paths

pub directory_of_deep_path : directory_of (codes "a/b/c") ≡ codes "a/b"
directory_of_deep_path = refl

pub directory_is_root : directory_of (codes "a") ≡ []
directory_is_root = refl

pub name_of_deep_path : name_in_directory (codes "a/b/c") ≡ codes "c"
name_of_deep_path = refl

pub name_is_path : name_in_directory (codes "a") ≡ codes "a"
name_is_path = refl

pub path_inside : is_safe_path (codes "a/b/c") ≡ true
unfolding is_component
path_inside = refl

pub path_outside : is_safe_path (codes "a/../../b") ≡ false
unfolding is_component
path_outside = refl

-- ---- Listings

-- A directory comes before its entries.
pub in_order : is_listing (directory (codes "a") ∷ file (codes "a/b") 1 1 ∷ []) ≡ true
unfolding is_component
in_order = refl

pub out_of_order : is_listing (file (codes "a/b") 1 1 ∷ directory (codes "a") ∷ []) ≡ false
unfolding is_component
out_of_order = refl

pub one_path_twice : is_listing (file (codes "a") 1 1 ∷ file (codes "a") 1 1 ∷ []) ≡ false
unfolding is_component
one_path_twice = refl

-- A name that leads up is refused, also below a directory, and so is a path from the root of the file system.
pub name_leads_up : is_listing (directory (codes "..") ∷ file (codes "../a") 1 1 ∷ []) ≡ false
unfolding is_component
name_leads_up = refl

pub deep_name_leads_up : is_listing (directory (codes "a") ∷ directory (codes "a/..") ∷ []) ≡ false
unfolding is_component
deep_name_leads_up = refl

pub absolute_path : is_listing (file (codes "/a") 1 1 ∷ []) ≡ false
unfolding is_component
absolute_path = refl

pub no_path_at_all : is_listing (file [] 1 1 ∷ []) ≡ false
unfolding is_component
no_path_at_all = refl

pub slash_at_end : is_listing (directory (codes "a") ∷ directory (codes "a/") ∷ []) ≡ false
unfolding is_component
slash_at_end = refl

-- ---- Plans

-- Into an empty directory: directories, then files, then links.
pub first_run : actions_of (rules true)
    (link (codes "l") (codes "a") ∷ directory (codes "a") ∷ file (codes "a/b") 1 1 ∷ directory (codes "c") ∷ []) []
    ≡ action MakeDirectory (codes "a") ∷ action MakeDirectory (codes "c") ∷ action CopyFile (codes "a/b")
    ∷ action (MakeLink (codes "a")) (codes "l")
    ∷ []
first_run = refl

-- The second run has nothing to do.
pub second_run : actions_of (rules true) (directory (codes "a") ∷ file (codes "a/b") 1 1 ∷ [])
    (directory (codes "a") ∷ file (codes "a/b") 1 1 ∷ [])
    ≡ []
second_run = refl

-- A file of another length or time is copied.
pub changed_files : actions_of (rules false) (file (codes "a") 1 1 ∷ file (codes "b") 1 1 ∷ file (codes "c") 1 1 ∷ [])
    (file (codes "a") 2 1 ∷ file (codes "b") 1 2 ∷ file (codes "c") 1 1 ∷ [])
    ≡ action CopyFile (codes "a") ∷ action CopyFile (codes "b") ∷ []
changed_files = refl

-- By length alone, a file of another time is not copied; its time is set.
pub changed_by_length : actions_of (rules_by Size) (file (codes "a") 1 1 ∷ file (codes "b") 1 1 ∷ [])
    (file (codes "a") 2 1 ∷ file (codes "b") 1 2 ∷ [])
    ≡ action CopyFile (codes "a") ∷ action SetAttributes (codes "b") ∷ []
changed_by_length = refl

-- Every file is copied again, if that is the rule.
pub always_changed : actions_of (rules_by Always) (file (codes "a") 1 1 ∷ []) (file (codes "a") 1 1 ∷ [])
    ≡ action CopyFile (codes "a") ∷ []
always_changed = refl

-- A file is not copied over a newer one; without `keep` nothing is done for it.
pub newer_files : actions_of (record newer_rules { keep = false })
    (file (codes "a") 1 2 ∷ file (codes "b") 1 1 ∷ file (codes "c") 2 1 ∷ [])
    (file (codes "a") 1 1 ∷ file (codes "b") 1 2 ∷ file (codes "c") 1 1 ∷ [])
    ≡ action CopyFile (codes "a") ∷ []
newer_files = refl

-- A link with another text is replaced.
pub changed_link : actions_of (rules false) (link (codes "l") (codes "a") ∷ []) (link (codes "l") (codes "b") ∷ [])
    ≡ action (MakeLink (codes "a")) (codes "l") ∷ []
changed_link = refl

-- A directory that is created gets its permissions last.
pub permissions_last : actions_of (rules false) (directory_with (codes "a") 365 ∷ file (codes "a/b") 1 1 ∷ []) []
    ≡ action MakeDirectory (codes "a") ∷ action CopyFile (codes "a/b") ∷ action SetAttributes (codes "a") ∷ []
permissions_last = refl

-- What only the target has is removed if that is the rule, the deepest path first.
pub extra_entries : actions_of (rules true) []
    (directory (codes "a") ∷ directory (codes "a/b") ∷ file (codes "a/b/c") 1 1 ∷ [])
    ≡ action RemoveFile (codes "a/b/c") ∷ action RemoveDirectory (codes "a/b") ∷ action RemoveDirectory (codes "a") ∷ []
extra_entries = refl

pub extra_entries_stay : actions_of (rules false) [] (file (codes "a") 1 1 ∷ []) ≡ []
extra_entries_stay = refl

-- An incomplete source removes nothing, whatever the rule is.
pub incomplete_source : actions_of (rules_for (rules true) false) (file (codes "a") 1 1 ∷ [])
    (file (codes "b") 1 1 ∷ [])
    ≡ action CopyFile (codes "a") ∷ []
incomplete_source = refl

pub complete_source : actions_of (rules_for (rules true) true) (file (codes "a") 1 1 ∷ []) (file (codes "b") 1 1 ∷ [])
    ≡ action RemoveFile (codes "b") ∷ action CopyFile (codes "a") ∷ []
complete_source = refl

-- What is excluded stays, and with it the directories above it.
pub excluded_entries : actions_of (rules true) []
    (directory (codes "a") ∷ file (codes "a/b") 1 1 ∷ excluded_entry (file (codes "a/c") 1 1) ∷ [])
    ≡ action RemoveFile (codes "a/b") ∷ []
excluded_entries = refl

-- A file at the path of a directory is a conflict, and nothing is done for the entries of the directory.
pub conflict_paths : conflicts_of (rules false) (directory (codes "a") ∷ file (codes "a/b") 1 1 ∷ [])
    (file (codes "a") 1 1 ∷ [])
    ≡ codes "a" ∷ []
conflict_paths = refl

pub conflict_without_action : actions_of (rules false) (directory (codes "a") ∷ file (codes "a/b") 1 1 ∷ [])
    (file (codes "a") 1 1 ∷ [])
    ≡ []
conflict_without_action = refl

-- If removals are allowed, the file is removed first.
pub replaced_kind : actions_of (rules true) (directory (codes "a") ∷ file (codes "a/b") 1 1 ∷ [])
    (file (codes "a") 1 1 ∷ [])
    ≡ action RemoveFile (codes "a") ∷ action MakeDirectory (codes "a") ∷ action CopyFile (codes "a/b") ∷ []
replaced_kind = refl
