-- The entries that a listing of the server adds to a walk.
use Rattle.std.specs.Prelude.{
  ◌≡◌,
  ◌≤◌,
  ◌+◌,
  ◌||◌,
  ℕ,
  Bool,
  List,
  [],
  ◌∷◌,
  ◌++◌,
  codes,
  Option,
  Some,
  Result,
  Ok,
  Err,
  if◌then◌else◌,
}
use Rattle.std.specs.List.{flat_map, slice_get}
use Rattle.std.specs.Option.{option_and_then}
use Rattle.std.specs.Str.{bytes_eq}
use Rattle.sftp_model.specs.declared.reply.NameEntry.{NameEntry}
use Rattle.sftp_link.specs.Views.{LinkView}
use Rattle.sftp_client.specs.DirCalls.{ListsWhole}
use Rattle.sftp_client.specs.Sessions.{SftpValue}
use Rattle.sftp_meta.specs.FileType.{type_of_mode}
use Rattle.sftp_meta.specs.declared.file_type.RawFileType.{RawFileType}
use Rattle.sftp_meta.specs.declared.file_type.RawFileType.TheVariants as raw
use Rattle.transfer_plan.specs.Entries.{entry_found}
use Rattle.transfer_plan.specs.Walks.{MAX_ENTRIES, WalkValue}
use Rattle.transfer_plan.specs.declared.found.Found.{Found}
use Rattle.transfer_plan.specs.declared.task.EntryKind.{EntryKind}
use Rattle.transfer_plan.specs.declared.task.EntryKind.TheVariants as kind

-- True for the directory itself and for its parent.
abbrev pub is_self : List ℕ → Bool
is_self name = bytes_eq name (codes ".") || bytes_eq name (codes "..")

-- The kind of an entry, by its type.
abbrev pub kind_of : Option RawFileType → EntryKind
kind_of (Some raw.RegularFile) = kind.File
kind_of (Some raw.Directory) = kind.Folder
kind_of (Some raw.Symlink) = kind.Link
kind_of other = kind.Other

-- The entry of a walk for an entry of a listing, unless it is the directory itself or its parent.
abbrev pub listed_as : Bool → Found → NameEntry → List Found
listed_as texts folder entry =
    if is_self entry.filename then []
    else entry_found texts folder entry.filename (kind_of (option_and_then type_of_mode entry.attrs.permissions))
    entry.attrs
    ∷ []

-- Each of these entries was added once, in their order, as an entry of the listed directory. Nothing else changed.
pub record HasListedInto (entries : List NameEntry) (old new : WalkValue) : Type 0 where
  pub rest : new ≡ record old { found = new.found }
  pub grown : (folder : Found) → slice_get old.found old.at ≡ Some folder
      → new.found ≡ old.found ++ flat_map (listed_as old.texts folder) entries

-- The number of these entries that are the directory itself or its parent.
abbrev pub selves_in : List NameEntry → ℕ
selves_in [] = 0
selves_in (entry ∷ later) = if is_self entry.filename then selves_in later + 1 else selves_in later

-- The walk grew by some entries. At most 1000000 others were the directory itself or its parent.
abbrev pub HasGrown : WalkValue → WalkValue → Type 0
HasGrown old new = (entries : List NameEntry) × HasListedInto entries old new × (selves_in entries ≤ MAX_ENTRIES)

-- A walk, and the number of the listing's entries so far that were the directory itself or its parent.
pub record Gathered : Type 0 where
  pub walk : WalkValue
  pub selves : ℕ

-- Each of these entries was added or counted.
pub record Gathers (entries : List NameEntry) (old new : Gathered) : Type 0 where
  pub listed : HasListedInto entries old.walk new.walk
  pub counted : new.selves ≡ old.selves + selves_in entries
  pub few : old.selves ≤ MAX_ENTRIES → new.selves ≤ MAX_ENTRIES

-- One more entry was counted, or there were 1000000.
abbrev pub CountsSelf : {E : Type 0} → ℕ → ℕ → Result (Unit {0}) E → Type 0
CountsSelf old new (Ok u) = (new ≡ old + 1) × (new ≤ MAX_ENTRIES)
CountsSelf old new (Err e) = (MAX_ENTRIES ≤ old) × (new ≡ old)

-- The entries were added or counted; or an error came, and the walk is unchanged.
abbrev pub GrowsBy : {E : Type 0} → List NameEntry → Gathered → Gathered → Result (Unit {0}) E → Type 0
GrowsBy entries old new (Ok u) = Gathers entries old new
GrowsBy entries old new (Err e) = new.walk ≡ old.walk

-- Each of these entries was added once, except the directory itself and its parent, which are at most 1000000. After an
-- error some entries were added.
abbrev pub AddsEntries : {E : Type 0} → List NameEntry → WalkValue → WalkValue → Result (Unit {0}) E → Type 0
AddsEntries entries old new (Ok u) = HasListedInto entries old new × (selves_in entries ≤ MAX_ENTRIES)
AddsEntries entries old new (Err e) = HasGrown old new

-- ---- A directory

-- The walk's current directory was opened by its path, listed to its end and closed, and each of its entries was added.
pub record ListsFolder {L S : Type 0} (state : L → LinkView S) (old new : SftpValue L) (before after : WalkValue) :
    Type 0 where
  pub folder : Found
  pub entries : List NameEntry
  pub stands : slice_get before.found before.at ≡ Some folder
  pub lists : ListsWhole folder.source state old new entries
  pub grown : HasListedInto entries before after
  pub few : selves_in entries ≤ MAX_ENTRIES

abbrev pub ListsInto : {L S E : Type 0} → (L → LinkView S) → SftpValue L → SftpValue L → WalkValue → WalkValue
    → Result (Unit {0}) E → Type 0
ListsInto state old new before after (Ok u) = ListsFolder state old new before after
ListsInto state old new before after (Err e) = HasGrown before after
