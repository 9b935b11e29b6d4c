-- How entries become a listing.
use Rattle.std.specs.Prelude.{◌≡◌, ◌+◌, ◌==◌, ◌&&◌, ℕ, Bool, true, not, List, [], ◌∷◌, ◌++◌, length, take, drop, Option, Some, None, if◌then◌else◌}
use Rattle.std.specs.List.{list_any, slice_get}
use Rattle.std.specs.Option.{is_some}
use Rattle.std.specs.Str.{bytes_eq}
use Rattle.transfer_plan.specs.Names.{is_component}
use Rattle.transfer_sync.specs.Entries.{TreeListing, entry_of_path, has_open_directory, is_open_directory}
use Rattle.transfer_sync.specs.PathMaps.{Places}
use Rattle.transfer_sync.specs.Paths.{Paths, directory_of, with_path}
use Rattle.transfer_sync.specs.declared.entry.Entry.{Entry}
use Rattle.transfer_sync.specs.declared.listing.ListingError.{ListingError}
use Rattle.transfer_sync.specs.declared.listing.ListingError.TheVariants.{BadName, NoDirectory, Twice, OutOfMemory}

-- The listing of these entries.
abbrev pub listing_of : List Entry → Bool → TreeListing
listing_of entries complete = record { entries = entries; complete = complete }

-- ---- Which entries are a listing

-- The name of a path in its directory: the bytes after the directory and a slash, or all of them if the directory is
-- the root. So a path that begins with a slash has a name with a slash.
abbrev pub name_in_directory : List ℕ → List ℕ
name_in_directory path = if length (directory_of path) == 0 then path else drop (length (directory_of path) + 1) path

-- True if an entry has the path.
abbrev pub has_entry : List Entry → List ℕ → Bool
has_entry entries path = list_any (λ (e : Entry). bytes_eq path e.path) entries

-- True if an entry may follow these: its name is a component, it is in the root or in a directory among them whose
-- entries are listed, and none of them has its path.
abbrev pub can_follow : List Entry → Entry → Bool
can_follow before e = is_component (name_in_directory e.path) && has_open_directory before (directory_of e.path)
    && not (has_entry before e.path)

-- True if each of the later entries may follow those before it.
abbrev pub can_follow_all : List Entry → List Entry → Bool
can_follow_all before [] = true
can_follow_all before (e ∷ later) = can_follow before e && can_follow_all (before ++ e ∷ []) later

-- True if the entries are a listing: no two of one path, each after the directory that it is in, and each with a name
-- that is a component.
abbrev pub is_listing : List Entry → Bool
is_listing entries = can_follow_all [] entries

-- ---- The places of the entries

-- The place is that of the entry of a path, if there is one.
abbrev pub IsPlaceOf : List Entry → List ℕ → Option ℕ → Type 0
IsPlaceOf entries path None = entry_of_path entries path ≡ None
IsPlaceOf entries path (Some place) =
    (e : Entry) × (slice_get entries place ≡ Some e) × (entry_of_path entries path ≡ Some e)

-- The entries are a listing, and the map has their places.
pub record IsIndexOf (entries : List Entry) (places : Places) : Type 0 where
  pub listing : is_listing entries ≡ true
  pub placed : (path : List ℕ) → IsPlaceOf entries path (places path)

-- The set with the path of an entry, if that is a directory whose entries are listed.
abbrev pub with_open_directory : Paths → Entry → Paths
with_open_directory directories e = if is_open_directory e then with_path directories e.path else directories

-- ---- Faults

-- The reason why an entry cannot follow others, given the places of their paths and the directories among them whose
-- entries are listed.
abbrev pub listing_fault : Places → Paths → ℕ → Entry → Option ListingError
listing_fault places directories place e =
    if not (is_component (name_in_directory e.path)) then Some (BadName place)
    else if not (directories (directory_of e.path)) then Some (NoDirectory place)
    else if is_some (places e.path) then Some (Twice place)
    else None

-- The entries before this place are a listing, and the entry there cannot follow them for this reason.
pub record IsFirstBadEntry (entries : List Entry) (place : ℕ) (is_fault : List Entry → Entry → Bool) : Type 0 where
  pub entry : Entry
  pub at : slice_get entries place ≡ Some entry
  pub before : is_listing (take place entries) ≡ true
  pub fault : is_fault (take place entries) entry ≡ true

-- The error names the first entry that is at fault, and its fault.
abbrev pub IsFault : List Entry → ListingError → Type 0
IsFault entries OutOfMemory = Unit {0}
IsFault entries (BadName place) = IsFirstBadEntry entries place
    (λ before e. not (is_component (name_in_directory e.path)))
IsFault entries (NoDirectory place) =
    IsFirstBadEntry entries place (λ before e. not (has_open_directory before (directory_of e.path)))
IsFault entries (Twice place) = IsFirstBadEntry entries place (λ before e. has_entry before e.path)
