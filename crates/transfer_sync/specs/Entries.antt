-- believed
-- The entries that a walk found.
use Rattle.std.specs.Prelude.{
  ◌&&◌,
  ◌||◌,
  ℕ,
  Bool,
  true,
  false,
  not,
  List,
  [],
  ◌∷◌,
  Option,
  Some,
  None,
  if◌then◌else◌,
}
use Rattle.std.specs.List.{list_any}
use Rattle.std.specs.Str.{bytes_eq}
use Rattle.transfer_sync.specs.declared.entry.Entry.{Entry}
use Rattle.transfer_sync.specs.declared.entry.Kind.{Kind}
use Rattle.transfer_sync.specs.declared.entry.Kind.TheVariants.{File, Directory, Link, Other}

-- True for a file.
abbrev pub is_file : Kind → Bool
is_file (File facts) = true
is_file (Directory mode) = false
is_file (Link text) = false
is_file Other = false

-- True for a directory.
abbrev pub is_directory : Kind → Bool
is_directory (File facts) = false
is_directory (Directory mode) = true
is_directory (Link text) = false
is_directory Other = false

-- True for a symbolic link.
abbrev pub is_link : Kind → Bool
is_link (File facts) = false
is_link (Directory mode) = false
is_link (Link text) = true
is_link Other = false

-- True for two files, two directories or two symbolic links.
abbrev pub is_same_kind : Kind → Kind → Bool
is_same_kind a b = (is_file a && is_file b) || (is_directory a && is_directory b) || (is_link a && is_link b)

-- The entry of a path.
abbrev pub entry_of_path : List Entry → List ℕ → Option Entry
entry_of_path [] path = None
entry_of_path (e ∷ entries) path = if bytes_eq path e.path then Some e else entry_of_path entries path

-- True for a directory whose entries are listed: it is not excluded.
abbrev pub is_open_directory : Entry → Bool
is_open_directory e = is_directory e.kind && not e.excluded

-- True if the path is the root's, or that of a directory whose entries are listed.
abbrev pub has_open_directory : List Entry → List ℕ → Bool
has_open_directory entries path = bytes_eq path []
    || list_any (λ (e : Entry). bytes_eq path e.path && is_open_directory e) entries

-- A listing: the entries that a walk found, and true if it listed everything.
pub record TreeListing : Type 0 where
  pub entries : List Entry
  pub complete : Bool
