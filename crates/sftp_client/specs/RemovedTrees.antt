-- Trees that a session removes.
use Rattle.std.specs.Prelude.{◌≡◌, ◌⊎◌, refl, ℕ, Bool, true, false, List, [], ◌∷◌, ◌++◌, map, reverse, codes, Option, Some, None, option_and_then, Result, Ok, Err, if◌then◌else◌}
use Rattle.sftp_meta.specs.FileType.{type_of_mode}
use Rattle.sftp_meta.specs.declared.file_type.RawFileType.{RawFileType}
use Rattle.sftp_meta.specs.declared.file_type.RawFileType.TheVariants as kind
use Rattle.sftp_model.specs.declared.error.Error.{Error}
use Rattle.sftp_model.specs.declared.file_attrs.FileAttrs.{FileAttrs}
use Rattle.sftp_link.specs.Views.{LinkView}
use Rattle.plan_model.specs.PathPlans.{lstat_next, remove_next, rmdir_next}
use Rattle.plan_state.specs.Keeping.{KeepsHeld}
use Rattle.sftp_file.specs.Settles.{settle_meaning}
use Rattle.sftp_file.specs.Tells.{attrs_meaning}
use Rattle.sftp_fs.specs.PathStarts.{PathPlan}
use Rattle.sftp_client.specs.Calls.{CallsOnPath, IsCallable}
use Rattle.sftp_client.specs.CreatedDirs.{directory_attrs, file_attrs, is_directory}
use Rattle.sftp_client.specs.Sequences.{RunsAll}
use Rattle.sftp_client.specs.Sessions.{SftpValue}
use Rattle.sftp_client.specs.Walks.{StopsWalk, WalksWhole}
use Rattle.sftp_client.specs.declared.walk_entry.WalkEntry.{WalkEntry}

-- ---- What is removed

-- A path, and true if the server reported a directory there.
pub record Removal : Type 0 where
  pub path : List ℕ
  pub directory : Bool

abbrev pub removal_of : WalkEntry → Removal
removal_of entry = record { path = entry.path; directory = is_directory entry.metadata }

-- The entries of a walk in reverse order, and then the directory itself. Each entry is found after its directory, so it
-- is removed before it.
abbrev pub removals_of : List ℕ → List WalkEntry → List Removal
removals_of path found = map removal_of (reverse found) ++ record { path = path; directory = true } ∷ []

-- A directory is removed by RMDIR, and anything else by REMOVE.
abbrev pub removal_plan : Bool → List ℕ → PathPlan
removal_plan true path = rmdir_next path
removal_plan false path = remove_next path

abbrev pub RemovesOne : {L S : Type 0} → (L → LinkView S) → Removal → SftpValue L → SftpValue L
    → Result (Unit {0}) Error → Type 0
RemovesOne state removal old new result =
    CallsOnPath settle_meaning (removal_plan removal.directory removal.path) state old new result

-- These were removed, in order, up to the first that failed.
abbrev pub RemovesEach : {L S : Type 0} → (L → LinkView S) → List Removal → SftpValue L → SftpValue L
    → Result (Unit {0}) Error → Type 0
RemovesEach state removals old new result = RunsAll (RemovesOne state) state removals old new result

-- ---- A directory

-- A directory was walked, and then its entries and the directory itself were removed, up to the first that failed.
pub record RemovesWalked {L S : Type 0} (path : List ℕ) (state : L → LinkView S) (old new : SftpValue L)
    (result : Result (Unit {0}) Error) : Type 0 where
  pub walked : SftpValue L
  pub found : List WalkEntry
  pub walks : WalksWhole path state old walked found
  pub removes : RemovesEach state (removals_of path found) walked new result

-- The walk failed, and nothing was removed.
pub record IsNotWalked {L S : Type 0} (path : List ℕ) (state : L → LinkView S) (old new : SftpValue L)
    (result : Result (Unit {0}) Error) : Type 0 where
  pub error : Error
  pub stops : StopsWalk path state old new error
  pub is : result ≡ Err error

pub record RemovesTree {L S : Type 0} (path : List ℕ) (state : L → LinkView S) (old new : SftpValue L)
    (result : Result (Unit {0}) Error) : Type 0 where
  pub removes : RemovesWalked path state old new result ⊎ IsNotWalked path state old new result
  pub keeps : KeepsHeld old.core new.core
  pub callable : IsCallable state new

-- ---- A path

abbrev pub is_link_type : Option RawFileType → Bool
is_link_type (Some kind.Symlink) = true
is_link_type other = false

-- The server reported that these are the attributes of a symbolic link.
abbrev pub is_link : FileAttrs → Bool
is_link attrs = is_link_type (option_and_then type_of_mode attrs.permissions)

-- A symbolic link was removed itself, and anything else as a directory.
abbrev pub RemovesKind : {L S : Type 0} → (L → LinkView S) → List ℕ → Bool → SftpValue L → SftpValue L
    → Result (Unit {0}) Error → Type 0
RemovesKind state path true old new result = CallsOnPath settle_meaning (remove_next path) state old new result
RemovesKind state path false old new result = RemovesTree path state old new result

-- The end of a removal, by the result of the LSTAT.
abbrev pub EndsRemoval : {L S : Type 0} → (L → LinkView S) → List ℕ → Result FileAttrs Error → SftpValue L
    → SftpValue L → Result (Unit {0}) Error → Type 0
EndsRemoval state path (Ok attrs) old new result = RemovesKind state path (is_link attrs) old new result
EndsRemoval state path (Err e) old new result = (new ≡ old) × (result ≡ Err e)

-- The server was asked by LSTAT whether a path is a symbolic link, and then the link or the directory was removed.
-- Whatever the result, the core still holds each ticket and each grant that it held.
pub record RemovesPath {L S : Type 0} (path : List ℕ) (state : L → LinkView S) (old new : SftpValue L)
    (result : Result (Unit {0}) Error) : Type 0 where
  pub told : Result FileAttrs Error
  pub mid : SftpValue L
  pub asks : CallsOnPath attrs_meaning (lstat_next path) state old mid told
  pub ends : EndsRemoval state path told mid new result
  pub keeps : KeepsHeld old.core new.core
  pub callable : IsCallable state new

-- ---- Worked rows

abbrev pub found_file : List ℕ → WalkEntry
found_file path = record { path = path; metadata = file_attrs }

abbrev pub found_dir : List ℕ → WalkEntry
found_dir path = record { path = path; metadata = directory_attrs }

-- A file is removed before its directory, and the directory of the walk last.
pub entries_first : removals_of (codes "a") (found_dir (codes "a/b") ∷ found_file (codes "a/b/c") ∷ []) ≡
    record { path = codes "a/b/c"; directory = false } ∷ record { path = codes "a/b"; directory = true }
    ∷ record { path = codes "a"; directory = true } ∷ []
entries_first = refl

-- An empty directory is removed alone.
pub empty_directory : removals_of (codes "a") [] ≡ record { path = codes "a"; directory = true } ∷ []
empty_directory = refl

-- The mode 0o120777 is that of a symbolic link, which is removed as a file, and 0o040755 that of a directory.
abbrev pub link_attrs : FileAttrs
link_attrs = record { size = None; id = None; permissions = Some 41471; time = None }

pub mode_of_link : is_link link_attrs ≡ true
mode_of_link = refl

pub link_within : removal_of (record { path = codes "a/l"; metadata = link_attrs })
    ≡ record { path = codes "a/l"; directory = false }
link_within = refl

pub directory_is_no_link : is_link directory_attrs ≡ false
directory_is_no_link = refl
