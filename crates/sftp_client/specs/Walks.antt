-- Trees of directories that a session walks.
use Rattle.std.specs.Prelude.{◌≡◌, ◌⊎◌, ◌<◌, refl, ℕ, List, [], ◌∷◌, ◌++◌, length, take, drop, codes, flat_map, None, Some, Result, Ok, Err, if◌then◌else◌}
use Rattle.sftp_model.specs.declared.error.Error.{Error}
use Rattle.sftp_model.specs.declared.error.Error.TheVariants as error
use Rattle.sftp_model.specs.declared.reply.NameEntry.{NameEntry}
use Rattle.sftp_link.specs.Views.{LinkView}
use Rattle.plan_state.specs.Keeping.{KeepsHeld}
use Rattle.transfer_plan.specs.Names.{is_component, path_in}
use Rattle.sftp_client.specs.Calls.{IsUsableAfter, OpensDirectory}
use Rattle.sftp_client.specs.CreatedDirs.{is_directory}
use Rattle.sftp_client.specs.DirCalls.{ListsInPart, ListsWhole}
use Rattle.sftp_client.specs.Sequences.{RunsEach}
use Rattle.sftp_client.specs.Sessions.{SftpValue}
use Rattle.sftp_client.specs.declared.walk_entry.WalkEntry.{WalkEntry}

-- An entry of the directory of a path, as a walk finds it. One whose name is no component is left out: `.` and `..`, an
-- empty name, and a name with a slash or a zero byte.
abbrev pub found_in : List ℕ → NameEntry → List WalkEntry
found_in path entry = if is_component entry.filename
    then record { path = path_in path entry.filename; metadata = entry.attrs } ∷ [] else []

-- The path of an entry, if it is a directory.
abbrev pub dir_in : WalkEntry → List (List ℕ)
dir_in entry = if is_directory entry.metadata then entry.path ∷ [] else []

-- A session, and the entries that its walk has found.
pub record Walking (L : Type 0) : Type 0 where
  pub session : SftpValue L
  pub found : List WalkEntry

-- A directory was listed, and its entries were found, after those that were found before. Or it was not listed, or there
-- was no memory for its entries.
abbrev pub ListsInto : {L S : Type 0} → (L → LinkView S) → List ℕ → Walking L → Walking L → Result (Unit {0}) Error
    → Type 0
ListsInto state dir old new (Ok u) = (entries : List NameEntry) × (ListsWhole dir state old.session new.session entries
    × (new.found ≡ old.found ++ flat_map (found_in dir) entries))
ListsInto state dir old new (Err e) = (OpensDirectory dir state old.session new.session (Err e)
    ⊎ ListsInPart dir state old.session new.session e)
    ⊎ ((e ≡ error.OutOfMemory) × ((entries : List NameEntry) × ListsWhole dir state old.session new.session entries))

-- Directories were listed, one after another: the one of the path, and then, in order and once each, those among the
-- entries that were found. All entries are returned, and there are fewer than 1000000.
pub record WalksWhole {L S : Type 0} (path : List ℕ) (state : L → LinkView S) (old new : SftpValue L)
    (found : List WalkEntry) : Type 0 where
  pub each : RunsEach (ListsInto state) (record { session = old; found = [] }) (record { session = new; found = found })
      (path ∷ flat_map dir_in found) (Ok tt)
  pub few : length found < 1000000

-- The next of these directories was not listed, or its entries found no memory; or there was no memory to go on.
abbrev pub StopsNext : {L S : Type 0} → (L → LinkView S) → List (List ℕ) → Walking L → Walking L → Error → Type 0
StopsNext state left old new e = ((dir : List ℕ) × ((later : List (List ℕ)) × ((left ≡ dir ∷ later)
    × ListsInto state dir old new (Err e))))
    ⊎ ((e ≡ error.OutOfMemory) × (new.session ≡ old.session))

-- Some directories were listed, in the same order, and the next one was not.
pub record StopsWalk {L S : Type 0} (path : List ℕ) (state : L → LinkView S) (old new : SftpValue L) (e : Error) :
    Type 0 where
  pub mid : Walking L
  pub after : List WalkEntry
  pub listed : List (List ℕ)
  pub left : List (List ℕ)
  pub order : path ∷ flat_map dir_in mid.found ≡ listed ++ left
  pub each : RunsEach (ListsInto state) (record { session = old; found = [] }) mid listed (Ok tt)
  pub stops : StopsNext state left mid (record { session = new; found = after }) e

-- These directories were listed, one after another, or the first ones of them.
abbrev pub ListsEach : {L S : Type 0} → (L → LinkView S) → List (List ℕ) → Walking L → Walking L
    → Result (Unit {0}) Error → Type 0
ListsEach state dirs old new (Ok u) = RunsEach (ListsInto state) old new dirs (Ok tt)
ListsEach state dirs old new (Err e) = StopsNext state dirs old new e

-- At most one directory was listed.
pub record ListsDir {L S : Type 0} (state : L → LinkView S) (dirs : List (List ℕ)) (old new : Walking L)
    (result : Result (Unit {0}) Error) : Type 0 where
  pub lists : ListsEach state dirs old new result
  pub keeps : KeepsHeld old.session.core new.session.core
  pub usable : IsUsableAfter state new.session result

-- The path of the entry at a place, if it is a directory.
abbrev pub dirs_at : List WalkEntry → ℕ → List (List ℕ)
dirs_at found at = flat_map dir_in (take 1 (drop at found))

-- ---- Worked rows

abbrev pub plain_entry : List ℕ → NameEntry
plain_entry name = record {
  filename = name;
  longname = [];
  attrs = record { size = None; id = None; permissions = Some 16877; time = None };
}

-- The path of an entry is that of its directory, a slash, and its name.
pub entry_found : flat_map (found_in (codes "a")) (plain_entry (codes "b") ∷ []) ≡ record {
  path = codes "a/b";
  metadata = (plain_entry []).attrs;
} ∷ []
unfolding is_component
entry_found = refl

-- What is no component is left out.
pub self_left_out : found_in (codes "a") (plain_entry (codes ".")) ≡ []
unfolding is_component
self_left_out = refl

pub parent_left_out : found_in (codes "a") (plain_entry (codes "..")) ≡ []
unfolding is_component
parent_left_out = refl

pub slash_left_out : found_in (codes "a") (plain_entry (codes "../b")) ≡ []
unfolding is_component
slash_left_out = refl

-- A directory is listed later, by its path.
pub directory_listed : dir_in (record { path = codes "a/b"; metadata = (plain_entry []).attrs }) ≡ codes "a/b" ∷ []
directory_listed = refl
