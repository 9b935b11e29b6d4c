-- Directories that are created with those that contain them.
use Rattle.std.specs.Prelude.{◌≡◌, ◌⊎◌, refl, ℕ, Bool, true, false, List, Option, None, Some, option_and_then, Result, Ok, Err, if◌then◌else◌}
use Rattle.sftp_meta.specs.FileType.{type_of_mode}
use Rattle.sftp_meta.specs.declared.file_type.RawFileType.{RawFileType}
use Rattle.sftp_meta.specs.declared.file_type.RawFileType.TheVariants as kind
use Rattle.sftp_model.specs.declared.error.Error.{Error}
use Rattle.sftp_model.specs.declared.error.Error.TheVariants as error
use Rattle.sftp_model.specs.declared.file_attrs.FileAttrs.{FileAttrs}
use Rattle.sftp_link.specs.Views.{LinkView}
use Rattle.plan_model.specs.PathPlans.{mkdir_next, stat_next}
use Rattle.sftp_file.specs.Settles.{settle_meaning}
use Rattle.sftp_file.specs.Tells.{attrs_meaning}
use Rattle.sftp_client.specs.Calls.{CallsOnPath}
use Rattle.sftp_client.specs.DirPaths.{dirs_of}
use Rattle.sftp_client.specs.Sequences.{RunsAll}
use Rattle.sftp_client.specs.Sessions.{SftpValue}

-- The server refused a request by a STATUS.
abbrev pub is_refusal : Error → Bool
is_refusal (error.SftpError code message language) = true
is_refusal other = false

abbrev pub is_directory_type : Option RawFileType → Bool
is_directory_type (Some kind.Directory) = true
is_directory_type other = false

-- The server reported that these are the attributes of a directory.
abbrev pub is_directory : FileAttrs → Bool
is_directory attrs = is_directory_type (option_and_then type_of_mode attrs.permissions)

-- The result of a directory that could not be created, by what the server reports of its path: the refusal stands
-- unless it is a directory, or the call for that failed by itself.
abbrev pub found_or : Result FileAttrs Error → Error → Result (Unit {0}) Error
found_or (Ok attrs) refusal = if is_directory attrs then Ok tt else Err refusal
found_or (Err e) refusal = if is_refusal e then Err refusal else Err e

-- The server was asked for the attributes of a path, after it had refused to create a directory there.
pub record FindsDir {L S : Type 0} (state : L → LinkView S) (path : List ℕ) (refusal : Error) (old new : SftpValue L)
    (result : Result (Unit {0}) Error) : Type 0 where
  pub told : Result FileAttrs Error
  pub asks : CallsOnPath attrs_meaning (stat_next path) state old new told
  pub is : result ≡ found_or told refusal

-- The end of the creation of a directory, by the result of the MKDIR.
abbrev pub EndsMaking : {L S : Type 0} → (L → LinkView S) → List ℕ → Result (Unit {0}) Error → SftpValue L → SftpValue L
    → Result (Unit {0}) Error → Type 0
EndsMaking state path (Ok u) old new result = (new ≡ old) × (result ≡ Ok tt)
EndsMaking state path (Err e) old new result = ((is_refusal e ≡ false) × ((new ≡ old) × (result ≡ Err e)))
    ⊎ ((is_refusal e ≡ true) × FindsDir state path e old new result)

-- A directory was created, or exists.
pub record MakesDir {L S : Type 0} (state : L → LinkView S) (path : List ℕ) (old new : SftpValue L)
    (result : Result (Unit {0}) Error) : Type 0 where
  pub made : Result (Unit {0}) Error
  pub mid : SftpValue L
  pub makes : CallsOnPath settle_meaning (mkdir_next path) state old mid made
  pub ends : EndsMaking state path made mid new result

-- These directories were created, or exist, up to the first that failed.
abbrev pub MakesDirs : {L S : Type 0} → (L → LinkView S) → List (List ℕ) → SftpValue L → SftpValue L
    → Result (Unit {0}) Error → Type 0
MakesDirs state dirs old new result = RunsAll (MakesDir state) state dirs old new result

-- A directory was created with those that its path goes through, the outermost first.
abbrev pub MakesPath : {L S : Type 0} → List ℕ → (L → LinkView S) → SftpValue L → SftpValue L
    → Result (Unit {0}) Error → Type 0
MakesPath path state old new result = MakesDirs state (dirs_of path) old new result

-- ---- Worked rows

abbrev pub directory_attrs : FileAttrs
directory_attrs = record { size = None; id = None; permissions = Some 16877; time = None }

abbrev pub file_attrs : FileAttrs
file_attrs = record { size = Some 3; id = None; permissions = Some 33188; time = None }

-- The mode 0o040755 is that of a directory, 0o100644 that of a file; without a mode nothing is known.
pub mode_of_dir : is_directory directory_attrs ≡ true
mode_of_dir = refl

pub mode_of_file : is_directory file_attrs ≡ false
mode_of_file = refl

pub no_mode : is_directory (record directory_attrs { permissions = None }) ≡ false
no_mode = refl

-- A fault of the link is no refusal.
pub fault_of_link : is_refusal error.LinkFault ≡ false
fault_of_link = refl

-- A directory that exists is no error.
pub dir_exists : (refusal : Error) → found_or (Ok directory_attrs) refusal ≡ Ok tt
dir_exists refusal = refl

-- A file in its place leaves the refusal; so does a second refusal.
pub file_exists : (refusal : Error) → found_or (Ok file_attrs) refusal ≡ Err refusal
file_exists refusal = refl

-- A link that fails meanwhile is reported.
pub link_failed : (refusal : Error) → found_or (Err error.LinkFault) refusal ≡ Err error.LinkFault
link_failed refusal = refl
