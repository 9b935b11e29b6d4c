-- A report of the largest files of a tree.
use Rattle.std.specs.Prelude.{◌≡◌, ℕ, List, [], ◌∷◌, ◌++◌, Ok, flat_map, length, map}
use Rattle.std.specs.Fmt.{decimal}
use Rattle.std.specs.List.Sorted.{IsPermutation}
use Rattle.sftp_link.specs.Views.{LinkView}
use Rattle.sftp_client.specs.Calls.{WritesPath}
use Rattle.sftp_client.specs.Sessions.{SftpValue}
use Rattle.sftp_client.specs.Walks.{WalksWhole}
use Rattle.sftp_client.specs.declared.walk_entry.WalkEntry.{WalkEntry}
use Rattle.example_client.specs.Downloads.{AreDownloads, downloaded_file}
use Rattle.example_client.specs.Largest.{AreLargest, size_of}
use Rattle.example_client.specs.declared.downloads.Download.{Download}

-- A number in decimal digits, and a space.
abbrev pub number_word : ℕ → List ℕ
number_word n = decimal n ++ 32 ∷ []

-- The line of a file: its size as it was listed, the number of bytes that came, and its path.
abbrev pub report_line : Download → List ℕ
report_line done = number_word (size_of done.file) ++ (number_word (length done.bytes.items) ++ (done.file.path
    ++ 10 ∷ []))

-- A tree was walked, its largest files were downloaded, in whatever order they came, and a line for each was written to
-- a file.
pub record WritesReport {L S : Type 0} (directory target : List ℕ) (state : L → LinkView S) (old new : SftpValue L) :
    Type 0 where
  pub walked : SftpValue L
  pub read : SftpValue L
  pub found : List WalkEntry
  pub files : List WalkEntry
  pub done : List Download
  pub walks : WalksWhole directory state old walked found
  pub largest : AreLargest found files
  pub downloads : AreDownloads files state walked read done
  pub all : IsPermutation files (map downloaded_file done)
  pub writes : WritesPath target (flat_map report_line done) state read new (Ok tt)
