-- A report that is written after its files were downloaded.
use Rattle.std.proofs.Common.{◌≡◌, List, ℕ, subst}
use Rattle.std.specs.Prelude.{Result, Ok, Err, OnOk, flat_map}
use Rattle.sftp_model.specs.declared.error.Error.{Error}
use Rattle.sftp_link.specs.Views.{LinkView}
use Rattle.sftp_client.specs.Calls.{IsUsable, IsUsableAfter, WritesPath}
use Rattle.sftp_client.specs.Sessions.{SftpValue}
use Rattle.sftp_client.specs.Walks.{WalksWhole}
use Rattle.sftp_client.specs.declared.walk_entry.WalkEntry.{WalkEntry}
use Rattle.example_client.specs.Downloads.{AreDownloads}
use Rattle.example_client.specs.Largest.{AreLargest}
use Rattle.example_client.specs.Reports.{WritesReport, report_line}
use Rattle.example_client.specs.declared.downloads.Download.{Download}
use Rattle.example_client.proofs.DownloadLaws.{same_files}

pub usable_on_ok : {L S V : Type 0} (state : L → LinkView S) (new : SftpValue L) (result : Result V Error)
    → IsUsableAfter state new result → OnOk result (IsUsable state new)
usable_on_ok state new (Ok value) h = h
usable_on_ok state new (Err e) h = tt

pub report_written : {L S : Type 0} (state : L → LinkView S) (directory target : List ℕ)
    (old walked read new : SftpValue L) (found files : List WalkEntry) (done : List Download) (text : List ℕ)
    (result : Result (Unit {0}) Error) → WalksWhole directory state old walked found → AreLargest found files
    → AreDownloads files state walked read done → text ≡ flat_map report_line done
    → WritesPath target text state read new result → OnOk result (WritesReport directory target state old new)
report_written state directory target old walked read new found files done text (Ok u) walks largest downloads is
    writes =
    record {
      walked = walked;
      read = read;
      found = found;
      files = files;
      done = done;
      walks = walks;
      largest = largest;
      downloads = downloads;
      all = same_files state files walked read done downloads;
      writes = subst (λ (t : List ℕ). WritesPath target t state read new (Ok tt)) is writes;
    }
report_written state directory target old walked read new found files done text (Err e) walks largest downloads is
    writes = tt
