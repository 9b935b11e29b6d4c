-- The first program of the page of the client.
use Rattle.std.specs.Prelude.{ℕ, List, Option, Ok, codes}
use Rattle.sftp_model.specs.declared.reply.NameEntry.{NameEntry}
use Rattle.sftp_link.specs.Views.{LinkView}
use Rattle.sftp_file.specs.Files.{FileValue}
use Rattle.sftp_client.specs.Calls.{OpensPath, ReadsFile, WritesPath}
use Rattle.sftp_client.specs.DirCalls.{ListsWhole}
use Rattle.sftp_client.specs.Opening.{to_read}
use Rattle.sftp_client.specs.Sessions.{SftpValue}
use Rattle.example_client.specs.Files.{IsClosed}

-- A note was written, opened, read, and closed, and then its directory was listed.
pub record IsVisit {L S : Type 0} (state : L → LinkView S) (old new : SftpValue L) (start : Option (List ℕ))
    (entries : List NameEntry) : Type 0 where
  pub written : SftpValue L
  pub opened : SftpValue L
  pub read : SftpValue L
  pub closed : SftpValue L
  pub before : FileValue
  pub after : FileValue
  pub writes : WritesPath (codes "notes.txt") (codes "buy milk\n") state old written (Ok tt)
  pub opens : OpensPath to_read (codes "notes.txt") state written opened (Ok before)
  pub reads : ReadsFile 4096 state before after opened read (Ok start)
  pub closes : IsClosed after state read closed
  pub lists : ListsWhole (codes ".") state closed new entries
