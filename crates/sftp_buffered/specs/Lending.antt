-- A buffered file after the file below it is given back.
use Rattle.std.specs.Borrow.{Fml, Lends, MutBor}
use Rattle.sftp_file.specs.Files.{FileValue}
use Rattle.sftp_file.specs.contracts.file.File.{the_row as file_row}
use Rattle.sftp_buffered.specs.Buffered.{CompatValue}
use Rattle.sftp_buffered.specs.Whole.{with_empty_buffer}
use Rattle.sftp_buffered.specs.contracts.file.TokioCompatFile.{the_row}

-- The buffered file is emptied, and has the file as the borrower left it.
abbrev pub LendsFile : MutBor CompatValue → MutBor FileValue → Fml
LendsFile c file = Lends the_row file_row c file (λ last. record (with_empty_buffer c.now) { file = last })
