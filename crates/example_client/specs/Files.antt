-- Files of a server that a program writes and reads whole, one call after another.
use Rattle.std.specs.Prelude.{◌≡◌, ℕ, zero, suc, List, [], ◌++◌, Option, None, Some, Ok}
use Rattle.sftp_core.specs.Core.{IsGrant}
use Rattle.sftp_link.specs.Views.{LinkView}
use Rattle.sftp_file.specs.Closes.{ReleasesFile}
use Rattle.sftp_file.specs.Files.{FileValue}
use Rattle.sftp_client.specs.Calls.{ClosesHandle, IsNoneOfFile, OpensPath, ReadsFile, WritesFile}
use Rattle.sftp_client.specs.Opening.{to_create, to_read}
use Rattle.sftp_client.specs.Sessions.{SftpValue}

-- The session's file is one that may be closed.
abbrev pub HasFile : {L : Type 0} → SftpValue L → FileValue → Type 0
HasFile s file = IsGrant s.core file.grant

-- A READ of at most `len` bytes, at the offset of the file, was answered with these bytes, or with the end.
abbrev pub IsRead : {L S : Type 0} → ℕ → (L → LinkView S) → SftpValue L → SftpValue L → FileValue → FileValue
    → Option (List ℕ) → Type 0
IsRead len state old new before after answer = ReadsFile len state before after old new (Ok answer)

-- `n` READs, each at the offset that the one before had reached, returned these bytes.
abbrev pub AreReads : {L S : Type 0} → ℕ → (L → LinkView S) → ℕ → SftpValue L → SftpValue L → FileValue → FileValue
    → List ℕ → Type 0
AreReads len state zero old new before after bytes = (new ≡ old) × ((after ≡ before) × (bytes ≡ []))
AreReads {L = L} len state (suc n) old new before after bytes = (mid : SftpValue L) × ((file : FileValue)
    × ((first : List ℕ) × ((part : List ℕ) × (AreReads len state n old mid before file first
    × (IsRead len state mid new file after (Some part) × (bytes ≡ first ++ part))))))

-- All READs from the offset of the file on, up to the one that was answered with the end.
pub record IsReadToEnd {L S : Type 0} (state : L → LinkView S) (old new : SftpValue L) (before after : FileValue)
    (bytes : List ℕ) : Type 0 where
  pub len : ℕ
  pub count : ℕ
  pub mid : SftpValue L
  pub file : FileValue
  pub reads : AreReads len state count old mid before file bytes
  pub end : IsRead len state mid new file after None

-- The CLOSE of a file was answered with OK.
abbrev pub IsClosed : {L S : Type 0} → FileValue → (L → LinkView S) → SftpValue L → SftpValue L → Type 0
IsClosed file state old new = ClosesHandle (ReleasesFile file) (IsNoneOfFile file) state old new (Ok tt)

-- ---- A whole file

-- A file was created or truncated, all its bytes were written, and it was closed.
pub record IsPut {L S : Type 0} (path content : List ℕ) (state : L → LinkView S) (old new : SftpValue L) : Type 0 where
  pub opened : SftpValue L
  pub written : SftpValue L
  pub before : FileValue
  pub after : FileValue
  pub opens : OpensPath to_create path state old opened (Ok before)
  pub writes : WritesFile content state before after opened written (Ok tt)
  pub closes : IsClosed after state written new

-- A file was opened, read to its end, and closed.
pub record IsGot {L S : Type 0} (path : List ℕ) (state : L → LinkView S) (old new : SftpValue L) (bytes : List ℕ) :
    Type 0 where
  pub opened : SftpValue L
  pub read : SftpValue L
  pub before : FileValue
  pub after : FileValue
  pub opens : OpensPath to_read path state old opened (Ok before)
  pub reads : IsReadToEnd state opened read before after bytes
  pub closes : IsClosed after state read new
