-- Links to a server that serves, according to their logs.
use Rattle.std.specs.Prelude.{◌≡◌, ◌<◌, ◌≤◌, ℕ, Bool, true, List, [], ◌++◌, length, Option, Some, None, Ok}
use Rattle.ssh_encoding.specs.Writing.{string}
use Rattle.sftp_model.specs.declared.flags.Extensions.{Extensions}
use Rattle.sftp_model.specs.declared.reply.Reply.{Reply}
use Rattle.sftp_model.specs.declared.reply.Reply.TheVariants as reply
use Rattle.sftp_model.specs.Numbers.{MAX_BODY_LEN}
use Rattle.sftp_model.specs.ReplyReadings.{reply_at}
use Rattle.sftp_link.specs.declared.piece.Piece.{Piece}
use Rattle.sftp_link.specs.Log.{GotOn, SentOn}
use Rattle.session_driver.specs.Session.{SessionInputs}
use Rattle.session_model.specs.declared.entry.Entry.{Entry}
use Rattle.session_model.specs.Journals.{IsJournal, MayTake}
use Rattle.session_model.specs.Readings.{count_awaited}
use Rattle.session_model.specs.Settings.{version_reply_of, setting_of}
use Rattle.session_model.specs.Shown.{ShowsExchange, hello_frame}

-- The value that a body reads as: an id, which VERSION lacks, and a reply.
abbrev pub Read : Type 0
Read = Option ℕ × Reply

-- True for VERSION 3.
abbrev pub IsVersion : Read → Type 0
IsVersion read = (extensions : Extensions) × (let v : Read = (None, reply.Version 3 extensions) in read ≡ v)

-- A reply that may be taken: it may answer a request that was sent and has no reply, and it has that request's id.
abbrev pub IsAllowed : List Entry → Read → Type 0
IsAllowed past read = (id : ℕ) × ((r : Reply) × ((let v : Read = (Some id, r) in read ≡ v) × MayTake past id r))

-- These bytes contain nothing after a whole frame.
abbrev pub IsOne : List ℕ → Type 0
IsOne bytes = (body rest : List ℕ) → 0 < length body → length body ≤ MAX_BODY_LEN → bytes ≡ string body ++ rest → rest
    ≡ []

-- These bytes are a prefix of a frame with a good reply and of the bytes after it, and the link has not ended before
-- the frame was whole.
pub record GivesGood (good : Read → Type 0) (bytes : List ℕ) (ended : Bool) : Type 0 where
  pub body : List ℕ
  pub read : Read
  pub rest : List ℕ
  pub tail : List ℕ
  pub framed : bytes ++ tail ≡ string body ++ rest
  pub some : 0 < length body
  pub short : length body ≤ MAX_BODY_LEN
  pub reads : reply_at body ≡ Ok read
  pub is_good : good read
  pub whole : ended ≡ true → tail ≡ []

-- A link that served the lanes of a session so far. It answers the hello with VERSION 3. While a request that was sent
-- has no reply, it gives a reply that may be taken. The received bytes are considered frame by frame. Its count of
-- faults says that it has none.
pub record ServesLanes (given : SessionInputs) (log : List Piece) (ended : Bool) : Type 0 where
  pub greets : (before : List Piece) (bytes : List ℕ) → SentOn [] before hello_frame → GotOn before log bytes
      → IsOne bytes → GivesGood IsVersion bytes ended
  pub replies : (extensions : Extensions) (past : List Entry) (before : List Piece) (bytes : List ℕ)
      → IsJournal (setting_of given.lanes given.options extensions past) past
      → ShowsExchange (version_reply_of extensions) past [] before → 0 < count_awaited past → GotOn before log bytes
      → IsOne bytes
      → GivesGood (IsAllowed past) bytes ended
