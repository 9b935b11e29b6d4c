-- A download as its user sees it, and the effect of a poll on it.
use Rattle.std.specs.Prelude.{
  ◌≡◌,
  ◌≤◌,
  ◌<◌,
  ◌⊎◌,
  ℕ,
  zero,
  ◌+◌,
  ◌-◌,
  ◌^◌,
  Bool,
  true,
  false,
  List,
  [],
  ◌∷◌,
  ◌++◌,
  length,
  drop,
  min,
  suc,
  Option,
  Some,
  None,
  Result,
  Ok,
  Err,
  IsSome,
}
use Rattle.sftp_model.specs.Answers.{is_end_of_file}
use Rattle.sftp_model.specs.declared.answers.Expected.TheVariants as expected
use Rattle.sftp_model.specs.declared.error.Error.{Error}
use Rattle.sftp_model.specs.declared.error.Error.TheVariants as error
use Rattle.sftp_model.specs.declared.error.IoKind.TheVariants.{NotReadable, OffsetOverflow}
use Rattle.sftp_model.specs.declared.reply.Reply.{Reply}
use Rattle.sftp_model.specs.declared.reply.Reply.TheVariants as reply
use Rattle.sftp_model.specs.declared.request.Request.TheVariants as request
use Rattle.sftp_core.specs.Core.{Core, record_at, reply_in}
use Rattle.sftp_core.specs.Info.{info_of}
use Rattle.plan_state.specs.Asked.{SubmitsAsking}
use Rattle.plan_state.specs.declared.submission.Asking.TheVariants as asking
use Rattle.plan_state.specs.declared.poll.Poll.{Poll}
use Rattle.plan_state.specs.declared.poll.Poll.TheVariants as poll
use Rattle.sftp_file.specs.Files.{FileValue, facts_of}
use Rattle.sftp_file.specs.Outcomes.{read_answer}
use Rattle.sftp_streams.specs.declared.parts.Part.{Part}
use Rattle.sftp_streams.specs.declared.parts.Unasked.{Unasked}
use Rattle.sftp_streams.specs.Parts.{AreAwaited, IsUnasked, KeepsOthersHeld, KindOf, after_first, parts_len}

-- A download: the file's handle, the most bytes of one READ and the most READs under way. Then the offset of the first
-- byte that was not returned, how many bytes from there are to be asked for again, the offset at which the next new
-- part begins, the parts under way in order, and whether nothing more comes.
pub record DownloadValue : Type 0 where
  pub handle : List ℕ
  pub read_len : ℕ
  pub window : ℕ
  pub offset : ℕ
  pub rest : ℕ
  pub next : ℕ
  pub parts : List Part
  pub ended : Bool

-- A download that has asked for nothing.
abbrev pub fresh_download : List ℕ → ℕ → ℕ → ℕ → DownloadValue
fresh_download handle offset read_len window =
    record {
      handle = handle;
      read_len = read_len;
      window = window;
      offset = offset;
      rest = 0;
      next = offset;
      parts = [];
      ended = false;
    }

-- The result of starting a download, from the offset of a file that may be read.
abbrev pub BeginsDownload : Core → FileValue → ℕ → Result DownloadValue Error → Type 0
BeginsDownload core file window (Ok d) = (file.readable ≡ true)
    × (d ≡ fresh_download file.grant.handle file.offset (facts_of core).read_len window)
BeginsDownload core file window (Err e) = (file.readable ≡ false) × (e ≡ error.IOError NotReadable)

-- ---- State

-- A part is answered by a DATA of at most as many bytes, or by a refusal.
abbrev pub content_kind : KindOf
content_kind part = expected.Content part.len

-- The parts follow without a gap from the first byte that was not returned.
pub record IsReading (core : Core) (d : DownloadValue) : Type 0 where
  pub parts : AreAwaited content_kind core d.parts
  pub next : d.offset + d.rest + parts_len d.parts ≡ d.next
  pub small : d.next < 2 ^ 64
  pub few : length d.parts ≤ d.window
  pub less : 0 < d.rest → length d.parts < d.window
  pub some : 0 < d.read_len
  pub wide : 1 ≤ d.window

-- A download can be polled.
pub record MayRead (core : Core) (d : DownloadValue) : Type 0 where
  pub over : d.ended ≡ false
  pub opened : IsSome (info_of core.phase)
  pub held : IsReading core d

-- ---- Effects of a reply

-- The effect of this reply to the first part, which asked for this many bytes: bytes move the offset, and the missing
-- rest is to be asked for again.
abbrev pub IsHandedOut : DownloadValue → ℕ → Reply → DownloadValue → Result (Option (List ℕ)) Error → Type 0
IsHandedOut old len (reply.Content bytes) new result = (result ≡ Ok (Some bytes))
    × (new ≡ record old { offset = old.offset + length bytes; rest = len - length bytes })
IsHandedOut old len (reply.Status code message language) new result = (result ≡ read_answer code message language)
    × (new ≡ record old { ended = true })
IsHandedOut old len other new result = ⊥

-- ---- Requests

-- The rest of the first part is asked for.
pub record AsksFirst (core : Core) (old : DownloadValue) (after : Core) (new : DownloadValue) : Type 0 where
  pub ticket : ℕ
  pub submitted : SubmitsAsking core (asking.Whole (request.Read old.handle old.offset old.rest)) ticket after
  pub now : new ≡ record old { rest = 0; parts = record { ticket = ticket; len = old.rest } ∷ old.parts }

-- Another part is asked for after the others: as many bytes as one READ asks for, up to the greatest offset.
pub record AsksLast (core : Core) (old : DownloadValue) (after : Core) (new : DownloadValue) : Type 0 where
  pub ticket : ℕ
  pub len : ℕ
  pub some : 0 < len
  pub is : len ≡ min old.read_len (2 ^ 64 - 1 - old.next)
  pub submitted : SubmitsAsking core (asking.Whole (request.Read old.handle old.next len)) ticket after
  pub now : new ≡ record old { next = old.next + len; parts = old.parts ++ record { ticket = ticket; len = len } ∷ [] }
  pub small : old.next + len < 2 ^ 64

-- This many further parts are asked for, one after another.
abbrev pub AsksMany : ℕ → Core → DownloadValue → Core → DownloadValue → Type 0
AsksMany zero core old after new = (after ≡ core) × (new ≡ old)
AsksMany (suc n) core old after new = (mid : Core) × (d : DownloadValue) × AsksLast core old mid d
    × AsksMany n mid d after new

abbrev pub AsksMore : Core → DownloadValue → Core → DownloadValue → Type 0
AsksMore core old after new = (n : ℕ) × AsksMany n core old after new

-- The rest of a short reply is asked for, if there is any, and then parts after the others.
abbrev pub FillsWindow : Core → DownloadValue → Core → DownloadValue → Type 0
FillsWindow core old after new = ((old.rest ≡ 0) × AsksMore core old after new)
    ⊎ ((after ≡ core) × (new ≡ old))
    ⊎ ((mid : Core) × (d : DownloadValue) × AsksFirst core old mid d × AsksMore mid d after new)

-- Nothing more may be asked for: the window is full, or the greatest offset is reached.
abbrev pub IsFilled : DownloadValue → Type 0
IsFilled d = (d.rest ≡ 0) × ((d.window ≤ length d.parts) ⊎ (d.next ≡ 2 ^ 64 - 1))

-- Nothing was asked although more may be, for this reason.
pub record StopsAsking (core : Core) (d : DownloadValue) (e : Unasked) : Type 0 where
  pub why : IsUnasked core e
  pub more : IsFilled d → ⊥

-- ---- Polls

-- The reply to the READ at the first byte that was not returned.
abbrev pub first_reply : Core → DownloadValue → Option Reply
first_reply core d = of_parts d.rest d.parts
  where
    of_parts : ℕ → List Part → Option Reply
    of_parts zero (part ∷ later) = reply_in (record_at core part.ticket)
    of_parts rest parts = None

-- That reply was not taken, and if its READ is under way the core has recorded no fault.
pub record IsMissing (core : Core) (d : DownloadValue) : Type 0 where
  pub reply : first_reply core d ≡ None
  pub unfailed : d.rest ≡ 0 → 0 < length d.parts → core.fault ≡ None

abbrev pub IsEnd : Option Reply → Type 0
IsEnd None = ⊥
IsEnd (Some r) = is_end_of_file r ≡ true

-- The number of bytes that the first part asked for.
abbrev pub first_len : List Part → ℕ
first_len [] = 0
first_len (part ∷ later) = part.len

-- The download after these bytes of its first part: the missing rest is to be asked for again.
abbrev pub after_bytes : DownloadValue → List ℕ → DownloadValue
after_bytes d bytes =
    record d {
      offset = d.offset + length bytes;
      rest = first_len d.parts - length bytes;
      parts = drop 1 d.parts;
    }

-- The download that the status of its first part ended.
abbrev pub after_status : DownloadValue → DownloadValue
after_status d = record d { parts = drop 1 d.parts; ended = true }

-- The result of a poll, by that reply: its bytes are returned, an EOF ends the download, and another status refuses it.
-- If it is missing, READs were asked for. Only then may memory run out; the poll may be repeated.
abbrev pub GivesFirst : Core → Core → DownloadValue → DownloadValue → Poll (Result (Option (List ℕ)) Error) → Type 0
GivesFirst core after old new (poll.Ready (Ok (Some bytes))) = (first_reply core old ≡ Some (reply.Content bytes))
    × (0 < length bytes)
    × (new.offset ≡ old.offset + length bytes)
    × (new.ended ≡ false)
    × (after ≡ after_first core old.parts)
    × (new ≡ after_bytes old bytes)
GivesFirst core after old new (poll.Ready (Ok None)) = IsEnd (first_reply core old)
    × (new.offset ≡ old.offset)
    × (new.ended ≡ true)
    × (after ≡ after_first core old.parts)
    × (new ≡ after_status old)
GivesFirst core after old new (poll.Ready (Err error.OutOfMemory)) = (first_reply core old ≡ None)
    × (new.offset ≡ old.offset)
    × (new.ended ≡ false)
    × FillsWindow core old after new
    × (IsFilled old → ⊥)
GivesFirst core after old new (poll.Ready (Err (error.BackgroundTaskFailure fault))) = (first_reply core old ≡ None)
    × (core.fault ≡ Some fault)
    × (new.offset ≡ old.offset)
    × (new.ended ≡ true)
GivesFirst core after old new (poll.Ready (Err (error.IOError why))) = (first_reply core old ≡ None)
    × (why ≡ OffsetOverflow)
    × (old.offset ≡ 2 ^ 64 - 1)
    × (new.offset ≡ old.offset)
    × (new.ended ≡ true)
GivesFirst core after old new (poll.Ready (Err (error.SftpError code message language))) = (first_reply core old
    ≡ Some (reply.Status code message language))
    × (new.offset ≡ old.offset)
    × (new.ended ≡ true)
    × (after ≡ after_first core old.parts)
    × (new ≡ after_status old)
GivesFirst core after old new (poll.Ready (Err other)) = ⊥
GivesFirst core after old new poll.Pending = (first_reply core old ≡ None)
    × (core.fault ≡ None)
    × (new.offset ≡ old.offset)
    × (new.ended ≡ false)
    × FillsWindow core old after new
    × IsFilled new
    × (0 < length new.parts)

-- The same file, by as many READs of the same length.
abbrev pub IsSameStream : DownloadValue → DownloadValue → Type 0
IsSameStream old new = (new.handle ≡ old.handle) × (new.read_len ≡ old.read_len) × (new.window ≡ old.window)

-- The effect of a poll: the download may be polled further if it has not ended, and given up in any case. What others
-- hold of the core stays.
pub record PollsDownload (core after : Core) (old new : DownloadValue) (result : Poll (Result (Option (List ℕ)) Error))
    : Type 0
  where
    pub gives : GivesFirst core after old new result
    pub held : new.ended ≡ false → IsReading after new
    pub parts : AreAwaited content_kind after new.parts
    pub others : KeepsOthersHeld old.parts core after
    pub fixed : IsSameStream old new
