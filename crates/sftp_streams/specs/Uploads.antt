-- An upload as its user sees it, and the effects of a push and of a poll on it.
use Rattle.std.specs.Prelude.{
  ◌≡◌,
  ◌≤◌,
  ◌<◌,
  ℕ,
  ◌+◌,
  ◌-◌,
  ◌^◌,
  ◌==◌,
  Bool,
  true,
  false,
  List,
  [],
  ◌∷◌,
  ◌++◌,
  length,
  min,
  nat_le,
  if◌then◌else◌,
  Option,
  Some,
  None,
  Result,
  Ok,
  Err,
  IsSome,
}
use Rattle.sftp_model.specs.Numbers.{MAX_TRANSFER_LEN, SSH_FX_OK}
use Rattle.sftp_model.specs.declared.answers.Expected.TheVariants as expected
use Rattle.sftp_model.specs.declared.error.Error.{Error}
use Rattle.sftp_model.specs.declared.error.Error.TheVariants as error
use Rattle.sftp_model.specs.declared.error.IoKind.TheVariants.{NotWritable}
use Rattle.sftp_model.specs.declared.reply.Reply.{Reply}
use Rattle.sftp_model.specs.declared.reply.Reply.TheVariants as reply
use Rattle.sftp_core.specs.Core.{Core, record_at, reply_in}
use Rattle.sftp_core.specs.Info.{info_of}
use Rattle.plan_state.specs.Asked.{SubmitsAsking}
use Rattle.plan_state.specs.declared.submission.Asking.TheVariants as asking
use Rattle.plan_state.specs.declared.poll.Poll.{Poll}
use Rattle.plan_state.specs.declared.poll.Poll.TheVariants as poll
use Rattle.sftp_file.specs.Files.{FileValue, facts_of}
use Rattle.sftp_streams.specs.declared.parts.Part.{Part}
use Rattle.sftp_streams.specs.Parts.{AreAwaited, KeepsOthersHeld, KindOf, after_first, parts_len}

-- An upload: the file's handle, the most bytes of one WRITE and the most WRITEs under way. Then the offset of the first
-- byte that the server has not said OK to, the offset at which the next bytes are written, the parts under way in
-- order, and whether it has failed.
pub record UploadValue : Type 0 where
  pub handle : List ℕ
  pub write_len : ℕ
  pub window : ℕ
  pub offset : ℕ
  pub next : ℕ
  pub parts : List Part
  pub ended : Bool

-- An upload that has written nothing.
abbrev pub fresh_upload : List ℕ → ℕ → ℕ → ℕ → UploadValue
fresh_upload handle offset write_len window =
    record {
      handle = handle;
      write_len = write_len;
      window = window;
      offset = offset;
      next = offset;
      parts = [];
      ended = false;
    }

-- The result of starting an upload, to a file that may be written, from its offset on.
abbrev pub BeginsUpload : Core → FileValue → ℕ → Result UploadValue Error → Type 0
BeginsUpload core file window (Ok u) = (file.writable ≡ true)
    × (u ≡ fresh_upload file.grant.handle file.offset (facts_of core).write_len window)
BeginsUpload core file window (Err e) = (file.writable ≡ false) × (e ≡ error.IOError NotWritable)

-- ---- State

-- A part is answered by a STATUS.
abbrev pub status_kind : KindOf
status_kind part = expected.Status

-- The parts follow without a gap from the first byte that the server has not said OK to.
pub record IsWriting (core : Core) (u : UploadValue) : Type 0 where
  pub parts : AreAwaited status_kind core u.parts
  pub next : u.offset + parts_len u.parts ≡ u.next
  pub small : u.next < 2 ^ 64
  pub few : length u.parts ≤ u.window
  pub most : u.write_len ≤ MAX_TRANSFER_LEN

-- An upload can be polled.
pub record MayWrite (core : Core) (u : UploadValue) : Type 0 where
  pub over : u.ended ≡ false
  pub held : IsWriting core u

-- ---- Pushes

-- The number of bytes that another WRITE may carry.
abbrev pub room_of : UploadValue → ℕ
room_of u = if nat_le u.window (length u.parts) then 0 else min u.write_len (2 ^ 64 - 1 - u.next)

-- There is room for these bytes, and at least one of them.
pub record MayPush (core : Core) (u : UploadValue) (bytes : List ℕ) : Type 0 where
  pub may : MayWrite core u
  pub opened : IsSome (info_of core.phase)
  pub some : 0 < length bytes
  pub fits : length bytes ≤ room_of u

-- These bytes are written after the others.
pub record AsksWrite (core : Core) (old : UploadValue) (bytes : List ℕ) (after : Core) (new : UploadValue) : Type 0
  where
    pub ticket : ℕ
    pub submitted : SubmitsAsking core (asking.Parts old.handle old.next (bytes ∷ [])) ticket after
    pub now : new ≡ record old {
      next = old.next + length bytes;
      parts = old.parts
          ++ record { ticket = ticket; len = length bytes } ∷ [];
    }
    pub may : MayWrite after new

-- Out of memory, no free id, or the recorded fault.
abbrev pub IsRefusedPush : Core → Error → Type 0
IsRefusedPush core error.OutOfMemory = Unit {0}
IsRefusedPush core (error.BackgroundTaskFailure fault) = core.fault ≡ Some fault
IsRefusedPush core other = ⊥

-- ---- Polls

-- The answer that a STATUS is to a WRITE of this many bytes.
abbrev pub write_answer : ℕ → ℕ → List ℕ → List ℕ → Result (Option ℕ) Error
write_answer len code message language =
    if code == SSH_FX_OK then Ok (Some len) else Err (error.SftpError code message language)

-- The upload after this status: OK moves the offset.
abbrev pub with_status : UploadValue → ℕ → ℕ → UploadValue
with_status u len code = if code == SSH_FX_OK then record u { offset = u.offset + len } else record u { ended = true }

-- The effect of this status of the first part, which carried this many bytes.
abbrev pub IsAccepted : UploadValue → ℕ → Reply → UploadValue → Result (Option ℕ) Error → Type 0
IsAccepted old len (reply.Status code message language) new result = (result ≡ write_answer len code message language)
    × (new ≡ with_status old len code)
IsAccepted old len other new result = ⊥

-- The reply to the first WRITE under way.
abbrev pub first_status : Core → List Part → Option Reply
first_status core [] = None
first_status core (part ∷ later) = reply_in (record_at core part.ticket)

abbrev pub IsOk : Option Reply → Type 0
IsOk (Some (reply.Status code message language)) = code ≡ SSH_FX_OK
IsOk other = ⊥

-- The parts after the first one.
abbrev pub later_parts : List Part → List Part
later_parts [] = []
later_parts (part ∷ later) = later

abbrev pub first_len : List Part → ℕ
first_len [] = 0
first_len (part ∷ later) = part.len

-- The result of a poll, by that reply: OK moves the offset, and another status refuses.
abbrev pub GivesStatus : Core → Core → UploadValue → UploadValue → Poll (Result (Option ℕ) Error) → Type 0
GivesStatus core after old new (poll.Ready (Ok (Some len))) = IsOk (first_status core old.parts)
    × (len ≡ first_len old.parts)
    × (new ≡ record old { offset = old.offset + len; parts = later_parts old.parts })
    × (after ≡ after_first core old.parts)
GivesStatus core after old new (poll.Ready (Ok None)) = (old.parts ≡ []) × (new ≡ old) × (after ≡ core)
GivesStatus core after old new (poll.Ready (Err (error.BackgroundTaskFailure fault))) = (first_status core old.parts
    ≡ None)
    × (core.fault ≡ Some fault)
    × (new.offset ≡ old.offset)
    × (new.ended ≡ true)
GivesStatus core after old new (poll.Ready (Err (error.SftpError code message language))) = (first_status core old.parts
    ≡ Some (reply.Status code message language))
    × (new.offset ≡ old.offset)
    × (new.ended ≡ true)
    × (after ≡ after_first core old.parts)
GivesStatus core after old new (poll.Ready (Err other)) = ⊥
GivesStatus core after old new poll.Pending = (first_status core old.parts ≡ None)
    × (core.fault ≡ None)
    × (0 < length old.parts)
    × (new ≡ old)
    × (after ≡ core)

-- The effect of a poll: the upload may be polled further if it has not ended, and given up in any case. What others
-- hold of the core stays.
pub record PollsUpload (core after : Core) (old new : UploadValue) (result : Poll (Result (Option ℕ) Error)) : Type 0
  where
    pub gives : GivesStatus core after old new result
    pub held : new.ended ≡ false → IsWriting after new
    pub parts : AreAwaited status_kind after new.parts
    pub others : KeepsOthersHeld old.parts core after
