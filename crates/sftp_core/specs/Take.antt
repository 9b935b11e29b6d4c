-- believed, except RefusesReply, IsTakeError, TakesOrRefuses
-- The effect of a frame's body on a core: the first thing that is wrong with it, or the new core.
use Rattle.std.specs.Prelude.{◌≡◌, ℕ, ◌==◌, Bool, true, false, Option, None, Some, Result, Ok, Err, if◌then◌else◌, ⊤}
use Rattle.ssh_encoding.specs.Writing.{or_else}
use Rattle.sftp_model.specs.Answers.{allows_reply}
use Rattle.sftp_model.specs.ReplyReadings.{limits_at, limits_in}
use Rattle.sftp_model.specs.declared.answers.Expected.{Expected}
use Rattle.sftp_model.specs.declared.config.Limits.{Limits}
use Rattle.sftp_model.specs.declared.error.Fault.{Fault}
use Rattle.sftp_model.specs.declared.error.Fault.TheVariants as fault
use Rattle.sftp_model.specs.declared.flags.Extensions.{Extensions}
use Rattle.sftp_model.specs.declared.frame_error.FrameError.{FrameError}
use Rattle.sftp_model.specs.declared.frame_error.FrameError.TheVariants as frame
use Rattle.sftp_model.specs.declared.request.Request.TheVariants.{LimitsQuery}
use Rattle.sftp_model.specs.declared.reply.Reply.{Reply}
use Rattle.sftp_model.specs.declared.reply.Reply.TheVariants as reply
use Rattle.sftp_core.specs.declared.errors.TakeError.{TakeError}
use Rattle.sftp_core.specs.declared.errors.TakeError.TheVariants as take
use Rattle.sftp_core.specs.declared.handshake.Handshake.{Handshake}
use Rattle.sftp_core.specs.declared.handshake.Handshake.TheVariants.{Greeting, Asking, Open}
use Rattle.sftp_core.specs.declared.id_record.IdRecord.{IdRecord}
use Rattle.sftp_core.specs.declared.id_record.IdRecord.TheVariants.{Waiting, Answered, Granted}
use Rattle.sftp_core.specs.declared.tokens.Taken.{Taken}
use Rattle.sftp_core.specs.declared.tokens.Taken.TheVariants as taken_of
use Rattle.sftp_core.specs.Info.{info_with}
use Rattle.sftp_model.specs.Lengths.{offers_limits}
use Rattle.sftp_core.specs.Table.{handle_in_reply}
use Rattle.sftp_core.specs.Core.{Core, record_at, with_record, queued_last, core_after_drop, failed_with}

-- An id, if there is one, and a reply.
abbrev pub Read : Type 0
Read = Option ℕ × Reply

-- ---- Refusals

-- The error of a body that cannot be read.
abbrev pub unread : FrameError → TakeError
unread frame.OutOfMemory = take.OutOfMemory
unread (frame.Format kind) = take.Format kind
unread (frame.HandleTooLong len) = take.HandleTooLong len

-- Before VERSION was taken no other reply may come, and its version is 3.
abbrev pub wrong_version : Reply → Option TakeError
wrong_version (reply.Version version extensions) = if version == 3 then None else Some (take.Protocol version)
wrong_version other = Some (take.InvalidResponse None)

-- First the id is checked, then whether the reply may answer the request that has the id.
abbrev pub wrong_at : ℕ → Reply → Option IdRecord → Option TakeError
wrong_at id r (Some (Waiting expected true wanted)) = if allows_reply expected r then None else
    Some (take.InvalidResponse (Some id))
wrong_at id r (Some (Waiting expected false wanted)) = Some (take.InvalidResponseId id)
wrong_at id r (Some (Answered expected other)) = Some (take.InvalidResponseId id)
wrong_at id r (Some (Granted handle users)) = Some (take.InvalidResponseId id)
wrong_at id r None = Some (take.InvalidResponseId id)

-- The error of the content of the limits, if it has one.
abbrev pub wrong_content : Result Limits FrameError → Option TakeError
wrong_content (Ok limits) = None
wrong_content (Err e) = Some (unread e)

-- A refused query for limits, or limits that are not 32 bytes.
abbrev pub wrong_limits : Reply → Option TakeError
wrong_limits (reply.Status code message language) = Some (take.LimitsRefused code message language)
wrong_limits (reply.Extended content) = wrong_content (limits_at content)
wrong_limits other = None

-- No other VERSION may come, and a request that was handed out has the id.
abbrev pub wrong_asked : Core → Option ℕ → Reply → Option TakeError
wrong_asked core None r = Some (take.InvalidResponse None)
wrong_asked core (Some id) r = wrong_at id r (record_at core id)

-- The first thing that is wrong with a reply that was read.
abbrev pub wrong_in : Core → Handshake → Option ℕ → Reply → Option TakeError
wrong_in core Greeting None r = wrong_version r
wrong_in core Greeting (Some id) r = Some (take.InvalidResponse (Some id))
wrong_in core (Asking extensions) id r = or_else (wrong_asked core id r) (wrong_limits r)
wrong_in core (Open info) id r = wrong_asked core id r

-- The first thing that is wrong with a body, by its reading.
abbrev pub take_refusal : Core → Result Read FrameError → Option TakeError
take_refusal core (Ok read) = wrong_in core core.phase read.0 read.1
take_refusal core (Err e) = Some (unread e)

-- The fault that is kept after an error; running out of memory keeps none.
abbrev pub fault_of : TakeError → Option Fault
fault_of take.OutOfMemory = None
fault_of (take.Format kind) = Some (fault.Format kind)
fault_of (take.HandleTooLong len) = Some (fault.HandleTooLong len)
fault_of (take.InvalidResponseId id) = Some (fault.ResponseId id)
fault_of (take.InvalidResponse id) = Some (fault.Response id)
fault_of (take.LimitsRefused code message language) = Some (fault.Limits code)
fault_of (take.Protocol version) = Some (fault.Protocol version)

-- The first refusal, whose fault is kept; or out of memory, which leaves the core unchanged.
abbrev pub RefusesReply : TakeError → Option Fault → Option TakeError → Core → Core → Type 0
RefusesReply e None refusal old new = new ≡ old
RefusesReply e (Some kept) refusal old new = (refusal ≡ Some e) × (new ≡ failed_with old kept)

-- An error is the first refusal, kept as a fault, or out of memory.
abbrev pub IsTakeError : TakeError → Option TakeError → Core → Core → Type 0
IsTakeError e refusal old new = RefusesReply e (fault_of e) refusal old new

-- An error that is kept as a fault is the first refusal.
abbrev pub IsFirstRefusal : TakeError → Option Fault → Option TakeError → Type 0
IsFirstRefusal e None refusal = ⊤
IsFirstRefusal e (Some kept) refusal = refusal ≡ Some e

-- An error is the first refusal, or out of memory.
abbrev pub IsFirst : TakeError → Option TakeError → Type 0
IsFirst e refusal = IsFirstRefusal e (fault_of e) refusal

-- ---- Effects of a reply

-- An expected reply is kept, and any other is dropped.
abbrev pub core_with_answer : Core → ℕ → Reply → Expected → Bool → Core
core_with_answer core id r expected true = with_record core id (Answered expected r)
core_with_answer core id r expected false = core_after_drop core id (handle_in_reply r)

-- A reply replaces its request.
abbrev pub take_leaves : Core → ℕ → Reply → Option IdRecord → Core
take_leaves core id r (Some (Waiting expected sent wanted)) = core_with_answer core id r expected wanted
take_leaves core id r (Some (Answered expected other)) = core
take_leaves core id r (Some (Granted handle users)) = core
take_leaves core id r None = core

-- The session is open.
abbrev pub core_when_open : Core → Extensions → Option Limits → Core
core_when_open core extensions limits = record core { phase = Open (info_with extensions limits core.options) }

-- The core asks for the limits if they are offered, under the id 0.
abbrev pub core_after_version : Core → Extensions → Core
core_after_version core extensions =
    if offers_limits extensions then record (queued_last core 0 LimitsQuery false) { phase = Asking extensions } else
    core_when_open core extensions None

-- The extensions that a VERSION lists.
abbrev pub extensions_in : Reply → Option Extensions
extensions_in (reply.Version version extensions) = Some extensions
extensions_in other = None

-- VERSION was taken.
abbrev pub greeted_by : Core → Option Extensions → Core
greeted_by core (Some extensions) = core_after_version core extensions
greeted_by core None = core

-- The core after a reply, by how far the greeting has come: VERSION, the limits, or the reply to a call.
abbrev pub taken_in : Core → Handshake → Option ℕ → Reply → Core
taken_in core Greeting id r = greeted_by core (extensions_in r)
taken_in core (Asking extensions) None r = core
taken_in core (Asking extensions) (Some id) r = core_when_open (take_leaves core id r (record_at core id)) extensions
    (limits_in r)
taken_in core (Open info) None r = core
taken_in core (Open info) (Some id) r = take_leaves core id r (record_at core id)

-- The core after a reply that has no fault.
abbrev pub core_after_reply : Core → Read → Core
core_after_reply core read = taken_in core core.phase read.0 read.1

-- VERSION, the limits, or the reply to a call.
abbrev pub told_in : Handshake → Option ℕ → Reply → Taken
told_in phase None r = taken_of.Version r
told_in Greeting (Some id) r = taken_of.Version r
told_in (Asking extensions) (Some id) r = taken_of.Limits id r
told_in (Open info) (Some id) r = taken_of.Answer id r

-- The result for a reply that was taken.
abbrev pub taken_as : Core → Read → Taken
taken_as core read = told_in core.phase read.0 read.1

-- ---- Clauses of the calls that take a reply

-- The body was read as this reply, which was taken.
pub record TakenFrom (read : Result Read FrameError) (told : Taken) (old new : Core) : Type 0 where
  pub reading : Read
  pub reads : read ≡ Ok reading
  pub tells : told ≡ taken_as old reading
  pub leaves : new ≡ core_after_reply old reading

-- A reply that was read is taken; or it is refused, and nothing has changed.
abbrev pub TakesOrRefuses : Result Taken TakeError → Option ℕ → Reply → Core → Core → Type 0
TakesOrRefuses (Ok told) id r old new = (wrong_in old old.phase id r ≡ None) × (told ≡ told_in old.phase id r)
    × (new ≡ taken_in old old.phase id r)
TakesOrRefuses (Err e) id r old new = IsFirst e (wrong_in old old.phase id r) × (new ≡ old)
