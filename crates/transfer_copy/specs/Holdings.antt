-- believed, except KeepsApart, IsFileAsked, SettlesStatus, SettlesAttrs, drops_file
-- The entries that a copy of one file has in a core: the request or the grant of its file, and the requests for its
-- bytes, its attributes and its fsync.
use Rattle.std.specs.Prelude.{◌≡◌, ◌≢◌, ◌⊎◌, ◌<◌, ℕ, ◌+◌, true, false, List, [], ◌∷◌, ◌++◌, length, Option, Some, None}
use Rattle.sftp_model.specs.Answers.{allows_reply, expected_of, is_attrs}
use Rattle.sftp_model.specs.declared.answers.Expected.{Expected}
use Rattle.sftp_model.specs.declared.answers.Expected.TheVariants as expected
use Rattle.sftp_model.specs.declared.error.Fault.{Fault}
use Rattle.sftp_model.specs.declared.file_attrs.FileAttrs.{FileAttrs}
use Rattle.sftp_model.specs.declared.reply.Reply.{Reply}
use Rattle.sftp_model.specs.declared.reply.Reply.TheVariants as reply
use Rattle.sftp_model.specs.declared.request.Request.{Request}
use Rattle.sftp_model.specs.declared.request.Request.TheVariants as request
use Rattle.sftp_core.specs.Core.{Core, core_after_abandon, after_poll, record_at, core_after_release, reply_in}
use Rattle.sftp_core.specs.Grant.{GrantValue}
use Rattle.sftp_core.specs.Table.{asks_handle}
use Rattle.sftp_core.specs.declared.id_record.IdRecord.{IdRecord}
use Rattle.sftp_core.specs.declared.id_record.IdRecord.TheVariants.{Granted}
use Rattle.plan_state.specs.Asked.{HoldsTicket, SubmitsAsking, request_of}
use Rattle.plan_state.specs.declared.submission.Asking.{Asking}
use Rattle.plan_state.specs.declared.submission.Asking.TheVariants.{Whole, Parts}
use Rattle.transfer_copy.specs.declared.copy_error.CopyError.{CopyError}
use Rattle.transfer_copy.specs.declared.holding.AttrsAnswer.{AttrsAnswer}
use Rattle.transfer_copy.specs.declared.holding.AttrsAnswer.TheVariants as attrs_answer
use Rattle.transfer_copy.specs.declared.holding.FileAnswer.{FileAnswer}
use Rattle.transfer_copy.specs.declared.holding.FileAnswer.TheVariants as file_answer
use Rattle.transfer_copy.specs.declared.holding.FileHold.{FileHold}
use Rattle.transfer_copy.specs.declared.holding.FileHold.TheVariants as hold
use Rattle.transfer_copy.specs.declared.holding.Part.{Part}
use Rattle.transfer_copy.specs.declared.holding.PartAnswer.{PartAnswer}
use Rattle.transfer_copy.specs.declared.holding.PartAnswer.TheVariants as part_answer
use Rattle.transfer_copy.specs.declared.holding.StatusAnswer.{StatusAnswer}
use Rattle.transfer_copy.specs.declared.holding.StatusAnswer.TheVariants as status_answer
use Rattle.transfer_copy.specs.Refusals.{IsOkStatus, faulted_by, refusal_of}

-- The file, and the parts in flight in order.
pub record HoldingValue : Type 0 where
  pub file : FileHold
  pub parts : List Part

abbrev pub nothing_held : HoldingValue
nothing_held = record { file = hold.Nothing; parts = [] }

-- The bytes that the parts ask for or carry.
abbrev pub bytes_under_way : List Part → ℕ
bytes_under_way [] = 0
bytes_under_way (part ∷ later) = part.len + bytes_under_way later

-- Only one request is in flight, and it is the request of the file.
abbrev pub IsOnly : Expected → HoldingValue → Type 0
IsOnly kind h = (ticket : ℕ) × (h ≡ record { file = hold.Asked ticket kind; parts = [] })

-- ---- The owner of a number

-- This number is not that of the file's request or grant.
abbrev pub IsNotOfFile : ℕ → FileHold → Type 0
IsNotOfFile id hold.Nothing = Unit {0}
IsNotOfFile id (hold.Asked ticket kind) = id ≢ ticket
IsNotOfFile id (hold.Opened grant) = id ≢ grant.id

-- The number is not that of a part.
abbrev pub IsNotOfParts : ℕ → List Part → Type 0
IsNotOfParts id [] = Unit {0}
IsNotOfParts id (part ∷ later) = (id ≢ part.ticket) × IsNotOfParts id later

-- The number belongs to others.
pub record IsOfOthers (id : ℕ) (h : HoldingValue) : Type 0 where
  pub file : IsNotOfFile id h.file
  pub parts : IsNotOfParts id h.parts

-- ---- The entries in the core

-- The core awaits the reply to the file's request, or counts one user of its grant.
abbrev pub IsFileHeld : Core → FileHold → Type 0
IsFileHeld core hold.Nothing = Unit {0}
IsFileHeld core (hold.Asked ticket kind) = HoldsTicket core ticket kind
IsFileHeld core (hold.Opened grant) = record_at core grant.id ≡ Some (Granted grant.handle 1)

-- The core awaits the reply to each part, which is no HANDLE, under a ticket of its own.
abbrev pub ArePartsHeld : Core → FileHold → List Part → Type 0
ArePartsHeld core file [] = Unit {0}
ArePartsHeld core file (part ∷ later) = HoldsTicket core part.ticket part.kind × (asks_handle part.kind ≡ false)
    × IsNotOfFile part.ticket file × IsNotOfParts part.ticket later × ArePartsHeld core file later

pub record HoldsAll (core : Core) (h : HoldingValue) : Type 0 where
  pub file : IsFileHeld core h.file
  pub parts : ArePartsHeld core h.file h.parts

-- An entry of the core under a number of others is unchanged, and its number still belongs to others.
pub record SparesIds (before after : HoldingValue) (old new : Core) : Type 0 where
  pub places : (id : ℕ) (place : IdRecord) → IsOfOthers id before → record_at old id ≡ Some place
      → (record_at new id ≡ Some place) × IsOfOthers id after
  pub phase : new.phase ≡ old.phase
  pub fault : new.fault ≡ old.fault

-- The core holds the entries of the copy, and the entries of others are unchanged.
pub record KeepsApart (before after : HoldingValue) (old new : Core) : Type 0 where
  pub held : HoldsAll new after
  pub spares : SparesIds before after old new

-- ---- The state of the file

-- A request of the file is in flight.
abbrev pub IsFileAsked : FileHold → Type 0
IsFileAsked (hold.Asked ticket kind) = Unit {0}
IsFileAsked other = ⊥

-- The file is open.
abbrev pub IsFileOpen : FileHold → Type 0
IsFileOpen (hold.Opened grant) = Unit {0}
IsFileOpen other = ⊥

abbrev pub file_handle : FileHold → List ℕ
file_handle (hold.Opened grant) = grant.handle
file_handle other = []

-- ---- Requests

-- A request of the file: to open, close, rename, look for or remove it.
pub record AsksFile (core : Core) (old : HoldingValue) (asked : Request) (after : Core) (new : HoldingValue) : Type 0
  where
    pub ticket : ℕ
    pub submitted : SubmitsAsking core (Whole asked) ticket after
    pub now : new ≡ record old { file = hold.Asked ticket (expected_of asked) }

-- A request for `len` of its bytes, or for none, after the others.
pub record AsksForPart (core : Core) (old : HoldingValue) (asking : Asking) (len : ℕ) (after : Core)
    (new : HoldingValue) :
    Type 0 where
  pub ticket : ℕ
  pub submitted : SubmitsAsking core asking ticket after
  pub now : new ≡ record old {
    parts = old.parts
        ++ record { ticket = ticket; kind = expected_of (request_of asking); len = len } ∷ [];
  }

-- A READ of this many bytes at an offset; and a WRITE of these bytes.
abbrev pub AsksForRead : Core → HoldingValue → ℕ → ℕ → Core → HoldingValue → Type 0
AsksForRead core old offset len after new =
    AsksForPart core old (Whole (request.Read (file_handle old.file) offset len)) len after new

abbrev pub AsksForWrite : Core → HoldingValue → ℕ → List ℕ → Core → HoldingValue → Type 0
AsksForWrite core old offset bytes after new =
    AsksForPart core old (Parts (file_handle old.file) offset (bytes ∷ [])) (length bytes) after new

-- An FSETSTAT, as a part that carries no bytes.
abbrev pub AsksForAttrs : Core → HoldingValue → FileAttrs → Core → HoldingValue → Type 0
AsksForAttrs core old attrs after new =
    AsksForPart core old (Whole (request.Fsetstat (file_handle old.file) attrs)) 0 after new

-- An fsync, as a part that carries no bytes.
abbrev pub AsksForSync : Core → HoldingValue → Core → HoldingValue → Type 0
AsksForSync core old after new = AsksForPart core old (Whole (request.Fsync (file_handle old.file))) 0 after new

-- ---- Replies

-- The reply to the file's request.
abbrev pub file_reply : Core → FileHold → Option Reply
file_reply core (hold.Asked ticket kind) = reply_in (record_at core ticket)
file_reply core other = None

-- The core after it was polled for the file's request.
abbrev pub after_file : Core → FileHold → Core
after_file core (hold.Asked ticket kind) = after_poll core ticket
after_file core other = core

-- The request allows this reply.
abbrev pub IsFileReply : FileHold → Reply → Type 0
IsFileReply (hold.Asked ticket kind) r = allows_reply kind r ≡ true
IsFileReply other r = ⊥

-- The file has this grant, under the number of its request.
abbrev pub GivesGrant : FileHold → List ℕ → FileHold → Type 0
GivesGrant (hold.Asked ticket kind) handle new = new ≡ hold.Opened (record { id = ticket; handle = handle })
GivesGrant other handle new = ⊥

-- A request of the file was in flight, and this is its result. If the reply is missing and no fault is kept, nothing
-- changed. A HANDLE becomes the grant of the file.
abbrev pub SettlesFile : Core → HoldingValue → Core → HoldingValue → FileAnswer → Type 0
SettlesFile core old after new file_answer.Missing = (file_reply core old.file ≡ None) × (core.fault ≡ None)
    × (after ≡ core) × (new ≡ old)
SettlesFile core old after new (file_answer.Failed fault) = (file_reply core old.file ≡ None)
    × (core.fault ≡ Some fault)
    × (after ≡ after_file core old.file) × (new ≡ record old { file = hold.Nothing })
SettlesFile core old after new (file_answer.Came r) = (file_reply core old.file ≡ Some r) × IsFileReply old.file r
    × (after ≡ after_file core old.file) × (new ≡ record old { file = hold.Nothing })
SettlesFile core old after new file_answer.Granted = (handle : List ℕ)
    × (file_reply core old.file ≡ Some (reply.Handle handle))
    × IsFileReply old.file (reply.Handle handle)
    × (after ≡ after_file core old.file)
    × GivesGrant old.file handle new.file
    × (new.parts ≡ old.parts)

-- A request of the file was refused, or a fault is kept in place of its reply; and the failure by it.
abbrev pub WasRefused : Core → HoldingValue → Core → HoldingValue → CopyError → Type 0
WasRefused core old after new e = ((r : Reply) × SettlesFile core old after new (file_answer.Came r)
    × (e ≡ refusal_of r))
    ⊎ ((fault : Fault) × SettlesFile core old after new (file_answer.Failed fault) × (e ≡ faulted_by fault))

-- A request of the file had a reply other than OK, or a fault is kept in place of its reply; and the failure by it.
abbrev pub WasNotOk : Core → HoldingValue → Core → HoldingValue → CopyError → Type 0
WasNotOk core old after new e = ((r : Reply) × SettlesFile core old after new (file_answer.Came r) × (IsOkStatus r → ⊥)
    × (e ≡ refusal_of r))
    ⊎ ((fault : Fault) × SettlesFile core old after new (file_answer.Failed fault) × (e ≡ faulted_by fault))

-- The server answered it with OK.
pub record WasOk (core : Core) (old : HoldingValue) (after : Core) (new : HoldingValue) : Type 0 where
  pub status : Reply
  pub came : SettlesFile core old after new (file_answer.Came status)
  pub ok : IsOkStatus status

-- The server answered it in some way, or a fault is kept in place of its reply.
abbrev pub WasSettled : Core → HoldingValue → Core → HoldingValue → Type 0
WasSettled core old after new = WasOk core old after new ⊎ ((e : CopyError) × WasNotOk core old after new e)

-- Only a request of the file is in flight, and this is its result.
abbrev pub SettlesStatus : Core → HoldingValue → Core → HoldingValue → StatusAnswer → Type 0
SettlesStatus core old after new status_answer.Missing = SettlesFile core old core old file_answer.Missing
    × (after ≡ core) × (new ≡ old)
SettlesStatus core old after new status_answer.Done = WasOk core old after new × (new ≡ nothing_held)
SettlesStatus core old after new (status_answer.NotDone e) = WasNotOk core old after new e × (new ≡ nothing_held)

-- The server answered it with these attributes.
abbrev pub WasFound : FileAttrs → Core → HoldingValue → Core → HoldingValue → Type 0
WasFound attrs core old after new = SettlesFile core old after new (file_answer.Came (reply.Attrs attrs))

-- It had a reply other than ATTRS, or a fault is kept in place of its reply.
abbrev pub WasNotFound : Core → HoldingValue → Core → HoldingValue → Type 0
WasNotFound core old after new = ((r : Reply) × SettlesFile core old after new (file_answer.Came r)
    × (is_attrs r ≡ false))
    ⊎ ((fault : Fault) × SettlesFile core old after new (file_answer.Failed fault))

-- Only a request for attributes is in flight, and this is its result.
abbrev pub SettlesAttrs : Core → HoldingValue → Core → HoldingValue → AttrsAnswer → Type 0
SettlesAttrs core old after new attrs_answer.Missing = SettlesFile core old core old file_answer.Missing
    × (after ≡ core) × (new ≡ old)
SettlesAttrs core old after new (attrs_answer.Found attrs) = WasFound attrs core old after new × (new ≡ nothing_held)
SettlesAttrs core old after new attrs_answer.NotFound = WasNotFound core old after new × (new ≡ nothing_held)

-- The first part was taken, and this is known of it.
pub record TakesFirst (Known : Part → Type 0) (core : Core) (old : HoldingValue) (after : Core) (new : HoldingValue) :
    Type 0 where
  pub part : Part
  pub later : List Part
  pub first : old.parts ≡ part ∷ later
  pub known : Known part
  pub now : new ≡ record old { parts = later }
  pub core_is : after ≡ after_poll core part.ticket

-- This is its reply, which its request allows.
pub record IsPartReply (core : Core) (r : Reply) (len : ℕ) (part : Part) : Type 0 where
  pub taken : reply_in (record_at core part.ticket) ≡ Some r
  pub allowed : allows_reply part.kind r ≡ true
  pub len_is : len ≡ part.len

-- The reply to the first part, if one is in flight.
abbrev pub part_reply : Core → List Part → Option Reply
part_reply core [] = None
part_reply core (part ∷ later) = reply_in (record_at core part.ticket)

-- The result of the first part. A taken reply is returned before a kept fault. If there is neither, nothing changed.
abbrev pub TakesPart : Core → HoldingValue → Core → HoldingValue → PartAnswer → Type 0
TakesPart core old after new part_answer.Idle = (old.parts ≡ []) × (after ≡ core) × (new ≡ old)
TakesPart core old after new part_answer.Missing = (0 < length old.parts) × (part_reply core old.parts ≡ None)
    × (core.fault ≡ None) × (after ≡ core) × (new ≡ old)
TakesPart core old after new (part_answer.Failed fault) = (part_reply core old.parts ≡ None)
    × (core.fault ≡ Some fault)
    × TakesFirst (λ part. Unit {0}) core old after new
TakesPart core old after new (part_answer.Came r len) = TakesFirst (IsPartReply core r len) core old after new

-- ---- Abandoned requests

-- The core after the tickets of these parts were abandoned, the first one first.
abbrev pub drops_parts : Core → List Part → Core
drops_parts core [] = core
drops_parts core (part ∷ later) = drops_parts (core_after_abandon core part.ticket) later

-- No part is in flight any more.
pub record DropsParts (core : Core) (old : HoldingValue) (after : Core) (new : HoldingValue) : Type 0 where
  pub core_is : after ≡ drops_parts core old.parts
  pub now : new ≡ record old { parts = [] }

-- The CLOSE of the file's handle was queued, and its status is awaited.
pub record ClosesFile (core : Core) (old : HoldingValue) (after : Core) (new : HoldingValue) : Type 0 where
  pub grant : GrantValue
  pub opened : old.file ≡ hold.Opened grant
  pub core_is : after ≡ core_after_release core grant
  pub now : new ≡ record old { file = hold.Asked grant.id expected.Status }

-- The parts were abandoned, and then the file was closed.
pub record LetsFileGo (core : Core) (old : HoldingValue) (after : Core) (new : HoldingValue) : Type 0 where
  pub mid : Core
  pub alone : HoldingValue
  pub drops : DropsParts core old mid alone
  pub closes : ClosesFile mid alone after new

-- The core after the file was abandoned: the CLOSE of its handle is queued as soon as the handle is granted, and
-- nothing awaits its status.
abbrev pub drops_file : Core → FileHold → Core
drops_file core hold.Nothing = core
drops_file core (hold.Asked ticket kind) = core_after_abandon core ticket
drops_file core (hold.Opened grant) = core_after_abandon (core_after_release core grant) grant.id
