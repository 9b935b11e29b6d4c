-- believed, except PutHasEnded, put_is_over, IsOpenToWrite, IsBehindWrite, IsBetween, IsNaming, PutSendsOn, PutLeaves
-- A copy from a local file to the server, step by step, until the part file is closed.
use Rattle.std.specs.Prelude.{
  ◌≡◌,
  ◌⊎◌,
  ◌≤◌,
  ◌<◌,
  ℕ,
  ◌+◌,
  ◌^◌,
  Bool,
  true,
  false,
  List,
  [],
  length,
  max,
  Option,
  Some,
  None,
  Ok,
  Err,
  IsSome,
  if◌then◌else◌,
}
use Rattle.sftp_model.specs.declared.answers.Expected.{Expected}
use Rattle.sftp_model.specs.declared.answers.Expected.TheVariants as expected
use Rattle.sftp_model.specs.declared.file_attrs.FileAttrs.{FileAttrs}
use Rattle.sftp_model.specs.declared.reply.Reply.{Reply}
use Rattle.sftp_model.specs.declared.request.Request.{Request}
use Rattle.sftp_core.specs.Core.{Core}
use Rattle.sftp_core.specs.Info.{info_of}
use Rattle.transfer_copy.specs.declared.copy_error.CopyError.{CopyError}
use Rattle.transfer_copy.specs.declared.holding.FileAnswer.TheVariants as file_answer
use Rattle.transfer_copy.specs.declared.holding.PartAnswer.TheVariants as part_answer
use Rattle.transfer_copy.specs.declared.progress.Progress.{Progress}
use Rattle.transfer_copy.specs.declared.progress.Progress.TheVariants as progress
use Rattle.transfer_copy.specs.declared.put.FilePut.{FilePut}
use Rattle.transfer_copy.specs.declared.put.PutStage.{PutStage}
use Rattle.transfer_copy.specs.declared.put.PutStage.TheVariants as stage
use Rattle.transfer_copy.specs.Holdings.{
  AsksFile,
  AsksForAttrs,
  AsksForSync,
  AsksForWrite,
  HoldingValue,
  HoldsAll,
  IsOnly,
  IsFileOpen,
  WasRefused,
  KeepsApart,
  LetsFileGo,
  SettlesFile,
  TakesPart,
  bytes_under_way,
  nothing_held,
}
use Rattle.transfer_copy.specs.Local.{Failed, Got, LocalAct, Opened}
use Rattle.transfer_copy.specs.PutRequests.{offers_sync, open_part}
use Rattle.transfer_copy.specs.Refusals.{IsOkStatus, IsUnasked}

-- ---- The stage of a copy

-- The parts cover the file without a gap from the first byte that the server has not answered with OK.
pub record IsWritingOn (p : FilePut) : Type 0 where
  pub file : IsFileOpen p.holding.file
  pub next : p.offset + bytes_under_way p.holding.parts ≡ p.next
  pub small : p.next < 2 ^ 64
  pub wide : 1 ≤ p.window
  pub unfailed : p.failure ≡ None

-- Nothing or only the OPEN was asked, and no byte was read: the copy is at its start.
pub record IsUnwritten (Holds : HoldingValue → Type 0) (p : FilePut) : Type 0 where
  pub holds : Holds p.holding
  pub next : p.next ≡ p.offset
  pub small : p.offset < 2 ^ 64
  pub at_end : p.at_end ≡ false
  pub wide : 1 ≤ p.window
  pub unfailed : p.failure ≡ None

-- Only one request is in flight, and a refusal is kept, with which the copy may end.
pub record IsRefusedOnly (kind : Expected) (p : FilePut) : Type 0 where
  pub only : IsOnly kind p.holding
  pub refused : IsSome p.failure

abbrev pub StandsPut : PutStage → FilePut → Type 0
StandsPut stage.Starting p = IsUnwritten (λ h. h ≡ nothing_held) p
StandsPut stage.Opening p = IsUnwritten (IsOnly expected.Handle) p
StandsPut stage.Writing p = IsWritingOn p
StandsPut stage.Closing p = IsOnly expected.Status p.holding
StandsPut stage.Replacing p = IsOnly expected.Status p.holding
StandsPut stage.Renaming p = IsOnly expected.Status p.holding
StandsPut stage.Checking p = IsRefusedOnly expected.Attrs p
StandsPut stage.SettingAside p = IsRefusedOnly expected.Status p
StandsPut stage.RenamingAgain p = IsOnly expected.Status p.holding
StandsPut stage.RemovingOld p = IsOnly expected.Status p.holding
StandsPut stage.RestoringOld p = IsRefusedOnly expected.Status p
StandsPut stage.Ended p = p.holding ≡ nothing_held

-- A copy over a core of an open session: the core awaits the replies that the copy awaits. After its end the copy
-- awaits nothing.
pub record IsPutting (core : Core) (p : FilePut) : Type 0 where
  pub opened : IsSome (info_of core.phase)
  pub held : HoldsAll core p.holding
  pub stands : StandsPut p.stage p

-- It has not ended.
abbrev pub IsPutUnended : PutStage → Type 0
IsPutUnended stage.Ended = ⊥
IsPutUnended other = Unit {0}

pub record MayPut (core : Core) (p : FilePut) : Type 0 where
  pub putting : IsPutting core p
  pub going : IsPutUnended p.stage

-- It has ended exactly if a step says so.
abbrev pub PutHasEnded : PutStage → Progress → Type 0
PutHasEnded s (progress.Ended result) = s ≡ stage.Ended
PutHasEnded s other = IsPutUnended s

abbrev pub put_is_over : PutStage → Bool
put_is_over stage.Ended = true
put_is_over other = false

-- A copy from an offset on that has asked for nothing. The part file is created with these permissions, and given these
-- attributes after its last bytes. Then it is written through to the disk if that is wanted.
abbrev pub put_begun : ℕ → ℕ → Option ℕ → Option FileAttrs → Bool → FilePut
put_begun window from mode attrs sync =
    record {
      holding = nothing_held;
      stage = stage.Starting;
      window = max window 1;
      at_end = false;
      offset = from;
      next = from;
      mode = mode;
      attrs = attrs;
      sync = sync;
      failure = None;
    }

-- The file is open, and nothing failed.
pub record IsOpenToWrite (core : Core) (p : FilePut) : Type 0 where
  pub opened : IsSome (info_of core.phase)
  pub held : HoldsAll core p.holding
  pub file : IsFileOpen p.holding.file
  pub unfailed : p.failure ≡ None

-- The first WRITE, which carried `len` bytes, was answered.
pub record IsBehindWrite (len : ℕ) (core : Core) (p : FilePut) : Type 0 where
  pub opened : IsSome (info_of core.phase)
  pub held : HoldsAll core p.holding
  pub stage : p.stage ≡ stage.Writing
  pub writing : IsWritingOn (record p { offset = p.offset + len })

-- Nothing is in flight, and the file is closed.
pub record IsBetween (core : Core) (p : FilePut) : Type 0 where
  pub opened : IsSome (info_of core.phase)
  pub none : p.holding ≡ nothing_held

-- A stage of the end at which a request is awaited. At three of them a refusal is kept.
abbrev pub IsNaming : PutStage → Option CopyError → Type 0
IsNaming stage.Replacing kept = Unit {0}
IsNaming stage.Renaming kept = Unit {0}
IsNaming stage.Checking kept = IsSome kept
IsNaming stage.SettingAside kept = IsSome kept
IsNaming stage.RenamingAgain kept = Unit {0}
IsNaming stage.RemovingOld kept = Unit {0}
IsNaming stage.RestoringOld kept = IsSome kept
IsNaming other kept = ⊥

-- ---- Steps

-- No reply was taken, and nothing changed.
abbrev pub IsPutStill : Core → FilePut → Core → FilePut → Type 0
IsPutStill core old after new = (after ≡ core) × (new ≡ old)

-- The parts were abandoned and the file was closed, and the status of the CLOSE is awaited. If the copy failed before,
-- its first failure is kept.
pub record LeavesPut (Why : Option CopyError → Type 0) (core : Core) (h : HoldingValue) (old : FilePut) (after : Core)
    (new : FilePut) : Type 0 where
  pub goes : LetsFileGo core h after new.holding
  pub stage : new.stage ≡ stage.Closing
  pub offset : new.offset ≡ old.offset
  pub failure : Why new.failure

abbrev pub PutGivesUp : Core → HoldingValue → FilePut → Core → FilePut → Type 0
PutGivesUp core h old after new = LeavesPut (λ why. IsSome why) core h old after new

abbrev pub PutFinishes : Core → HoldingValue → FilePut → Core → FilePut → Type 0
PutFinishes core h old after new = LeavesPut (λ why. why ≡ None) core h old after new

-- A request of the file was asked, which the copy awaits at this stage. Or it could not be submitted, and the copy has
-- ended.
abbrev pub AsksAt : Request → PutStage → Core → FilePut → Core → FilePut → Progress → Type 0
AsksAt asked to core old after new progress.Moved = AsksFile core old.holding asked after new.holding
    × (new ≡ record old { stage = to; holding = new.holding })
AsksAt asked to core old after new (progress.Ended (Err e)) = (after ≡ core)
    × (new ≡ record old { stage = stage.Ended })
    × IsUnasked core asked e
AsksAt asked to core old after new other = ⊥

-- The local file was opened at the offset, and then the OPEN of the part file for writing was asked. Or one of the two
-- failed.
abbrev pub StartsPut : {H : Type 0} → (LocalAct → H → H) → List ℕ → List ℕ → Core → FilePut → Core → FilePut → H → H
    → Progress → Type 0
StartsPut done name part core old after new before now progress.Moved = (now ≡ done (Opened name old.offset) before)
    × AsksAt (open_part old.offset old.mode part) stage.Opening core old after new progress.Moved
StartsPut done name part core old after new before now (progress.Ended (Err e)) =
    ((now ≡ done (Opened name old.offset) before)
    × AsksAt (open_part old.offset old.mode part) stage.Opening core old after new (progress.Ended (Err e)))
    ⊎ ((now ≡ done (Failed (Opened name old.offset)) before) × (after ≡ core)
    × (new ≡ record old { stage = stage.Ended }))
StartsPut done name part core old after new before now other = ⊥

-- The HANDLE came.
abbrev pub OpensPut : Core → FilePut → Core → FilePut → Progress → Type 0
OpensPut core old after new progress.Waits = SettlesFile core old.holding core old.holding file_answer.Missing
    × IsPutStill core old after new
OpensPut core old after new progress.Moved = SettlesFile core old.holding after new.holding file_answer.Granted
    × (new ≡ record old { stage = stage.Writing; holding = new.holding })
OpensPut core old after new (progress.Ended (Err e)) = WasRefused core old.holding after new.holding e
    × (new ≡ record old { stage = stage.Ended; holding = new.holding })
OpensPut core old after new (progress.Ended (Ok len)) = ⊥

-- ---- Pieces

-- The status of the first WRITE, or of the FSETSTAT or the fsync, which carry no bytes. OK moves the offset.
abbrev pub AcceptsWrite : Reply → ℕ → Core → FilePut → Core → FilePut → Type 0
AcceptsWrite r len core old after new = (IsOkStatus r × (after ≡ core)
    × (new ≡ record old { offset = old.offset + len }))
    ⊎ ((IsOkStatus r → ⊥) × PutGivesUp core old.holding old after new)

-- The status came.
pub record PutsReply (core : Core) (old : FilePut) (after : Core) (new : FilePut) : Type 0 where
  pub mid : Core
  pub left : HoldingValue
  pub r : Reply
  pub len : ℕ
  pub came : TakesPart core old.holding mid left (part_answer.Came r len)
  pub accepts : AcceptsWrite r len mid (record old { holding = left }) after new

-- The bytes that were read are sent after the others, in one WRITE; or it was refused.
abbrev pub PutWritesNext : List ℕ → Core → FilePut → Core → FilePut → Type 0
PutWritesNext bytes core old after new = (AsksForWrite core old.holding old.next bytes after new.holding
    × (new ≡ record old { holding = new.holding; next = old.next + length bytes }))
    ⊎ PutGivesUp core old.holding old after new

-- The next bytes were read, or none at the end, or the local file failed.
abbrev pub PutReadsNext : {H : Type 0} → (LocalAct → H → H) → Core → FilePut → Core → FilePut → H → H → Type 0
PutReadsNext done core old after new before now = ((bytes : List ℕ) × (0 < length bytes)
    × (now ≡ done (Got bytes) before)
    × PutWritesNext bytes core old after new)
    ⊎ ((now ≡ done (Got []) before) × (after ≡ core) × (new ≡ record old { at_end = true }))
    ⊎ ((now ≡ done (Failed (Got [])) before) × PutGivesUp core old.holding old after new)

-- An fsync is left to ask: it is wanted and was not asked, and the server offers it.
abbrev pub is_sync_due : Core → FilePut → Bool
is_sync_due core p = if p.sync then offers_sync core else false

-- The end was read, the server answered every WRITE with OK, no attributes are left to give, and no fsync to ask.
pub record PutSentAll (core : Core) (old : FilePut) (after : Core) (new : FilePut) : Type 0 where
  pub at_end : old.at_end ≡ true
  pub none : old.holding.parts ≡ []
  pub given : old.attrs ≡ None
  pub synced : is_sync_due core old ≡ false
  pub finishes : PutFinishes core old.holding old after new

-- One FSETSTAT of the file with these attributes was asked; or it was refused.
abbrev pub PutAsksAttrs : FileAttrs → Core → FilePut → Core → FilePut → Type 0
PutAsksAttrs attrs core old after new = (AsksForAttrs core old.holding attrs after new.holding
    × (new ≡ record old { holding = new.holding; attrs = None }))
    ⊎ PutGivesUp core old.holding old after new

-- The end was read, the server answered every WRITE with OK, and attributes are left to give.
pub record PutGivesAttrs (core : Core) (old : FilePut) (after : Core) (new : FilePut) : Type 0 where
  pub at_end : old.at_end ≡ true
  pub none : old.holding.parts ≡ []
  pub attrs : FileAttrs
  pub due : old.attrs ≡ Some attrs
  pub asks : PutAsksAttrs attrs core old after new

-- One fsync of the file was asked; or it was refused.
abbrev pub PutAsksSync : Core → FilePut → Core → FilePut → Type 0
PutAsksSync core old after new = (AsksForSync core old.holding after new.holding
    × (new ≡ record old { holding = new.holding; sync = false }))
    ⊎ PutGivesUp core old.holding old after new

-- The end was read, the server answered every WRITE with OK, and the FSETSTAT if there was one, and an fsync is left to
-- ask.
pub record PutSyncs (core : Core) (old : FilePut) (after : Core) (new : FilePut) : Type 0 where
  pub at_end : old.at_end ≡ true
  pub none : old.holding.parts ≡ []
  pub given : old.attrs ≡ None
  pub due : is_sync_due core old ≡ true
  pub asks : PutAsksSync core old after new

-- No attributes are left to give: the file is closed, or first written through to the disk.
abbrev pub PutSyncsOrCloses : Core → FilePut → Core → FilePut → Type 0
PutSyncsOrCloses core old after new = PutSentAll core old after new ⊎ PutSyncs core old after new

-- All bytes were sent: the file is given its attributes, then written through to the disk, then closed.
abbrev pub PutEndsSending : Core → FilePut → Core → FilePut → Type 0
PutEndsSending core old after new = PutSyncsOrCloses core old after new ⊎ PutGivesAttrs core old after new

-- The step if the first status is missing, or if no WRITE is in flight.
abbrev pub PutSendsOn : {H : Type 0} → (LocalAct → H → H) → Core → FilePut → Core → FilePut → H → H → Progress → Type 0
PutSendsOn done core old after new before now progress.Waits = (0 < length old.holding.parts)
    × IsPutStill core old after new
    × (now ≡ before)
PutSendsOn done core old after new before now progress.Moved =
    ((old.at_end ≡ false) × (length old.holding.parts < old.window)
    × PutReadsNext done core old after new before now)
    ⊎ ((now ≡ before) × (PutEndsSending core old after new ⊎ PutGivesUp core old.holding old after new))
PutSendsOn done core old after new before now (progress.Ended result) = ⊥

-- A WRITE, the FSETSTAT or the fsync was refused, or a fault is kept.
pub record PutsNoMore (core : Core) (old : FilePut) (after : Core) (new : FilePut) : Type 0 where
  pub mid : Core
  pub left : HoldingValue
  pub gives_up : PutGivesUp mid left old after new

abbrev pub WritesOn : {H : Type 0} → (LocalAct → H → H) → Core → FilePut → Core → FilePut → H → H → Progress → Type 0
WritesOn done core old after new before now progress.Waits =
    TakesPart core old.holding core old.holding part_answer.Missing × IsPutStill core old after new × (now ≡ before)
WritesOn done core old after new before now progress.Moved =
    ((old.at_end ≡ false) × (length old.holding.parts < old.window) × PutReadsNext done core old after new before now)
    ⊎ ((now ≡ before)
    × (PutsReply core old after new ⊎ PutEndsSending core old after new ⊎ PutsNoMore core old after new))
WritesOn done core old after new before now (progress.Ended result) = ⊥

-- The copy continues or has ended, and the entries of others in the core are unchanged.
pub record PutLeaves (core : Core) (old : FilePut) (after : Core) (new : FilePut) : Type 0 where
  pub putting : IsPutting after new
  pub apart : KeepsApart old.holding new.holding core after
