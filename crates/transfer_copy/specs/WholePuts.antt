-- believed
-- A whole copy to the server: the bytes that were read, the WRITEs that carried them, and their statuses.
use Rattle.std.specs.Prelude.{
  ◌≡◌,
  ◌==◌,
  ℕ,
  ◌+◌,
  Bool,
  true,
  false,
  List,
  [],
  ◌∷◌,
  ◌++◌,
  length,
  map,
  Some,
  if◌then◌else◌,
}
use Rattle.sftp_model.specs.declared.answers.Expected.TheVariants as expected
use Rattle.sftp_model.specs.declared.file_attrs.FileAttrs.{FileAttrs}
use Rattle.sftp_model.specs.declared.reply.Reply.{Reply}
use Rattle.sftp_model.specs.declared.reply.Reply.TheVariants as reply
use Rattle.sftp_core.specs.Core.{record_at, reply_in}
use Rattle.sftp_core.specs.Grant.{GrantValue}
use Rattle.transfer_copy.specs.Local.{Got, HasDone, LocalAct, Opened, reads_of}
use Rattle.transfer_copy.specs.declared.holding.FileHold.TheVariants as hold
use Rattle.transfer_copy.specs.declared.progress.Progress.TheVariants as progress
use Rattle.transfer_copy.specs.declared.put.FilePut.{FilePut}
use Rattle.transfer_copy.specs.declared.put.PutStage.TheVariants as stage
use Rattle.transfer_copy.specs.Holdings.{AsksFile, AsksForAttrs, AsksForSync, AsksForWrite, LetsFileGo, WasOk, WasSettled}
use Rattle.transfer_copy.specs.Legs.{AnswersFirst, AreDeeds, CopyStep}
use Rattle.transfer_copy.specs.PutEnds.{AsksName, AsksThen, ChecksName, PutStepDid, SetsAside}
use Rattle.transfer_copy.specs.PutRequests.{offers_sync, open_part}
use Rattle.transfer_copy.specs.Refusals.{IsOkStatus}

-- A step of a copy to the server.
abbrev pub IsPutLeg : {H : Type 0} → (LocalAct → H → H) → List ℕ → List ℕ → List ℕ → CopyStep FilePut H → Type 0
IsPutLeg done name part remote leg =
    PutStepDid done name part remote leg.core leg.old leg.after leg.new leg.before leg.now leg.result leg.old.stage

-- ---- WRITEs and their statuses

-- A WRITE that was asked, with the ticket of its status.
pub record AskedWrite : Type 0 where
  pub ticket : ℕ
  pub offset : ℕ
  pub bytes : List ℕ

-- Bytes were read and a WRITE of them was asked; the end was read; an FSETSTAT was asked; an fsync was asked under a
-- ticket; or OK came under a ticket.
pub data WriteDeed : Type 0 where
  AsksWrite : AskedWrite → WriteDeed
  GotEnd : WriteDeed
  AsksAttrs : FileAttrs → WriteDeed
  AsksSync : ℕ → WriteDeed
  GotOk : ℕ → WriteDeed

-- The WRITEs that were not answered, in the order in which they were asked, and those that the server answered with OK.
pub record Writes : Type 0 where
  pub under_way : List AskedWrite
  pub accepted : List AskedWrite

-- OK answers the first WRITE in flight if it came under its ticket.
abbrev pub accepted_by : ℕ → Writes → List AskedWrite → Writes
accepted_by ticket so [] = so
accepted_by ticket so (write ∷ later) =
    if ticket == write.ticket then record { under_way = later; accepted = so.accepted ++ write ∷ [] } else so

abbrev pub after_write : WriteDeed → Writes → Writes
after_write (AsksWrite write) so = record so { under_way = so.under_way ++ write ∷ [] }
after_write (GotOk ticket) so = accepted_by ticket so so.under_way
after_write other so = so

-- The WRITEs after these operations, of which the newest is first.
abbrev pub writes_after : List WriteDeed → Writes
writes_after [] = record { under_way = []; accepted = [] }
writes_after (deed ∷ earlier) = after_write deed (writes_after earlier)

-- Each WRITE is at the offset where the ones before it end. The first one starts at `from`, and they end at `to`.
abbrev pub AreWrittenFromTo : ℕ → List AskedWrite → ℕ → Type 0
AreWrittenFromTo from [] to = from ≡ to
AreWrittenFromTo from (write ∷ later) to = (write.offset ≡ from)
    × AreWrittenFromTo (from + length write.bytes) later to

-- The fsync was asked after OK to each WRITE, and had OK. Nothing was asked after it.
pub record IsSynced (writing : List WriteDeed) : Type 0 where
  pub ticket : ℕ
  pub earlier : List WriteDeed
  pub last : writing ≡ GotOk ticket ∷ AsksSync ticket ∷ earlier
  pub answered : (writes_after earlier).under_way ≡ []

-- No fsync was asked.
abbrev pub AskNoSync : List WriteDeed → Type 0
AskNoSync [] = Unit {0}
AskNoSync (AsksSync ticket ∷ earlier) = ⊥
AskNoSync (other ∷ earlier) = AskNoSync earlier

abbrev pub carried_by : List AskedWrite → List (List ℕ)
carried_by writes = map (λ (w : AskedWrite). w.bytes) writes

-- ---- Operations

-- The local file was opened and the OPEN asked; its HANDLE came; bytes were sent and answered; the CLOSE was queued,
-- and the server offered the fsync then if this is true; the CLOSE had OK, and the rename was asked; FAILURE refused
-- it, and the LSTAT of the name was asked; ATTRS came, and the rename of the old file aside was asked; that had OK, and
-- the rename of the part was asked again; that had OK, and the REMOVE of the old file was asked; the REMOVE was
-- answered; or the last rename had OK.
pub data PutDeed : Type 0 where
  AsksOpen : PutDeed
  Opens : PutDeed
  Writing : WriteDeed → PutDeed
  Closes : Bool → PutDeed
  AsksRename : PutDeed
  AsksLook : PutDeed
  AsksAside : PutDeed
  AsksAgain : PutDeed
  AsksRemove : PutDeed
  EndsRemove : PutDeed
  Names : PutDeed

-- Bytes or the end were read, a WRITE, the FSETSTAT or the fsync was asked, or one of them had OK.
abbrev pub DidWrite : {H : Type 0} → (LocalAct → H → H) → WriteDeed → CopyStep FilePut H → Type 0
DidWrite done (AsksWrite write) leg =
    ((asks : AsksForWrite leg.core leg.old.holding write.offset write.bytes leg.after leg.new.holding)
    × (asks.ticket ≡ write.ticket))
    × (leg.now ≡ done (Got write.bytes) leg.before)
DidWrite done GotEnd leg = leg.now ≡ done (Got []) leg.before
DidWrite done (AsksAttrs attrs) leg = AsksForAttrs leg.core leg.old.holding attrs leg.after leg.new.holding
    × (leg.now ≡ leg.before)
DidWrite done (AsksSync ticket) leg =
    ((asks : AsksForSync leg.core leg.old.holding leg.after leg.new.holding) × (asks.ticket ≡ ticket))
    × (leg.now ≡ leg.before)
DidWrite done (GotOk ticket) leg = ((r : Reply) × IsOkStatus r
    × AnswersFirst ticket r leg.core leg.old.holding leg.after leg.new.holding)
    × (leg.now ≡ leg.before)

-- The step did this operation. The grant is the one that the OPEN brought: its ticket, and the handle that came.
abbrev pub DidPut : {H : Type 0} → (LocalAct → H → H) → List ℕ → List ℕ → List ℕ → ℕ → GrantValue → PutDeed
    → CopyStep FilePut H → Type 0
DidPut done name part remote from grant AsksOpen leg =
    ((asks : AsksFile leg.core leg.old.holding (open_part from leg.old.mode part) leg.after leg.new.holding)
    × (asks.ticket ≡ grant.id))
    × (leg.now ≡ done (Opened name from) leg.before)
DidPut done name part remote from grant Opens leg = (leg.old.holding.file ≡ hold.Asked grant.id expected.Handle)
    × (reply_in (record_at leg.core grant.id) ≡ Some (reply.Handle grant.handle))
    × (leg.now ≡ leg.before)
DidPut done name part remote from grant (Writing deed) leg = (leg.old.holding.file ≡ hold.Opened grant)
    × DidWrite done deed leg
DidPut done name part remote from grant (Closes offered) leg = (leg.old.holding.file ≡ hold.Opened grant)
    × LetsFileGo leg.core leg.old.holding leg.after leg.new.holding
    × (offers_sync leg.core ≡ offered)
    × (leg.now ≡ leg.before)
DidPut done name part remote from grant AsksRename leg = (leg.old.holding.file ≡ hold.Asked grant.id expected.Status)
    × AsksName part remote leg.core leg.old leg.after leg.new progress.Moved
    × (leg.now ≡ leg.before)
DidPut done name part remote from grant AsksLook leg =
    ChecksName part remote leg.core leg.old leg.after leg.new progress.Moved
    × (leg.now ≡ leg.before)
DidPut done name part remote from grant AsksAside leg =
    SetsAside part remote leg.core leg.old leg.after leg.new progress.Moved
    × (leg.now ≡ leg.before)
DidPut done name part remote from grant AsksAgain leg =
    AsksThen part remote stage.RenamingAgain leg.core leg.old leg.after leg.new progress.Moved
    × (leg.now ≡ leg.before)
DidPut done name part remote from grant AsksRemove leg =
    AsksThen part remote stage.RemovingOld leg.core leg.old leg.after leg.new progress.Moved
    × (leg.now ≡ leg.before)
DidPut done name part remote from grant EndsRemove leg =
    WasSettled leg.core leg.old.holding leg.after leg.new.holding
    × (leg.now ≡ leg.before)
DidPut done name part remote from grant Names leg =
    WasOk leg.core leg.old.holding leg.after leg.new.holding
    × (leg.now ≡ leg.before)

-- FAILURE refused the first rename, a file was found under the name and renamed aside, and the rename of the part was
-- asked again.
abbrev pub asked_again : List PutDeed
asked_again = AsksAgain ∷ AsksAside ∷ AsksLook ∷ AsksRename ∷ []

-- How the part got its name: by the first rename; or by the second one, after which the removal of the old file could
-- not be asked, or was asked and answered.
pub data Naming : Type 0 where
  AtOnce : Naming
  Again : Naming
  AgainRemoved : Naming

abbrev pub naming_deeds : Naming → List PutDeed
naming_deeds AtOnce = Names ∷ AsksRename ∷ []
naming_deeds Again = Names ∷ asked_again
naming_deeds AgainRemoved = EndsRemove ∷ AsksRemove ∷ asked_again

-- ---- The whole copy

-- A copy to the server that started at an offset and returned the count `len`. Its steps did this: the local file was
-- opened there and the OPEN asked, which brought the grant. Bytes were read, and a WRITE of its handle was asked for
-- each piece, at the offset where those before end, with no gap up to `len`. Each WRITE had OK, and none was in flight
-- when the CLOSE was queued. With `sync` an fsync of the handle had OK after them, if the server offered it when the
-- CLOSE was queued; without `sync` none was asked. The CLOSE had OK, and then a rename of the part to its name had.
-- Nothing more was done to the local file.
pub record SentWhole {H : Type 0} (done : LocalAct → H → H) (name part remote : List ℕ) (sync : Bool) (from len : ℕ)
    (first now : H) (legs : List (CopyStep FilePut H)) : Type 0 where
  pub grant : GrantValue
  pub writing : List WriteDeed
  pub writes : List AskedWrite
  pub offered : Bool
  pub naming : Naming
  pub deeds : AreDeeds (DidPut done name part remote from grant) legs
      (naming_deeds naming ++ Closes offered ∷ (map Writing writing ++ Opens ∷ AsksOpen ∷ []))
  pub answered : writes_after writing ≡ record { under_way = []; accepted = writes }
  pub in_order : AreWrittenFromTo from writes len
  pub synced : sync ≡ true → offered ≡ true → IsSynced writing
  pub unsynced : sync ≡ false → AskNoSync writing
  pub acts : HasDone done (Opened name from ∷ (reads_of (carried_by writes) ++ Got [] ∷ [])) first now
