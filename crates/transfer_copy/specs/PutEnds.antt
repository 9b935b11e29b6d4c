-- believed, except EndsRefused, IsClosedAt, ChecksOrFails, RemovesOld
-- The end of a copy to the server, which gives the part file its name, and each step of such a copy.
use Rattle.std.specs.Prelude.{◌≡◌, ◌⊎◌, ℕ, Bool, true, false, List, Some, None, Ok, Err}
use Rattle.sftp_model.specs.declared.file_attrs.FileAttrs.{FileAttrs}
use Rattle.sftp_core.specs.Core.{Core}
use Rattle.transfer_copy.specs.declared.copy_error.CopyError.{CopyError}
use Rattle.transfer_copy.specs.declared.holding.FileAnswer.TheVariants as file_answer
use Rattle.transfer_copy.specs.declared.progress.Progress.{Progress}
use Rattle.transfer_copy.specs.declared.progress.Progress.TheVariants as progress
use Rattle.transfer_copy.specs.declared.put.FilePut.{FilePut}
use Rattle.transfer_copy.specs.declared.put.PutStage.{PutStage}
use Rattle.transfer_copy.specs.declared.put.PutStage.TheVariants as stage
use Rattle.transfer_copy.specs.Asides.{is_directory}
use Rattle.transfer_copy.specs.Holdings.{
  HoldingValue,
  SettlesFile,
  WasFound,
  WasNotFound,
  WasNotOk,
  WasOk,
  WasSettled,
}
use Rattle.transfer_copy.specs.Local.{LocalAct}
use Rattle.transfer_copy.specs.PutRequests.{naming_request, offers_rename}
use Rattle.transfer_copy.specs.Puts.{AsksAt, IsPutStill, OpensPut, StartsPut, WritesOn}
use Rattle.transfer_copy.specs.Refusals.{is_failure}

-- ---- Requests

-- The request of this stage was asked, which the copy awaits there. Or it could not be submitted, and the copy has
-- ended.
abbrev pub AsksNaming : List ℕ → List ℕ → PutStage → Core → FilePut → Core → FilePut → Progress → Type 0
AsksNaming part remote to core old after new result =
    AsksAt (naming_request part remote to) to core old after new result

-- The server answered with OK, and then the request of this stage was asked.
pub record AsksThen (part remote : List ℕ) (to : PutStage) (core : Core) (old : FilePut) (after : Core) (new : FilePut)
    (result : Progress) : Type 0 where
  pub mid : Core
  pub left : HoldingValue
  pub ok : WasOk core old.holding mid left
  pub asks : AsksNaming part remote to mid (record old { holding = left }) after new result

-- The server refused a rename. This refusal is kept, and then the request of this stage was asked.
pub record AsksRefused (part remote : List ℕ) (why : CopyError) (to : PutStage) (core : Core) (old : FilePut)
    (after : Core) (new : FilePut) (result : Progress) : Type 0 where
  pub mid : Core
  pub left : HoldingValue
  pub not_ok : WasNotOk core old.holding mid left why
  pub asks : AsksNaming part remote to mid (record old { holding = left; failure = Some why }) after new result

-- The server refused a plain RENAME with FAILURE, which names no cause. Then the attributes of the entry that has the
-- name were asked.
pub record ChecksName (part remote : List ℕ) (core : Core) (old : FilePut) (after : Core) (new : FilePut)
    (result : Progress) : Type 0 where
  pub why : CopyError
  pub failed : is_failure why ≡ true
  pub asks : AsksRefused part remote why stage.Checking core old after new result

-- The attributes of the entry came, and they are not those of a directory. Then its rename to the name aside was asked.
pub record SetsAside (part remote : List ℕ) (core : Core) (old : FilePut) (after : Core) (new : FilePut)
    (result : Progress) : Type 0 where
  pub mid : Core
  pub left : HoldingValue
  pub attrs : FileAttrs
  pub found : WasFound attrs core old.holding mid left
  pub plain : is_directory attrs ≡ false
  pub asks : AsksNaming part remote stage.SettingAside mid (record old { holding = left }) after new result

-- The second RENAME was refused. Then the rename of the old file to its name was asked.
pub record RestoresOld (part remote : List ℕ) (core : Core) (old : FilePut) (after : Core) (new : FilePut)
    (result : Progress) : Type 0 where
  pub why : CopyError
  pub asks : AsksRefused part remote why stage.RestoringOld core old after new result

-- The stage at which the first rename is awaited: the one that replaces a file, or the plain RENAME.
abbrev pub rename_stage : Bool → PutStage
rename_stage true = stage.Replacing
rename_stage false = stage.Renaming

-- The server answered with OK, and then the first rename of the part file was asked. It replaces a file that has the
-- name exactly if the server offers that.
abbrev pub AsksName : List ℕ → List ℕ → Core → FilePut → Core → FilePut → Progress → Type 0
AsksName part remote core old after new result =
    AsksThen part remote (rename_stage (offers_rename core)) core old after new result

-- ---- Steps

-- The reply is missing, and nothing changed.
abbrev pub PutWaits : Core → FilePut → Core → FilePut → Type 0
PutWaits core old after new = SettlesFile core old.holding core old.holding file_answer.Missing
    × IsPutStill core old after new

-- The copy ended with the refusal that was kept.
abbrev pub EndsRefused : FilePut → FilePut → Progress → Type 0
EndsRefused old new (progress.Ended (Err e)) = (old.failure ≡ Some e)
    × (new ≡ record old { stage = stage.Ended; failure = None })
EndsRefused old new other = ⊥

-- The file is closed. If nothing failed, the rename of the part file is asked; otherwise the first failure is returned.
abbrev pub IsClosedAt : List ℕ → List ℕ → Core → FilePut → Core → FilePut → Progress → Type 0
IsClosedAt part remote core old after new result = ((old.failure ≡ None)
    × AsksNaming part remote (rename_stage (offers_rename core)) core old after new result)
    ⊎ ((first : CopyError) × (old.failure ≡ Some first) × (result ≡ progress.Ended (Err first)) × (after ≡ core)
    × (new.stage ≡ stage.Ended))

-- Nothing failed and the server answered the CLOSE with OK, and the rename of the part file is asked. Otherwise the
-- first failure is returned.
abbrev pub EndsWriting : List ℕ → List ℕ → Core → FilePut → Core → FilePut → Progress → Type 0
EndsWriting part remote core old after new progress.Waits = PutWaits core old after new
EndsWriting part remote core old after new progress.Moved = (old.failure ≡ None)
    × AsksName part remote core old after new progress.Moved
EndsWriting part remote core old after new (progress.Ended (Err e)) =
    ((old.failure ≡ Some e) × (new.stage ≡ stage.Ended))
    ⊎ ((old.failure ≡ None) × WasNotOk core old.holding after new.holding e × (new.stage ≡ stage.Ended))
    ⊎ ((old.failure ≡ None) × AsksName part remote core old after new (progress.Ended (Err e)))
EndsWriting part remote core old after new (progress.Ended (Ok len)) = ⊥

-- The rename that replaces a file was OK, or it was not.
abbrev pub PutNamed : Core → FilePut → Core → FilePut → Progress → Type 0
PutNamed core old after new progress.Waits = PutWaits core old after new
PutNamed core old after new progress.Moved = ⊥
PutNamed core old after new (progress.Ended (Ok len)) = WasOk core old.holding after new.holding × (len ≡ old.offset)
    × (new.stage ≡ stage.Ended)
PutNamed core old after new (progress.Ended (Err e)) = WasNotOk core old.holding after new.holding e
    × (new.stage ≡ stage.Ended)

-- After a plain RENAME that was refused so: if the server named no cause, the entry that has the name is looked for;
-- otherwise the copy ends with this refusal.
abbrev pub ChecksOrFails : CopyError → List ℕ → List ℕ → Core → FilePut → Core → FilePut → Progress → Type 0
ChecksOrFails why part remote core old after new result = ((is_failure why ≡ true)
    × AsksNaming part remote stage.Checking core (record old { failure = Some why }) after new result)
    ⊎ ((is_failure why ≡ false) × (result ≡ progress.Ended (Err why)) × (after ≡ core)
    × (new ≡ record old { stage = stage.Ended }))

-- A plain RENAME was OK. Or it was refused: if the server named no cause, the entry that has the name is looked for;
-- otherwise the copy ends with this refusal.
abbrev pub NamedOrChecks : List ℕ → List ℕ → Core → FilePut → Core → FilePut → Progress → Type 0
NamedOrChecks part remote core old after new progress.Waits = PutWaits core old after new
NamedOrChecks part remote core old after new progress.Moved = ChecksName part remote core old after new progress.Moved
NamedOrChecks part remote core old after new (progress.Ended (Ok len)) = WasOk core old.holding after new.holding
    × (len ≡ old.offset) × (new.stage ≡ stage.Ended)
NamedOrChecks part remote core old after new (progress.Ended (Err e)) = (WasNotOk core old.holding after new.holding e
    × (is_failure e ≡ false) × (new.stage ≡ stage.Ended))
    ⊎ ChecksName part remote core old after new (progress.Ended (Err e))

-- No attributes came, or those of a directory.
abbrev pub FindsNoFile : Core → FilePut → Core → FilePut → Type 0
FindsNoFile core old after new = WasNotFound core old.holding after new.holding
    ⊎ ((attrs : FileAttrs) × WasFound attrs core old.holding after new.holding × (is_directory attrs ≡ true))

-- A file has the name, and it is renamed aside. Or none has it, and the copy ends with the refusal of the RENAME.
abbrev pub FindsFile : List ℕ → List ℕ → Core → FilePut → Core → FilePut → Progress → Type 0
FindsFile part remote core old after new progress.Waits = PutWaits core old after new
FindsFile part remote core old after new progress.Moved = SetsAside part remote core old after new progress.Moved
FindsFile part remote core old after new (progress.Ended (Err e)) =
    (FindsNoFile core old after new × (old.failure ≡ Some e) × (new.stage ≡ stage.Ended))
    ⊎ SetsAside part remote core old after new (progress.Ended (Err e))
FindsFile part remote core old after new (progress.Ended (Ok len)) = ⊥

-- The old file is aside, and the part file is renamed again. Or it was not renamed, and the copy ends with the refusal
-- of the first RENAME.
abbrev pub IsAside : List ℕ → List ℕ → Core → FilePut → Core → FilePut → Progress → Type 0
IsAside part remote core old after new progress.Waits = PutWaits core old after new
IsAside part remote core old after new progress.Moved =
    AsksThen part remote stage.RenamingAgain core old after new progress.Moved
IsAside part remote core old after new (progress.Ended (Err e)) =
    (((why : CopyError) × WasNotOk core old.holding after new.holding why) × (old.failure ≡ Some e)
    × (new.stage ≡ stage.Ended))
    ⊎ AsksThen part remote stage.RenamingAgain core old after new (progress.Ended (Err e))
IsAside part remote core old after new (progress.Ended (Ok len)) = ⊥

-- The removal of the old file is asked. If it can't be submitted, the copy has ended all the same.
abbrev pub RemovesOld : List ℕ → List ℕ → Core → FilePut → Core → FilePut → Progress → Type 0
RemovesOld part remote core old after new progress.Moved =
    AsksNaming part remote stage.RemovingOld core old after new progress.Moved
RemovesOld part remote core old after new (progress.Ended (Ok len)) = ((e : CopyError)
    × AsksNaming part remote stage.RemovingOld core old after new (progress.Ended (Err e)))
    × (len ≡ old.offset)
RemovesOld part remote core old after new other = ⊥

-- The second RENAME was OK, and the old file is removed; if that can't be asked, the copy ends with its count. Or the
-- RENAME was refused, and the old file is renamed back.
abbrev pub NamedAgain : List ℕ → List ℕ → Core → FilePut → Core → FilePut → Progress → Type 0
NamedAgain part remote core old after new progress.Waits = PutWaits core old after new
NamedAgain part remote core old after new progress.Moved =
    AsksThen part remote stage.RemovingOld core old after new progress.Moved
    ⊎ RestoresOld part remote core old after new progress.Moved
NamedAgain part remote core old after new (progress.Ended (Ok len)) = ((e : CopyError)
    × AsksThen part remote stage.RemovingOld core old after new (progress.Ended (Err e)))
    × (len ≡ old.offset)
NamedAgain part remote core old after new (progress.Ended (Err e)) =
    RestoresOld part remote core old after new (progress.Ended (Err e))

-- The removal of the old file was answered, or a fault is kept. In any case the copy ends with its count.
abbrev pub OldRemoved : Core → FilePut → Core → FilePut → Progress → Type 0
OldRemoved core old after new progress.Waits = PutWaits core old after new
OldRemoved core old after new progress.Moved = ⊥
OldRemoved core old after new (progress.Ended (Ok len)) = WasSettled core old.holding after new.holding
    × (len ≡ old.offset) × (new.stage ≡ stage.Ended)
OldRemoved core old after new (progress.Ended (Err e)) = ⊥

-- The rename of the old file to its name was answered, or a fault is kept. In any case the copy ends with the refusal
-- of the second RENAME.
abbrev pub OldRestored : Core → FilePut → Core → FilePut → Progress → Type 0
OldRestored core old after new progress.Waits = PutWaits core old after new
OldRestored core old after new progress.Moved = ⊥
OldRestored core old after new (progress.Ended (Ok len)) = ⊥
OldRestored core old after new (progress.Ended (Err e)) = WasSettled core old.holding after new.holding
    × (old.failure ≡ Some e) × (new.stage ≡ stage.Ended)

-- ---- One step

-- The effect of a step, by the stage of the copy before it.
abbrev pub PutStepDid : {H : Type 0} → (LocalAct → H → H) → List ℕ → List ℕ → List ℕ → Core → FilePut → Core → FilePut
    → H
    → H → Progress → PutStage → Type 0
PutStepDid done name part remote core old after new before now result stage.Starting =
    StartsPut done name part core old after new before now result
PutStepDid done name part remote core old after new before now result stage.Opening = OpensPut core old after new result
    × (now ≡ before)
PutStepDid done name part remote core old after new before now result stage.Writing =
    WritesOn done core old after new before now result
PutStepDid done name part remote core old after new before now result stage.Closing =
    EndsWriting part remote core old after new result × (now ≡ before)
PutStepDid done name part remote core old after new before now result stage.Replacing =
    PutNamed core old after new result
    × (now ≡ before)
PutStepDid done name part remote core old after new before now result stage.Renaming =
    NamedOrChecks part remote core old after new result × (now ≡ before)
PutStepDid done name part remote core old after new before now result stage.Checking =
    FindsFile part remote core old after new result × (now ≡ before)
PutStepDid done name part remote core old after new before now result stage.SettingAside =
    IsAside part remote core old after new result × (now ≡ before)
PutStepDid done name part remote core old after new before now result stage.RenamingAgain =
    NamedAgain part remote core old after new result × (now ≡ before)
PutStepDid done name part remote core old after new before now result stage.RemovingOld =
    OldRemoved core old after new result
    × (now ≡ before)
PutStepDid done name part remote core old after new before now result stage.RestoringOld =
    OldRestored core old after new result
    × (now ≡ before)
PutStepDid done name part remote core old after new before now result stage.Ended = ⊥
