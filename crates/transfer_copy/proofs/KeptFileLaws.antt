-- The files of a server while the part of a copy gets its name.
use Rattle.std.proofs.Common.{◌≡◌, ◌≢◌, ◌⊎◌, inl, inr, ◌==◌, ℕ, Bool, true, false, List, refl, sym, ap, ◌∙◌, subst, arith, Option, Some, None, if◌then◌else◌}
use Rattle.std.specs.Prelude.{Ok, Err}
use Rattle.std.proofs.lemmas.Bool.Decides.{nat_tests}
use Rattle.sftp_model.specs.Numbers.{SSH_FX_OK}
use Rattle.sftp_model.specs.declared.reply.Reply.{Reply}
use Rattle.sftp_model.specs.declared.reply.Reply.TheVariants as reply
use Rattle.sftp_model.specs.declared.request.Request.TheVariants as request
use Rattle.sftp_core.specs.Core.{Core}
use Rattle.transfer_copy.specs.declared.copy_error.CopyError.{CopyError}
use Rattle.transfer_copy.specs.declared.progress.Progress.{Progress}
use Rattle.transfer_copy.specs.declared.progress.Progress.TheVariants as progress
use Rattle.transfer_copy.specs.declared.put.FilePut.{FilePut}
use Rattle.transfer_copy.specs.declared.put.PutStage.{PutStage}
use Rattle.transfer_copy.specs.declared.put.PutStage.TheVariants as stage
use Rattle.transfer_copy.specs.Asides.{aside_of}
use Rattle.transfer_copy.specs.Disks.{with_file}
use Rattle.transfer_copy.specs.Holdings.{HoldingValue, WasFound, WasNotOk, WasOk, file_reply}
use Rattle.transfer_copy.specs.KeptFiles.{AreAtStage, Files, IsApart, IsKept, after_request, files_after, is_ok}
use Rattle.transfer_copy.specs.Local.{LocalAct}
use Rattle.transfer_copy.specs.PutEnds.{PutStepDid, PutWaits, rename_stage}
use Rattle.transfer_copy.specs.PutRequests.{naming_request, offers_rename}
use Rattle.transfer_copy.specs.Refusals.{IsOkStatus}
use Rattle.transfer_copy.proofs.AsideLaws.{other_than_part}
use Rattle.transfer_copy.proofs.DiskLaws.{elsewhere, here}
use Rattle.transfer_copy.proofs.LegLaws.{same_number}

-- ---- replies

ok_status : (r : Reply) → IsOkStatus r → is_ok (Some r) ≡ true
ok_status (reply.Status code message language) is = same_number code SSH_FX_OK is
ok_status (reply.Version version extensions) never = absurd never
ok_status other never = absurd never

other_number : (n m : ℕ) → (n ≡ m → ⊥) → (n == m) ≡ false
other_number n m not_is = by_test (n == m) refl
  where
    by_test : (t : Bool) → (n == m) ≡ t → (n == m) ≡ false
    by_test true is = absurd (not_is (grind (arith, nat_tests, is)))
    by_test false is = is

refused_status : (r : Reply) → (IsOkStatus r → ⊥) → is_ok (Some r) ≡ false
refused_status (reply.Status code message language) refused = other_number code SSH_FX_OK refused
refused_status (reply.Version version extensions) refused = refl
refused_status other refused = refl

was_ok : (core after : Core) (old new : HoldingValue) → WasOk core old after new → is_ok (file_reply core old.file)
    ≡ true
was_ok core after old new ok = ap is_ok ok.came.0 ∙ ok_status ok.status ok.ok

was_not_ok : (core after : Core) (old new : HoldingValue) (e : CopyError) → WasNotOk core old after new e
    → is_ok (file_reply core old.file) ≡ false
was_not_ok core after old new e (inl (r, came, refused, why)) = ap is_ok came.0 ∙ refused_status r refused
was_not_ok core after old new e (inr (fault, failed, why)) = ap is_ok failed.0

-- ---- files

-- the request was carried out, or it was not
carried_out : (part remote : List ℕ) (core : Core) (p : FilePut) (files : Files) (s : PutStage) → p.stage ≡ s
    → is_ok (file_reply core p.holding.file) ≡ true
    → files_after part remote core p files ≡ after_request (naming_request part remote s) files
carried_out part remote core p files s at ok =
    ap (λ (b : Bool). if b then after_request (naming_request part remote p.stage) files else files) ok
    ∙ ap (λ (x : PutStage). after_request (naming_request part remote x) files) at

refused_all : (part remote : List ℕ) (core : Core) (p : FilePut) (files : Files)
    → is_ok (file_reply core p.holding.file) ≡ false → files_after part remote core p files ≡ files
refused_all part remote core p files refused =
    ap (λ (b : Bool). if b then after_request (naming_request part remote p.stage) files else files) refused

-- a request that changes no name
unchanged : (part remote : List ℕ) (core : Core) (p : FilePut) (files : Files) (s : PutStage) → p.stage ≡ s
    → after_request (naming_request part remote s) files ≡ files → files_after part remote core p files ≡ files
unchanged part remote core p files s at none =
    by_test (is_ok (file_reply core p.holding.file))
    (ap (λ (x : PutStage). after_request (naming_request part remote x) files) at ∙ none)
  where
    by_test : (b : Bool) → after_request (naming_request part remote p.stage) files ≡ files
        → (if b then after_request (naming_request part remote p.stage) files else files) ≡ files
    by_test true same = same
    by_test false same = refl

-- the file under a name after a rename to that name, and after one of it
moved_to : (from to : List ℕ) (files : Files) → after_request (request.Rename from to) files to ≡ files from
moved_to from to files = here (with_file files from None) to (files from)

moved_away : (from to other : List ℕ) (files : Files) → other ≢ to → other ≢ from
    → after_request (request.Rename from to) files other ≡ files other
moved_away from to other files not_to not_from =
    elsewhere (with_file files from None) to (files from) other not_to ∙ elsewhere files from None other not_from

abbrev set_aside : List ℕ → List ℕ → Files → Files
set_aside part remote closed = after_request (request.Rename remote (aside_of part)) closed

-- the part is renamed while the old file is aside
named_then : (part remote : List ℕ) (closed : Files) → IsApart part remote
    → after_request (request.Rename part remote) (set_aside part remote closed) remote ≡ closed part
named_then part remote closed apart =
    moved_to part remote (set_aside part remote closed)
    ∙ moved_away remote (aside_of part) part closed (λ same. other_than_part part (sym same)) apart.from_part

still_aside : (part remote : List ℕ) (closed : Files) → IsApart part remote
    → after_request (request.Rename part remote) (set_aside part remote closed) (aside_of part) ≡ closed remote
still_aside part remote closed apart =
    moved_away part remote (aside_of part) (set_aside part remote closed) apart.from_aside (other_than_part part)
    ∙ moved_to remote (aside_of part) closed

put_back : (part remote : List ℕ) (closed : Files)
    → after_request (request.Rename (aside_of part) remote) (set_aside part remote closed) remote ≡ closed remote
put_back part remote closed =
    moved_to (aside_of part) remote (set_aside part remote closed) ∙ moved_to remote (aside_of part) closed

-- ---- at every moment

pub kept_at : (part remote : List ℕ) (closed files : Files) (s : PutStage) → IsApart part remote
    → AreAtStage part remote closed files s
    → IsKept part remote closed files
    × IsKept part remote closed (after_request (naming_request part remote s) files)
kept_at part remote closed files stage.Closing apart is =
    (inl (ap (λ (f : Files). f remote) is), inl (ap (λ (f : Files). f remote) is))
kept_at part remote closed files stage.Replacing apart is = (
  inl (ap (λ (f : Files). f remote) is),
  inr (inr (moved_to part remote files ∙ ap (λ (f : Files). f part) is)),
)
kept_at part remote closed files stage.Renaming apart is = (
  inl (ap (λ (f : Files). f remote) is),
  inr (inr (moved_to part remote files ∙ ap (λ (f : Files). f part) is)),
)
kept_at part remote closed files stage.Checking apart is =
    (inl (ap (λ (f : Files). f remote) is), inl (ap (λ (f : Files). f remote) is))
kept_at part remote closed files stage.SettingAside apart is = (
  inl (ap (λ (f : Files). f remote) is),
  inr (inl (moved_to remote (aside_of part) files ∙ ap (λ (f : Files). f remote) is)),
)
kept_at part remote closed files stage.RenamingAgain apart is = (
  inr (inl (ap (λ (f : Files). f (aside_of part)) is ∙ moved_to remote (aside_of part) closed)),
  inr (inl (ap (λ (f : Files). after_request (request.Rename part remote) f (aside_of part)) is
      ∙ still_aside part remote closed apart)),
)
kept_at part remote closed files stage.RemovingOld apart is = (
  inr (inr is),
  inr (inr (elsewhere files (aside_of part) None remote (λ same. apart.from_aside (sym same)) ∙ is)),
)
kept_at part remote closed files stage.RestoringOld apart is = (
  inr (inl (ap (λ (f : Files). f (aside_of part)) is ∙ moved_to remote (aside_of part) closed)),
  inl (ap (λ (f : Files). after_request (request.Rename (aside_of part) remote) f remote) is
      ∙ put_back part remote closed),
)
kept_at part remote closed files stage.Ended apart is = (is, is)
kept_at part remote closed files stage.Starting apart never = absurd never
kept_at part remote closed files stage.Opening apart never = absurd never
kept_at part remote closed files stage.Writing apart never = absurd never

-- ---- each step

-- a step that waits
waited : (part remote : List ℕ) (core after : Core) (old new : FilePut) (closed files : Files) (s : PutStage)
    → old.stage ≡ s → PutWaits core old after new → AreAtStage part remote closed files s
    → AreAtStage part remote closed (files_after part remote core old files) new.stage
waited part remote core after old new closed files s at (missing, (core_is, is)) so =
    subst (λ (f : Files). AreAtStage part remote closed f new.stage)
    (sym (refused_all part remote core old files (ap is_ok missing.0)))
    (subst (λ (x : PutStage). AreAtStage part remote closed files x)
    (sym (ap (λ (p : FilePut). p.stage) is ∙ at)) so)

-- a step after which the files are these, at this stage
stepped : (part remote : List ℕ) (core : Core) (old new : FilePut) (closed files later : Files) (to : PutStage)
    → new.stage ≡ to → files_after part remote core old files ≡ later → AreAtStage part remote closed later to
    → AreAtStage part remote closed (files_after part remote core old files) new.stage
stepped part remote core old new closed files later to over is so =
    subst (λ (f : Files). AreAtStage part remote closed f new.stage) (sym is)
    (subst (λ (s : PutStage). AreAtStage part remote closed later s) (sym over) so)

first_stage : (part remote : List ℕ) (closed files : Files) (replaces : Bool) → files ≡ closed
    → AreAtStage part remote closed files (rename_stage replaces)
first_stage part remote closed files true is = is
first_stage part remote closed files false is = is

-- the old file has its name, and the copy has ended
unnamed : (part remote : List ℕ) (core : Core) (old new : FilePut) (closed files : Files)
    → new.stage ≡ stage.Ended → files_after part remote core old files ≡ files → files ≡ closed
    → AreAtStage part remote closed (files_after part remote core old files) new.stage
unnamed part remote core old new closed files over same is =
    stepped part remote core old new closed files files stage.Ended over same (inl (ap (λ (f : Files). f remote) is))

named : (part remote : List ℕ) (core : Core) (old new : FilePut) (closed files later : Files)
    → new.stage ≡ stage.Ended → files_after part remote core old files ≡ later → later remote ≡ closed part
    → AreAtStage part remote closed (files_after part remote core old files) new.stage
named part remote core old new closed files later over is so =
    stepped part remote core old new closed files later stage.Ended over is (inr (inr so))

pub kept_on : {H : Type 0} (done : LocalAct → H → H) (name part remote : List ℕ) (core after : Core) (old new : FilePut)
    (before now : H) (closed files : Files) (s : PutStage) (result : Progress) → IsApart part remote → old.stage ≡ s
    → PutStepDid done name part remote core old after new before now result s
    → AreAtStage part remote closed files s
    → AreAtStage part remote closed (files_after part remote core old files) new.stage
kept_on done name part remote core after old new before now closed files stage.Starting result apart at did never =
    absurd never
kept_on done name part remote core after old new before now closed files stage.Opening result apart at did never =
    absurd never
kept_on done name part remote core after old new before now closed files stage.Writing result apart at did never =
    absurd never
kept_on done name part remote core after old new before now closed files stage.Ended result apart at never so =
    absurd never
kept_on done name part remote core after old new before now closed files stage.Closing progress.Waits apart at
    (waits, same) so =
    waited part remote core after old new closed files stage.Closing at waits so
kept_on done name part remote core after old new before now closed files stage.Closing progress.Moved apart at
    ((none, asks), same) so =
    stepped part remote core old new closed files files (rename_stage (offers_rename core))
    (ap (λ (p : FilePut). p.stage) asks.asks.1) (unchanged part remote core old files stage.Closing at refl)
    (first_stage part remote closed files (offers_rename core) so)
kept_on done name part remote core after old new before now closed files stage.Closing (progress.Ended (Err e)) apart at
    (inl (some, over), same) so =
    unnamed part remote core old new closed files over (unchanged part remote core old files stage.Closing at refl) so
kept_on done name part remote core after old new before now closed files stage.Closing (progress.Ended (Err e)) apart at
    (inr (inl (none, not_ok, over)), same) so =
    unnamed part remote core old new closed files over (unchanged part remote core old files stage.Closing at refl) so
kept_on done name part remote core after old new before now closed files stage.Closing (progress.Ended (Err e)) apart at
    (inr (inr (none, asks)), same) so =
    unnamed part remote core old new closed files (ap (λ (p : FilePut). p.stage) asks.asks.1)
    (unchanged part remote core old files stage.Closing at refl) so
kept_on done name part remote core after old new before now closed files stage.Closing (progress.Ended (Ok len)) apart
    at (never, same) so =
    absurd never
kept_on done name part remote core after old new before now closed files stage.Replacing progress.Waits apart at
    (waits, same) so =
    waited part remote core after old new closed files stage.Replacing at waits so
kept_on done name part remote core after old new before now closed files stage.Replacing (progress.Ended (Ok len)) apart
    at ((ok, len_is, over), same) so =
    named part remote core old new closed files _ over
    (carried_out part remote core old files stage.Replacing at (was_ok core after old.holding new.holding ok))
    (moved_to part remote files ∙ ap (λ (f : Files). f part) so)
kept_on done name part remote core after old new before now closed files stage.Replacing progress.Moved apart at
    (never, same) so =
    absurd never
kept_on done name part remote core after old new before now closed files stage.Replacing (progress.Ended (Err e)) apart
    at ((not_ok, over), same) so =
    unnamed part remote core old new closed files over
    (refused_all part remote core old files (was_not_ok core after old.holding new.holding e not_ok)) so
kept_on done name part remote core after old new before now closed files stage.Renaming progress.Waits apart at
    (waits, same) so =
    waited part remote core after old new closed files stage.Renaming at waits so
kept_on done name part remote core after old new before now closed files stage.Renaming (progress.Ended (Ok len)) apart
    at ((ok, len_is, over), same) so =
    named part remote core old new closed files _ over
    (carried_out part remote core old files stage.Renaming at (was_ok core after old.holding new.holding ok))
    (moved_to part remote files ∙ ap (λ (f : Files). f part) so)
kept_on done name part remote core after old new before now closed files stage.Renaming progress.Moved apart at
    (asks, same) so =
    stepped part remote core old new closed files files stage.Checking (ap (λ (p : FilePut). p.stage) asks.asks.asks.1)
    (refused_all part remote core old files (was_not_ok core asks.asks.mid old.holding asks.asks.left asks.why
    asks.asks.not_ok)) so
kept_on done name part remote core after old new before now closed files stage.Renaming (progress.Ended (Err e)) apart
    at (inl (not_ok, cause, over), same) so =
    unnamed part remote core old new closed files over
    (refused_all part remote core old files (was_not_ok core after old.holding new.holding e not_ok)) so
kept_on done name part remote core after old new before now closed files stage.Renaming (progress.Ended (Err e)) apart
    at (inr asks, same) so =
    unnamed part remote core old new closed files (ap (λ (p : FilePut). p.stage) asks.asks.asks.1)
    (refused_all part remote core old files (was_not_ok core asks.asks.mid old.holding asks.asks.left asks.why
    asks.asks.not_ok)) so
kept_on done name part remote core after old new before now closed files stage.Checking progress.Waits apart at
    (waits, same) so =
    waited part remote core after old new closed files stage.Checking at waits so
kept_on done name part remote core after old new before now closed files stage.Checking progress.Moved apart at
    (sets, same) so =
    stepped part remote core old new closed files files stage.SettingAside (ap (λ (p : FilePut). p.stage) sets.asks.1)
    (unchanged part remote core old files stage.Checking at refl) so
kept_on done name part remote core after old new before now closed files stage.Checking (progress.Ended (Err e)) apart
    at (inl (none, some, over), same) so =
    unnamed part remote core old new closed files over (unchanged part remote core old files stage.Checking at refl) so
kept_on done name part remote core after old new before now closed files stage.Checking (progress.Ended (Err e)) apart
    at (inr sets, same) so =
    unnamed part remote core old new closed files (ap (λ (p : FilePut). p.stage) sets.asks.1)
    (unchanged part remote core old files stage.Checking at refl) so
kept_on done name part remote core after old new before now closed files stage.Checking (progress.Ended (Ok len)) apart
    at (never, same) so =
    absurd never
kept_on done name part remote core after old new before now closed files stage.SettingAside progress.Waits apart at
    (waits, same) so =
    waited part remote core after old new closed files stage.SettingAside at waits so
kept_on done name part remote core after old new before now closed files stage.SettingAside progress.Moved apart at
    (asks, same) so =
    stepped part remote core old new closed files _ stage.RenamingAgain (ap (λ (p : FilePut). p.stage) asks.asks.1)
    (carried_out part remote core old files stage.SettingAside at (was_ok core asks.mid old.holding asks.left asks.ok))
    (ap (λ (f : Files). set_aside part remote f) so)
kept_on done name part remote core after old new before now closed files stage.SettingAside (progress.Ended (Err e))
    apart at (inl ((why, not_ok), some, over), same) so =
    unnamed part remote core old new closed files over
    (refused_all part remote core old files (was_not_ok core after old.holding new.holding why not_ok)) so
kept_on done name part remote core after old new before now closed files stage.SettingAside (progress.Ended (Err e))
    apart at (inr asks, same) so =
    stepped part remote core old new closed files _ stage.Ended (ap (λ (p : FilePut). p.stage) asks.asks.1)
    (carried_out part remote core old files stage.SettingAside at (was_ok core asks.mid old.holding asks.left asks.ok))
    (inr (inl (ap (λ (f : Files). f (aside_of part)) (ap (λ (f : Files). set_aside part remote f) so)
    ∙ moved_to remote (aside_of part) closed)))
kept_on done name part remote core after old new before now closed files stage.SettingAside (progress.Ended (Ok len))
    apart at (never, same) so =
    absurd never
kept_on done name part remote core after old new before now closed files stage.RenamingAgain progress.Waits apart at
    (waits, same) so =
    waited part remote core after old new closed files stage.RenamingAgain at waits so
kept_on done name part remote core after old new before now closed files stage.RenamingAgain progress.Moved apart at
    (inl asks, same) so =
    stepped part remote core old new closed files _ stage.RemovingOld (ap (λ (p : FilePut). p.stage) asks.asks.1)
    (carried_out part remote core old files stage.RenamingAgain at (was_ok core asks.mid old.holding asks.left asks.ok))
    (ap (λ (f : Files). after_request (request.Rename part remote) f remote) so
    ∙ named_then part remote closed apart)
kept_on done name part remote core after old new before now closed files stage.RenamingAgain progress.Moved apart at
    (inr restores, same) so =
    stepped part remote core old new closed files files stage.RestoringOld
    (ap (λ (p : FilePut). p.stage) restores.asks.asks.1)
    (refused_all part remote core old files (was_not_ok core restores.asks.mid old.holding restores.asks.left
    restores.why restores.asks.not_ok)) so
kept_on done name part remote core after old new before now closed files stage.RenamingAgain (progress.Ended (Ok len))
    apart at (((e, asks), len_is), same) so =
    named part remote core old new closed files _ (ap (λ (p : FilePut). p.stage) asks.asks.1)
    (carried_out part remote core old files stage.RenamingAgain at (was_ok core asks.mid old.holding asks.left asks.ok))
    (ap (λ (f : Files). after_request (request.Rename part remote) f remote) so
    ∙ named_then part remote closed apart)
kept_on done name part remote core after old new before now closed files stage.RenamingAgain (progress.Ended (Err e))
    apart at (restores, same) so =
    stepped part remote core old new closed files files stage.Ended (ap (λ (p : FilePut). p.stage) restores.asks.asks.1)
    (refused_all part remote core old files (was_not_ok core restores.asks.mid old.holding restores.asks.left
    restores.why restores.asks.not_ok))
    (inr (inl (ap (λ (f : Files). f (aside_of part)) so ∙ moved_to remote (aside_of part) closed)))
kept_on done name part remote core after old new before now closed files stage.RemovingOld progress.Waits apart at
    (waits, same) so =
    waited part remote core after old new closed files stage.RemovingOld at waits so
kept_on done name part remote core after old new before now closed files stage.RemovingOld progress.Moved apart at
    (never, same) so =
    absurd never
kept_on done name part remote core after old new before now closed files stage.RemovingOld (progress.Ended (Ok len))
    apart at ((inl ok, len_is, over), same) so =
    named part remote core old new closed files _ over
    (carried_out part remote core old files stage.RemovingOld at (was_ok core after old.holding new.holding ok))
    (elsewhere files (aside_of part) None remote (λ bad. apart.from_aside (sym bad)) ∙ so)
kept_on done name part remote core after old new before now closed files stage.RemovingOld (progress.Ended (Ok len))
    apart at ((inr (why, not_ok), len_is, over), same) so =
    named part remote core old new closed files files over
    (refused_all part remote core old files (was_not_ok core after old.holding new.holding why not_ok)) so
kept_on done name part remote core after old new before now closed files stage.RemovingOld (progress.Ended (Err e))
    apart at (never, same) so =
    absurd never
kept_on done name part remote core after old new before now closed files stage.RestoringOld progress.Waits apart at
    (waits, same) so =
    waited part remote core after old new closed files stage.RestoringOld at waits so
kept_on done name part remote core after old new before now closed files stage.RestoringOld progress.Moved apart at
    (never, same) so =
    absurd never
kept_on done name part remote core after old new before now closed files stage.RestoringOld (progress.Ended (Ok len))
    apart at (never, same) so =
    absurd never
kept_on done name part remote core after old new before now closed files stage.RestoringOld (progress.Ended (Err e))
    apart at ((inl ok, some, over), same) so =
    stepped part remote core old new closed files _ stage.Ended over
    (carried_out part remote core old files stage.RestoringOld at (was_ok core after old.holding new.holding ok))
    (inl (ap (λ (f : Files). after_request (request.Rename (aside_of part) remote) f remote) so
    ∙ put_back part remote closed))
kept_on done name part remote core after old new before now closed files stage.RestoringOld (progress.Ended (Err e))
    apart at ((inr (why, not_ok), some, over), same) so =
    stepped part remote core old new closed files files stage.Ended over
    (refused_all part remote core old files (was_not_ok core after old.holding new.holding why not_ok))
    (inr (inl (ap (λ (f : Files). f (aside_of part)) so ∙ moved_to remote (aside_of part) closed)))
