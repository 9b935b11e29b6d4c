-- Whole copies to the server, over all their legs.
use Rattle.std.proofs.Common.{◌≡◌, inl, inr, ℕ, Bool, true, false, List, [], ◌∷◌, ◌++◌, refl, sym, ap, ◌∙◌, subst}
use Rattle.std.specs.Prelude.{Ok, Err, Option, Some}
use Rattle.sftp_model.specs.declared.file_attrs.FileAttrs.{FileAttrs}
use Rattle.sftp_core.specs.Core.{Core}
use Rattle.transfer_copy.specs.declared.copy_error.CopyError.{CopyError}
use Rattle.transfer_copy.specs.Local.{LocalAct}
use Rattle.transfer_copy.specs.declared.progress.Progress.{Progress}
use Rattle.transfer_copy.specs.declared.progress.Progress.TheVariants as progress
use Rattle.transfer_copy.specs.declared.put.FilePut.{FilePut}
use Rattle.transfer_copy.specs.declared.put.PutStage.{PutStage}
use Rattle.transfer_copy.specs.declared.put.PutStage.TheVariants as stage
use Rattle.transfer_copy.specs.Holdings.{HoldingValue, WasOk}
use Rattle.transfer_copy.specs.Legs.{AreDeeds, AreLegs, FollowsSteps, HasGoneOn, IsWholeCopy, CopyStep, history_behind, state_behind}
use Rattle.transfer_copy.specs.PutEnds.{AsksName, AsksThen, PutNamed, PutStepDid, rename_stage}
use Rattle.transfer_copy.specs.Puts.{AcceptsWrite, PutAsksAttrs, PutAsksSync, PutGivesUp, PutReadsNext, PutSyncs, PutsReply, put_begun}
use Rattle.transfer_copy.specs.PutRequests.{offers_rename, offers_sync}
use Rattle.transfer_copy.specs.WholePuts.{
  AreWrittenFromTo,
  AsksAgain,
  AsksAside,
  AsksLook,
  AsksRemove,
  AsksRename,
  AtOnce,
  Closes,
  DidPut,
  EndsRemove,
  IsPutLeg,
  Names,
  Naming,
  AgainRemoved,
  Again,
  PutDeed,
  SentWhole,
  asked_again,
  naming_deeds,
}
use Rattle.transfer_copy.proofs.ActLaws.{failed_is}
use Rattle.transfer_copy.proofs.SyncLaws.{due_wanted}
use Rattle.transfer_copy.proofs.WholePutStages.{IsSentAfter, IsSentUpTo, put_waits}
use Rattle.transfer_copy.proofs.WholePutLaws.{
  IsSent,
  IsSentToClose,
  IsWrittenSoFar,
  put_accepted_so,
  put_attrs_so,
  put_end_so,
  put_finished_so,
  put_opened_so,
  put_start_so,
  put_sync_so,
  put_write_so,
  write_deeds,
}

-- ---- a leg that moves

put_gives_up : {H : Type 0} (done : LocalAct → H → H) (name part remote : List ℕ) (sync : Bool) (from : ℕ)
    (legs : List (CopyStep FilePut H)) (core after : Core)
    (h : HoldingValue) (old new : FilePut) (first now : H) → PutGivesUp core h old after new
    → IsSentUpTo done name part remote sync from legs new first now new.stage
put_gives_up done name part remote sync from legs core after h old new first now gives =
    subst (λ (s : PutStage). IsSentUpTo done name part remote sync from legs new first now s) (sym gives.stage)
    (λ none. absurd (failed_is new.failure gives.failure none))

-- at the stage of WRITEs
writes_there : {H : Type 0} (done : LocalAct → H → H) (name part remote : List ℕ) (sync : Bool) (from : ℕ)
    (legs : List (CopyStep FilePut H)) (p : FilePut)
    (first now : H) → p.stage ≡ stage.Writing → IsWrittenSoFar done name part remote sync from legs p first now
    → IsSentUpTo done name part remote sync from legs p first now p.stage
writes_there done name part remote sync from legs p first now here so =
    subst (λ (s : PutStage). IsSentUpTo done name part remote sync from legs p first now s) (sym here) so

put_reads : {H : Type 0} (done : LocalAct → H → H) (name part remote : List ℕ) (sync : Bool) (from : ℕ)
    (legs : List (CopyStep FilePut H)) (leg : CopyStep FilePut H)
    (first : H) → leg.old.stage ≡ stage.Writing → IsWrittenSoFar done name part remote sync from legs leg.old first
    leg.before
    → leg.old.at_end ≡ false → PutReadsNext done leg.core leg.old leg.after leg.new leg.before leg.now
    → IsSentUpTo done name part remote sync from (leg ∷ legs) leg.new first leg.now leg.new.stage
put_reads done name part remote sync from legs leg first here so going (inl (bytes, some, got, inl (asks, is))) =
    writes_there done name part remote sync from (leg ∷ legs) leg.new first leg.now (ap (λ (x : FilePut). x.stage) is ∙
    here)
    (put_write_so done name part remote sync from legs leg first bytes so going asks is got)
put_reads done name part remote sync from legs leg first here so going (inl (bytes, some, got, inr gives)) =
    put_gives_up done name part remote sync from (leg ∷ legs) leg.core leg.after leg.old.holding leg.old leg.new first
    leg.now gives
put_reads done name part remote sync from legs leg first here so going (inr (inl (got, core_is, is))) =
    writes_there done name part remote sync from (leg ∷ legs) leg.new first leg.now (ap (λ (x : FilePut). x.stage) is ∙
    here)
    (put_end_so done name part remote sync from legs leg first so going is got)
put_reads done name part remote sync from legs leg first here so going (inr (inr (failed, gives))) =
    put_gives_up done name part remote sync from (leg ∷ legs) leg.core leg.after leg.old.holding leg.old leg.new first
    leg.now gives

put_attrs : {H : Type 0} (done : LocalAct → H → H) (name part remote : List ℕ) (sync : Bool) (from : ℕ)
    (legs : List (CopyStep FilePut H)) (leg : CopyStep FilePut H)
    (first : H) (attrs : FileAttrs) → leg.old.stage ≡ stage.Writing
    → IsWrittenSoFar done name part remote sync from legs leg.old first leg.before
    → leg.old.at_end ≡ true → leg.old.holding.parts ≡ [] → leg.old.attrs ≡ Some attrs
    → PutAsksAttrs attrs leg.core leg.old leg.after leg.new
    → leg.now ≡ leg.before
    → IsSentUpTo done name part remote sync from (leg ∷ legs) leg.new first leg.now leg.new.stage
put_attrs done name part remote sync from legs leg first attrs here so over none due (inl (asks, is)) same =
    writes_there done name part remote sync from (leg ∷ legs) leg.new first leg.now (ap (λ (x : FilePut). x.stage) is ∙
    here)
    (put_attrs_so done name part remote sync from legs leg first attrs so over none due asks is same)
put_attrs done name part remote sync from legs leg first attrs here so over none due (inr gives) same =
    put_gives_up done name part remote sync from (leg ∷ legs) leg.core leg.after leg.old.holding leg.old leg.new first
    leg.now gives

put_syncs : {H : Type 0} (done : LocalAct → H → H) (name part remote : List ℕ) (sync : Bool) (from : ℕ)
    (legs : List (CopyStep FilePut H)) (leg : CopyStep FilePut H)
    (first : H) → leg.old.stage ≡ stage.Writing
    → IsWrittenSoFar done name part remote sync from legs leg.old first leg.before
    → (syncs : PutSyncs leg.core leg.old leg.after leg.new) → PutAsksSync leg.core leg.old leg.after leg.new
    → leg.now ≡ leg.before
    → IsSentUpTo done name part remote sync from (leg ∷ legs) leg.new first leg.now leg.new.stage
put_syncs done name part remote sync from legs leg first here so syncs (inl (asks, is)) same =
    writes_there done name part remote sync from (leg ∷ legs) leg.new first leg.now
    (ap (λ (x : FilePut). x.stage) is ∙ here)
    (put_sync_so done name part remote sync from legs leg first so syncs.at_end syncs.none syncs.given
    (due_wanted leg.old.sync (offers_sync leg.core) syncs.due) asks is same)
put_syncs done name part remote sync from legs leg first here so syncs (inr gives) same =
    put_gives_up done name part remote sync from (leg ∷ legs) leg.core leg.after leg.old.holding leg.old leg.new first
    leg.now gives

-- a rename or a removal is asked, one deed more
sent_then : {H : Type 0} (done : LocalAct → H → H) (name part remote : List ℕ) (sync : Bool) (from : ℕ) (deed : PutDeed)
    (behind : List PutDeed)
    (legs : List (CopyStep FilePut H)) (leg : CopyStep FilePut H) (offset new_offset : ℕ) (first : H)
    (so : IsSent done name part remote sync from behind legs offset first leg.before)
    → DidPut done name part remote from so.grant deed leg
    → new_offset ≡ offset → leg.now ≡ leg.before → IsSent done name part remote sync from (deed ∷ behind) (leg ∷ legs)
    new_offset first leg.now
sent_then done name part remote sync from deed behind legs leg offset new_offset first so did offset_is same = record {
  grant = so.grant;
  writing = so.writing;
  writes = so.writes;
  offered = so.offered;
  deeds = inr (did, so.deeds);
  answered = so.answered;
  in_order = subst (λ n. AreWrittenFromTo from so.writes n) (sym offset_is) so.in_order;
  synced = so.synced;
  unsynced = so.unsynced;
  acts = same ∙ so.acts;
}

rename_there : {H : Type 0} (done : LocalAct → H → H) (name part remote : List ℕ) (sync : Bool) (from : ℕ)
    (legs : List (CopyStep FilePut H)) (p : FilePut)
    (first now : H) (replaces : Bool) → p.stage ≡ rename_stage replaces
    → IsSent done name part remote sync from (AsksRename ∷ []) legs p.offset first now
    → IsSentUpTo done name part remote sync from legs p first now p.stage
rename_there done name part remote sync from legs p first now true here so =
    subst (λ (s : PutStage). IsSentUpTo done name part remote sync from legs p first now s) (sym here) so
rename_there done name part remote sync from legs p first now false here so =
    subst (λ (s : PutStage). IsSentUpTo done name part remote sync from legs p first now s) (sym here) so

put_closed : {H : Type 0} (done : LocalAct → H → H) (name part remote : List ℕ) (sync : Bool) (from : ℕ)
    (legs : List (CopyStep FilePut H)) (leg : CopyStep FilePut H)
    (first : H) → IsSentToClose done name part remote sync from legs leg.old first leg.before
    → AsksName part remote leg.core leg.old leg.after leg.new progress.Moved
    → leg.now ≡ leg.before → IsSentUpTo done name part remote sync from (leg ∷ legs) leg.new first leg.now leg.new.stage
put_closed done name part remote sync from legs leg first so asks same =
    rename_there done name part remote sync from (leg ∷ legs) leg.new first leg.now (offers_rename leg.core)
    (ap (λ (p : FilePut). p.stage) asks.asks.1)
    (sent_then done name part remote sync from AsksRename [] legs leg leg.old.offset leg.new.offset first so.sent
    (so.file, asks, same) (ap (λ (p : FilePut). p.offset) asks.asks.1) same)

-- the last deed gave the part its name, or followed that
sent_last : {H : Type 0} (done : LocalAct → H → H) (name part remote : List ℕ) (sync : Bool) (from len : ℕ)
    (naming : Naming) (deed : PutDeed)
    (behind : List PutDeed)
    (legs : List (CopyStep FilePut H)) (leg : CopyStep FilePut H) (first : H) → naming_deeds naming ≡ deed ∷ behind
    → (so : IsSent done name part remote sync from behind legs leg.old.offset first leg.before)
    → DidPut done name part remote from so.grant deed leg → len ≡ leg.old.offset → leg.now ≡ leg.before
    → SentWhole done name part remote sync from len first leg.now (leg ∷ legs)
sent_last done name part remote sync from len naming deed behind legs leg first named so did len_is same = record {
  grant = so.grant;
  writing = so.writing;
  writes = so.writes;
  offered = so.offered;
  naming = naming;
  deeds = subst (λ (l : List PutDeed). AreDeeds (DidPut done name part remote from so.grant) (leg ∷ legs)
      (l ++ Closes so.offered ∷ write_deeds so.writing))
      (sym named) (inr (did, so.deeds));
  answered = so.answered;
  in_order = subst (λ n. AreWrittenFromTo from so.writes n) (sym len_is) so.in_order;
  synced = so.synced;
  unsynced = so.unsynced;
  acts = same ∙ so.acts;
}

-- the second rename had OK, and the removal of the old file could not be asked
unremoved : {H : Type 0} (part remote : List ℕ) (e : CopyError) (leg : CopyStep FilePut H)
    → AsksThen part remote stage.RemovingOld leg.core leg.old leg.after leg.new (progress.Ended (Err e))
    → WasOk leg.core leg.old.holding leg.after leg.new.holding
unremoved part remote e leg asks =
    subst (λ (c : Core). WasOk leg.core leg.old.holding c leg.new.holding) (sym asks.asks.0)
    (subst (λ (h : HoldingValue). WasOk leg.core leg.old.holding asks.mid h)
    (sym (ap (λ (p : FilePut). p.holding) asks.asks.1)) asks.ok)

put_named : {H : Type 0} (done : LocalAct → H → H) (name part remote : List ℕ) (sync : Bool) (from : ℕ)
    (legs : List (CopyStep FilePut H)) (leg : CopyStep FilePut H) (first : H) (result : Progress)
    → leg.old.stage ≡ stage.Replacing
    → IsSent done name part remote sync from (AsksRename ∷ []) legs leg.old.offset first leg.before
    → PutNamed leg.core leg.old leg.after leg.new result → leg.now ≡ leg.before
    → IsSentAfter done name part remote sync from (leg ∷ legs) leg.new first leg.now result
put_named done name part remote sync from legs leg first progress.Waits here so (missing, (core_is, is)) same =
    put_waits done name part remote sync from legs leg first stage.Replacing here so core_is is same
put_named done name part remote sync from legs leg first progress.Moved here so never same = absurd never
put_named done name part remote sync from legs leg first (progress.Ended (Ok len)) here so (ok, len_is, over) same =
    sent_last done name part remote sync from len AtOnce Names (AsksRename ∷ []) legs leg first refl so (ok, same)
    len_is same
put_named done name part remote sync from legs leg first (progress.Ended (Err e)) here so (not_ok, over) same = tt

-- another request of the end was asked, and the stage is the one at which it is awaited
put_then : {H : Type 0} (done : LocalAct → H → H) (name part remote : List ℕ) (sync : Bool) (from : ℕ) (deed : PutDeed)
    (behind : List PutDeed)
    (legs : List (CopyStep FilePut H)) (leg : CopyStep FilePut H) (first : H) (to : PutStage)
    (so : IsSent done name part remote sync from behind legs leg.old.offset first leg.before)
    → DidPut done name part remote from so.grant deed leg → leg.new.stage ≡ to → leg.new.offset ≡ leg.old.offset
    → leg.now ≡ leg.before
    → (IsSent done name part remote sync from (deed ∷ behind) (leg ∷ legs) leg.new.offset first leg.now
    → IsSentUpTo done name part remote sync from (leg ∷ legs) leg.new first leg.now to)
    → IsSentUpTo done name part remote sync from (leg ∷ legs) leg.new first leg.now leg.new.stage
put_then done name part remote sync from deed behind legs leg first to so did at offset same there =
    subst (λ (s : PutStage). IsSentUpTo done name part remote sync from (leg ∷ legs) leg.new first leg.now s) (sym at)
    (there (sent_then done name part remote sync from deed behind legs leg leg.old.offset leg.new.offset first so did
    offset same))

-- ---- each step

put_accepts : {H : Type 0} (done : LocalAct → H → H) (name part remote : List ℕ) (sync : Bool) (from : ℕ)
    (legs : List (CopyStep FilePut H)) (leg : CopyStep FilePut H)
    (first : H) (puts : PutsReply leg.core leg.old leg.after leg.new) → leg.old.stage ≡ stage.Writing
    → IsWrittenSoFar done name part remote sync from legs leg.old first leg.before → leg.now ≡ leg.before
    → AcceptsWrite puts.r puts.len puts.mid (record leg.old { holding = puts.left }) leg.after leg.new
    → IsSentUpTo done name part remote sync from (leg ∷ legs) leg.new first leg.now leg.new.stage
put_accepts done name part remote sync from legs leg first puts here so same (inl (ok, core_is, is)) =
    writes_there done name part remote sync from (leg ∷ legs) leg.new first leg.now (ap (λ (x : FilePut). x.stage) is ∙
    here)
    (put_accepted_so done name part remote sync from legs leg first puts.mid puts.left puts.r puts.len so puts.came ok
    core_is is same)
put_accepts done name part remote sync from legs leg first puts here so same (inr (refused, gives)) =
    put_gives_up done name part remote sync from (leg ∷ legs) puts.mid leg.after puts.left
    (record leg.old { holding = puts.left }) leg.new first leg.now
    gives

put_on : {H : Type 0} (done : LocalAct → H → H) (name part remote : List ℕ) (sync : Bool) (from : ℕ)
    (legs : List (CopyStep FilePut H)) (leg : CopyStep FilePut H)
    (first : H) (s : PutStage) (result : Progress) → leg.old.stage ≡ s
    → IsSentUpTo done name part remote sync from legs leg.old first leg.before s
    → PutStepDid done name part remote leg.core leg.old leg.after leg.new leg.before leg.now result s
    → IsSentAfter done name part remote sync from (leg ∷ legs) leg.new first leg.now result
put_on done name part remote sync from legs leg first stage.Starting progress.Waits here so never = absurd never
put_on done name part remote sync from legs leg first stage.Starting progress.Moved here so (opened, (asks, is)) =
    subst (λ (s : PutStage). IsSentUpTo done name part remote sync from (leg ∷ legs) leg.new first leg.now s)
    (sym (ap (λ (x : FilePut). x.stage) is))
    (put_start_so done name part remote sync from legs leg first so asks is opened)
put_on done name part remote sync from legs leg first stage.Starting (progress.Ended (Err e)) here so did = tt
put_on done name part remote sync from legs leg first stage.Starting (progress.Ended (Ok len)) here so never = absurd
    never
put_on done name part remote sync from legs leg first stage.Opening progress.Waits here so (
  (missing, (core_is, is)),
  same,
) =
    put_waits done name part remote sync from legs leg first stage.Opening here so core_is is same
put_on done name part remote sync from legs leg first stage.Opening progress.Moved here so ((granted, is), same) =
    writes_there done name part remote sync from (leg ∷ legs) leg.new first leg.now (ap (λ (x : FilePut). x.stage) is)
    (put_opened_so done name part remote sync from legs leg first so granted is same)
put_on done name part remote sync from legs leg first stage.Opening (progress.Ended (Err e)) here so did = tt
put_on done name part remote sync from legs leg first stage.Opening (progress.Ended (Ok len)) here so (never, same) =
    absurd never
put_on done name part remote sync from legs leg first stage.Writing progress.Waits here so (
  missing,
  (core_is, is),
  same,
) =
    put_waits done name part remote sync from legs leg first stage.Writing here so core_is is same
put_on done name part remote sync from legs leg first stage.Writing progress.Moved here so (inl (going, few, reads)) =
    put_reads done name part remote sync from legs leg first here so going reads
put_on done name part remote sync from legs leg first stage.Writing progress.Moved here so (inr (same, inl puts)) =
    put_accepts done name part remote sync from legs leg first puts here so same puts.accepts
put_on done name part remote sync from legs leg first stage.Writing progress.Moved here so
    (inr (same, inr (inl (inl (inl all))))) =
    subst (λ (s : PutStage). IsSentUpTo done name part remote sync from (leg ∷ legs) leg.new first leg.now s)
    (sym all.finishes.stage)
    (λ none. put_finished_so done name part remote sync from legs leg first so all.at_end all.none all.synced
    all.finishes same)
put_on done name part remote sync from legs leg first stage.Writing progress.Moved here so
    (inr (same, inr (inl (inl (inr syncs))))) =
    put_syncs done name part remote sync from legs leg first here so syncs syncs.asks same
put_on done name part remote sync from legs leg first stage.Writing progress.Moved here so
    (inr (same, inr (inl (inr gives)))) =
    put_attrs done name part remote sync from legs leg first gives.attrs here so gives.at_end gives.none gives.due
    gives.asks same
put_on done name part remote sync from legs leg first stage.Writing progress.Moved here so (inr (same, inr (inr more)))
    =
    put_gives_up done name part remote sync from (leg ∷ legs) more.mid leg.after more.left leg.old leg.new first leg.now
    more.gives_up
put_on done name part remote sync from legs leg first stage.Writing (progress.Ended result) here so never = absurd never
put_on done name part remote sync from legs leg first stage.Closing progress.Waits here so (
  (missing, (core_is, is)),
  same,
) =
    put_waits done name part remote sync from legs leg first stage.Closing here so core_is is same
put_on done name part remote sync from legs leg first stage.Closing progress.Moved here so ((none, asks), same) =
    put_closed done name part remote sync from legs leg first (so none) asks same
put_on done name part remote sync from legs leg first stage.Closing (progress.Ended (Err e)) here so did = tt
put_on done name part remote sync from legs leg first stage.Closing (progress.Ended (Ok len)) here so (never, same) =
    absurd never
put_on done name part remote sync from legs leg first stage.Replacing result here so (named, same) =
    put_named done name part remote sync from legs leg first result here so named same
put_on done name part remote sync from legs leg first stage.Renaming progress.Waits here so (
  (missing, (core_is, is)),
  same,
)
    =
    put_waits done name part remote sync from legs leg first stage.Renaming here so core_is is same
put_on done name part remote sync from legs leg first stage.Renaming progress.Moved here so (asks, same) =
    put_then done name part remote sync from AsksLook (AsksRename ∷ []) legs leg first stage.Checking so (asks, same)
    (ap (λ (x : FilePut). x.stage) asks.asks.asks.1) (ap (λ (x : FilePut). x.offset) asks.asks.asks.1) same (λ s. s)
put_on done name part remote sync from legs leg first stage.Renaming (progress.Ended (Ok len)) here so
    ((ok, len_is, over), same) =
    sent_last done name part remote sync from len AtOnce Names (AsksRename ∷ []) legs leg first refl so (ok, same)
    len_is same
put_on done name part remote sync from legs leg first stage.Renaming (progress.Ended (Err e)) here so did = tt
put_on done name part remote sync from legs leg first stage.Checking progress.Waits here so (
  (missing, (core_is, is)),
  same,
)
    =
    put_waits done name part remote sync from legs leg first stage.Checking here so core_is is same
put_on done name part remote sync from legs leg first stage.Checking progress.Moved here so (asks, same) =
    put_then done name part remote sync from AsksAside (AsksLook ∷ AsksRename ∷ []) legs leg first stage.SettingAside so
    (asks, same)
    (ap (λ (x : FilePut). x.stage) asks.asks.1) (ap (λ (x : FilePut). x.offset) asks.asks.1) same (λ s. s)
put_on done name part remote sync from legs leg first stage.Checking (progress.Ended (Err e)) here so did = tt
put_on done name part remote sync from legs leg first stage.Checking (progress.Ended (Ok len)) here so (never, same) =
    absurd never
put_on done name part remote sync from legs leg first stage.SettingAside progress.Waits here so (
  (missing, (core_is, is)),
  same,
)
    =
    put_waits done name part remote sync from legs leg first stage.SettingAside here so core_is is same
put_on done name part remote sync from legs leg first stage.SettingAside progress.Moved here so (asks, same) =
    put_then done name part remote sync from AsksAgain (AsksAside ∷ AsksLook ∷ AsksRename ∷ []) legs leg first
    stage.RenamingAgain so (asks, same)
    (ap (λ (x : FilePut). x.stage) asks.asks.1) (ap (λ (x : FilePut). x.offset) asks.asks.1) same (λ s. s)
put_on done name part remote sync from legs leg first stage.SettingAside (progress.Ended (Err e)) here so did = tt
put_on done name part remote sync from legs leg first stage.SettingAside (progress.Ended (Ok len)) here so (never, same)
    = absurd never
put_on done name part remote sync from legs leg first stage.RenamingAgain progress.Waits here so (
  (missing, (core_is, is)),
  same,
)
    =
    put_waits done name part remote sync from legs leg first stage.RenamingAgain here so core_is is same
put_on done name part remote sync from legs leg first stage.RenamingAgain progress.Moved here so (inl asks, same) =
    put_then done name part remote sync from AsksRemove asked_again legs leg first stage.RemovingOld so (asks, same)
    (ap (λ (x : FilePut). x.stage) asks.asks.1) (ap (λ (x : FilePut). x.offset) asks.asks.1) same (λ s. s)
put_on done name part remote sync from legs leg first stage.RenamingAgain progress.Moved here so (inr restores, same) =
    subst (λ (s : PutStage). IsSentUpTo done name part remote sync from (leg ∷ legs) leg.new first leg.now s)
    (sym (ap (λ (x : FilePut). x.stage) restores.asks.asks.1)) tt
put_on done name part remote sync from legs leg first stage.RenamingAgain (progress.Ended (Ok len)) here so
    (((e, asks), len_is), same) =
    sent_last done name part remote sync from len Again Names asked_again legs leg first refl so
    (unremoved part remote e leg asks, same) len_is same
put_on done name part remote sync from legs leg first stage.RenamingAgain (progress.Ended (Err e)) here so did = tt
put_on done name part remote sync from legs leg first stage.RemovingOld progress.Waits here so (
  (missing, (core_is, is)),
  same,
)
    =
    put_waits done name part remote sync from legs leg first stage.RemovingOld here so core_is is same
put_on done name part remote sync from legs leg first stage.RemovingOld progress.Moved here so (never, same) =
    absurd never
put_on done name part remote sync from legs leg first stage.RemovingOld (progress.Ended (Ok len)) here so
    ((settled, len_is, over), same) =
    sent_last done name part remote sync from len AgainRemoved EndsRemove (AsksRemove ∷ asked_again) legs leg first refl
    so (settled, same) len_is same
put_on done name part remote sync from legs leg first stage.RemovingOld (progress.Ended (Err e)) here so (never, same) =
    absurd never
put_on done name part remote sync from legs leg first stage.RestoringOld progress.Waits here so (
  (missing, (core_is, is)),
  same,
)
    =
    put_waits done name part remote sync from legs leg first stage.RestoringOld here so core_is is same
put_on done name part remote sync from legs leg first stage.RestoringOld progress.Moved here so (never, same) =
    absurd never
put_on done name part remote sync from legs leg first stage.RestoringOld (progress.Ended (Ok len)) here so (never, same)
    = absurd never
put_on done name part remote sync from legs leg first stage.RestoringOld (progress.Ended (Err e)) here so did = tt
put_on done name part remote sync from legs leg first stage.Ended result here so never = absurd never

-- ---- all legs

put_follows : {H : Type 0} (done : LocalAct → H → H) (name part remote : List ℕ) (sync : Bool) (window from : ℕ)
    (mode : Option ℕ) (attrs : Option FileAttrs) (first : H)
    (earlier : List (CopyStep FilePut H)) (leg : CopyStep FilePut H)
    → FollowsSteps (IsPutLeg done name part remote) (put_begun window from mode attrs sync) first earlier leg
    → IsSentUpTo done name part remote sync from earlier (state_behind (put_begun window from mode attrs sync) earlier)
    first
    (history_behind first earlier)
    (state_behind (put_begun window from mode attrs sync) earlier).stage
    → IsSentAfter done name part remote sync from (leg ∷ earlier) leg.new first leg.now leg.result
put_follows {H = H} done name part remote sync window from mode attrs first earlier leg follows so =
    let at_state = subst (λ (p : FilePut). IsSentUpTo done name part remote sync from earlier p first
    (history_behind first earlier) p.stage)
    (sym follows.stood) so in
    let at_history = subst (λ (h : H). IsSentUpTo done name part remote sync from earlier leg.old first h leg.old.stage)
    (sym follows.done) at_state in
    put_on done name part remote sync from earlier leg first leg.old.stage leg.result refl at_history follows.did

put_went_on : {H : Type 0} (done : LocalAct → H → H) (name part remote : List ℕ) (sync : Bool) (from : ℕ)
    (legs : List (CopyStep FilePut H)) (p : FilePut)
    (first now : H) (result : Progress) → HasGoneOn result → IsSentAfter done name part remote sync from legs p first
    now
    result
    → IsSentUpTo done name part remote sync from legs p first now p.stage
put_went_on done name part remote sync from legs p first now progress.Waits going so = so
put_went_on done name part remote sync from legs p first now progress.Moved going so = so
put_went_on done name part remote sync from legs p first now (progress.Ended result) never so = absurd never

put_legs : {H : Type 0} (done : LocalAct → H → H) (name part remote : List ℕ) (sync : Bool) (window from : ℕ)
    (mode : Option ℕ) (attrs : Option FileAttrs) (first : H)
    (legs : List (CopyStep FilePut H)) → AreLegs (IsPutLeg done name part remote) (put_begun window from mode attrs
    sync) first
    legs
    → IsSentUpTo done name part remote sync from legs (state_behind (put_begun window from mode attrs sync) legs) first
    (history_behind first legs)
    (state_behind (put_begun window from mode attrs sync) legs).stage
put_legs done name part remote sync window from mode attrs first [] are =
    record { deeds = λ grant. tt; holds = refl; offset = refl; next = refl; going = refl; sync_is = refl; acts = refl }
put_legs done name part remote sync window from mode attrs first (leg ∷ earlier) (follows, going, are) =
    put_went_on done name part remote sync from (leg ∷ earlier) leg.new first leg.now leg.result going
    (put_follows done name part remote sync window from mode attrs first earlier leg follows
    (put_legs done name part remote sync window from mode attrs first earlier are))

pub sent_whole : {H : Type 0} (done : LocalAct → H → H) (name part remote : List ℕ) (sync : Bool) (window from len : ℕ)
    (mode : Option ℕ) (attrs : Option FileAttrs) (first : H)
    (earlier : List (CopyStep FilePut H)) (last : CopyStep FilePut H)
    → IsWholeCopy (IsPutLeg done name part remote) (put_begun window from mode attrs sync) first earlier last (Ok len)
    → SentWhole done name part remote sync from len first last.now (last ∷ earlier)
sent_whole done name part remote sync window from len mode attrs first earlier last w =
    subst (λ (r : Progress). IsSentAfter done name part remote sync from (last ∷ earlier) last.new first last.now r)
    w.ended
    (put_follows done name part remote sync window from mode attrs first earlier last w.follows
    (put_legs done name part remote sync window from mode attrs first earlier w.legs))
