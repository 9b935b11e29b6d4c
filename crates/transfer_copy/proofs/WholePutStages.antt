-- Whole copies to the server, by the stage that they have come to.
use Rattle.std.proofs.Common.{◌≡◌, ℕ, Bool, List, [], ◌∷◌, ◌++◌, sym, subst, None}
use Rattle.std.specs.Prelude.{Ok, Err}
use Rattle.transfer_copy.specs.Local.{LocalAct}
use Rattle.transfer_copy.specs.declared.progress.Progress.{Progress}
use Rattle.transfer_copy.specs.declared.progress.Progress.TheVariants as progress
use Rattle.transfer_copy.specs.declared.put.FilePut.{FilePut}
use Rattle.transfer_copy.specs.declared.put.PutStage.{PutStage}
use Rattle.transfer_copy.specs.declared.put.PutStage.TheVariants as stage
use Rattle.transfer_copy.specs.Legs.{HasWaited, CopyStep}
use Rattle.transfer_copy.specs.WholePuts.{
  AsksAside,
  AsksLook,
  AsksOpen,
  AsksRemove,
  AsksRename,
  Closes,
  DidPut,
  PutDeed,
  SentWhole,
  asked_again,
}
use Rattle.transfer_copy.proofs.LegLaws.{waits_on}
use Rattle.transfer_copy.proofs.WholePutLaws.{
  IsOpenAskedPut,
  IsSent,
  IsSentToClose,
  IsUnaskedPut,
  IsWrittenSoFar,
  write_deeds,
}

abbrev pub IsSentUpTo : {H : Type 0} → (LocalAct → H → H) → List ℕ → List ℕ → List ℕ → Bool → ℕ
    → List (CopyStep FilePut H)
    → FilePut → H
    → H → PutStage → Type 0
IsSentUpTo done name part remote sync from legs p first now stage.Starting =
    IsUnaskedPut done name part remote sync from legs p first now
IsSentUpTo done name part remote sync from legs p first now stage.Opening =
    IsOpenAskedPut done name part remote sync from legs p first now
IsSentUpTo done name part remote sync from legs p first now stage.Writing =
    IsWrittenSoFar done name part remote sync from legs p first now
IsSentUpTo done name part remote sync from legs p first now stage.Closing = p.failure ≡ None
    → IsSentToClose done name part remote sync from legs p first now
IsSentUpTo done name part remote sync from legs p first now stage.Replacing =
    IsSent done name part remote sync from (AsksRename ∷ []) legs p.offset first now
IsSentUpTo done name part remote sync from legs p first now stage.Renaming =
    IsSent done name part remote sync from (AsksRename ∷ []) legs p.offset first now
IsSentUpTo done name part remote sync from legs p first now stage.Checking =
    IsSent done name part remote sync from (AsksLook ∷ AsksRename ∷ []) legs p.offset first now
IsSentUpTo done name part remote sync from legs p first now stage.SettingAside =
    IsSent done name part remote sync from (AsksAside ∷ AsksLook ∷ AsksRename ∷ []) legs p.offset first now
IsSentUpTo done name part remote sync from legs p first now stage.RenamingAgain =
    IsSent done name part remote sync from asked_again legs p.offset first now
IsSentUpTo done name part remote sync from legs p first now stage.RemovingOld =
    IsSent done name part remote sync from (AsksRemove ∷ asked_again) legs p.offset first now
IsSentUpTo done name part remote sync from legs p first now stage.RestoringOld = Unit {0}
IsSentUpTo done name part remote sync from legs p first now stage.Ended = Unit {0}

abbrev pub IsSentAfter : {H : Type 0} → (LocalAct → H → H) → List ℕ → List ℕ → List ℕ → Bool → ℕ
    → List (CopyStep FilePut H)
    → FilePut
    → H → H → Progress → Type 0
IsSentAfter done name part remote sync from legs p first now (progress.Ended (Ok len)) =
    SentWhole done name part remote sync from len first now legs
IsSentAfter done name part remote sync from legs p first now (progress.Ended (Err e)) = Unit {0}
IsSentAfter done name part remote sync from legs p first now other =
    IsSentUpTo done name part remote sync from legs p first now p.stage

-- ---- a leg that waits

sent_waits : {H : Type 0} (done : LocalAct → H → H) (name part remote : List ℕ) (sync : Bool) (from : ℕ) (behind : List
    PutDeed)
    (legs : List (CopyStep FilePut H))
    (leg : CopyStep FilePut H) (offset : ℕ) (first now : H) → HasWaited leg
    → IsSent done name part remote sync from behind legs offset first now
    → IsSent done name part remote sync from behind (leg ∷ legs) offset first now
sent_waits done name part remote sync from behind legs leg offset first now waited so = record {
  grant = so.grant;
  writing = so.writing;
  writes = so.writes;
  offered = so.offered;
  deeds = waits_on (DidPut done name part remote from so.grant) leg legs (behind ++ Closes so.offered ∷ write_deeds
      so.writing)
      waited so.deeds;
  answered = so.answered;
  in_order = so.in_order;
  synced = so.synced;
  unsynced = so.unsynced;
  acts = so.acts;
}

waits_at : {H : Type 0} (done : LocalAct → H → H) (name part remote : List ℕ) (sync : Bool) (from : ℕ)
    (legs : List (CopyStep FilePut H)) (leg : CopyStep FilePut H)
    (p : FilePut) (first now : H) (s : PutStage) → HasWaited leg
    → IsSentUpTo done name part remote sync from legs p first now s
    → IsSentUpTo done name part remote sync from (leg ∷ legs) p first now s
unfolding sent_waits
waits_at done name part remote sync from legs leg p first now stage.Starting waited so = record {
  deeds = λ grant. waits_on (DidPut done name part remote from grant) leg legs [] waited (so.deeds grant);
  holds = so.holds;
  offset = so.offset;
  next = so.next;
  going = so.going;
  sync_is = so.sync_is;
  acts = so.acts;
}
waits_at done name part remote sync from legs leg p first now stage.Opening waited so = record {
  ticket = so.ticket;
  deeds = λ handle. waits_on (DidPut done name part remote from (record { id = so.ticket; handle = handle })) leg legs
      (AsksOpen ∷ []) waited
      (so.deeds handle);
  holds = so.holds;
  offset = so.offset;
  next = so.next;
  going = so.going;
  sync_is = so.sync_is;
  acts = so.acts;
}
waits_at done name part remote sync from legs leg p first now stage.Writing waited so = record {
  grant = so.grant;
  writing = so.writing;
  asked = so.asked;
  accepted = so.accepted;
  deeds = waits_on (DidPut done name part remote from so.grant) leg legs (write_deeds so.writing) waited so.deeds;
  answered = so.answered;
  file = so.file;
  parts = so.parts;
  in_order = so.in_order;
  ahead = so.ahead;
  synced = so.synced;
  acts = so.acts;
}
waits_at done name part remote sync from legs leg p first now stage.Closing waited so = λ none. (let w = so none in
    record {
      sent = sent_waits done name part remote sync from [] legs leg p.offset first now waited w.sent;
      file = w.file;
    })
waits_at done name part remote sync from legs leg p first now stage.Replacing waited so =
    sent_waits done name part remote sync from (AsksRename ∷ []) legs leg p.offset first now waited so
waits_at done name part remote sync from legs leg p first now stage.Renaming waited so =
    sent_waits done name part remote sync from (AsksRename ∷ []) legs leg p.offset first now waited so
waits_at done name part remote sync from legs leg p first now stage.Checking waited so =
    sent_waits done name part remote sync from (AsksLook ∷ AsksRename ∷ []) legs leg p.offset first now waited so
waits_at done name part remote sync from legs leg p first now stage.SettingAside waited so =
    sent_waits done name part remote sync from (AsksAside ∷ AsksLook ∷ AsksRename ∷ []) legs leg p.offset first now
    waited
    so
waits_at done name part remote sync from legs leg p first now stage.RenamingAgain waited so =
    sent_waits done name part remote sync from asked_again legs leg p.offset first now waited so
waits_at done name part remote sync from legs leg p first now stage.RemovingOld waited so =
    sent_waits done name part remote sync from (AsksRemove ∷ asked_again) legs leg p.offset first now waited so
waits_at done name part remote sync from legs leg p first now stage.RestoringOld waited so = tt
waits_at done name part remote sync from legs leg p first now stage.Ended waited so = tt

pub put_waits : {H : Type 0} (done : LocalAct → H → H) (name part remote : List ℕ) (sync : Bool) (from : ℕ)
    (legs : List (CopyStep FilePut H)) (leg : CopyStep FilePut H)
    (first : H) (s : PutStage) → leg.old.stage ≡ s → IsSentUpTo done name part remote sync from legs leg.old first
    leg.before
    s
    → leg.after ≡ leg.core → leg.new ≡ leg.old → leg.now ≡ leg.before
    → IsSentUpTo done name part remote sync from (leg ∷ legs) leg.new first leg.now leg.new.stage
put_waits {H = H} done name part remote sync from legs leg first s here so core_is is same =
    let waited : HasWaited leg = record { core = core_is; state = is; history = same } in
    subst (λ (p : FilePut). IsSentUpTo done name part remote sync from (leg ∷ legs) p first leg.now p.stage) (sym is)
    (subst (λ (x : PutStage). IsSentUpTo done name part remote sync from (leg ∷ legs) leg.old first leg.now x) (sym
    here)
    (subst (λ (h : H). IsSentUpTo done name part remote sync from (leg ∷ legs) leg.old first h s) (sym same)
    (waits_at done name part remote sync from legs leg leg.old first leg.before s waited so)))
