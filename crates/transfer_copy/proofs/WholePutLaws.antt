-- Whole copies to the server: WRITEs and their statuses.
use Rattle.std.proofs.Common.{
  ◌≡◌,
  inl,
  inr,
  ℕ,
  ◌+◌,
  Bool,
  true,
  false,
  List,
  [],
  ◌∷◌,
  ◌++◌,
  length,
  map,
  refl,
  sym,
  ap,
  ◌∙◌,
  subst,
  Some,
  None,
}
use Rattle.std.proofs.lemmas.List.{append-nil, append_assoc}
use Rattle.sftp_model.specs.declared.answers.Expected.TheVariants as expected
use Rattle.sftp_model.specs.declared.file_attrs.FileAttrs.{FileAttrs}
use Rattle.sftp_model.specs.declared.reply.Reply.{Reply}
use Rattle.sftp_core.specs.Core.{Core}
use Rattle.sftp_core.specs.Grant.{GrantValue}
use Rattle.plan_state.specs.Asked.{SubmitsAsking}
use Rattle.plan_state.specs.declared.submission.Asking.TheVariants.{Whole}
use Rattle.transfer_copy.specs.Local.{Got, HasDone, LocalAct, Opened, reads_of}
use Rattle.transfer_copy.specs.Acts.{end_acts}
use Rattle.transfer_copy.specs.declared.holding.FileAnswer.TheVariants as file_answer
use Rattle.transfer_copy.specs.declared.holding.FileHold.TheVariants as hold
use Rattle.transfer_copy.specs.declared.holding.Part.{Part}
use Rattle.transfer_copy.specs.declared.holding.PartAnswer.TheVariants as part_answer
use Rattle.transfer_copy.specs.declared.put.FilePut.{FilePut}
use Rattle.transfer_copy.specs.declared.put.PutStage.TheVariants as stage
use Rattle.transfer_copy.specs.Holdings.{AsksFile, AsksForAttrs, AsksForSync, AsksForWrite, HoldingValue, SettlesFile, TakesPart, nothing_held}
use Rattle.transfer_copy.specs.Legs.{AnswersFirst, AreDeeds, CopyStep}
use Rattle.transfer_copy.specs.PutRequests.{offers_sync, open_part}
use Rattle.transfer_copy.specs.Puts.{PutFinishes, is_sync_due}
use Rattle.transfer_copy.specs.Refusals.{IsOkStatus}
use Rattle.transfer_copy.specs.WholePuts.{
  AreWrittenFromTo,
  AskNoSync,
  AskedWrite,
  AsksAttrs,
  AsksOpen,
  AsksSync,
  AsksWrite,
  Closes,
  DidPut,
  GotEnd,
  GotOk,
  IsSynced,
  Opens,
  PutDeed,
  WriteDeed,
  Writes,
  Writing,
  after_write,
  carried_by,
  writes_after,
}
use Rattle.transfer_copy.proofs.ActLaws.{acts_join}
use Rattle.transfer_copy.proofs.SyncLaws.{
  HasSyncSoFar,
  sync_answered,
  sync_asked,
  sync_done,
  sync_unwanted,
  unsynced_giving,
  unsynced_reading,
}
use Rattle.transfer_copy.proofs.WholeGetLaws.{closed_file, handle_of}
use Rattle.transfer_copy.proofs.WritePartLaws.{
  AreWriteParts,
  accepts_first,
  attrs_part,
  no_writes,
  parts_end,
  parts_last,
  reads_of_last,
  written_last,
}

-- ---- how far it has come

abbrev pub write_deeds : List WriteDeed → List PutDeed
write_deeds writing = map Writing writing ++ Opens ∷ AsksOpen ∷ []

pub record IsUnaskedPut {H : Type 0} (done : LocalAct → H → H) (name part remote : List ℕ) (sync : Bool) (from : ℕ)
    (legs : List (CopyStep FilePut H)) (p : FilePut) (first now : H) : Type 0 where
  pub deeds : (grant : GrantValue) → AreDeeds (DidPut done name part remote from grant) legs []
  pub holds : p.holding ≡ nothing_held
  pub offset : p.offset ≡ from
  pub next : p.next ≡ from
  pub going : p.at_end ≡ false
  pub sync_is : p.sync ≡ sync
  pub acts : now ≡ first

pub record IsOpenAskedPut {H : Type 0} (done : LocalAct → H → H) (name part remote : List ℕ) (sync : Bool) (from : ℕ)
    (legs : List (CopyStep FilePut H)) (p : FilePut) (first now : H) : Type 0 where
  pub ticket : ℕ
  pub deeds : (handle : List ℕ) → AreDeeds (DidPut done name part remote from (record { id = ticket; handle = handle }))
      legs
      (AsksOpen ∷ [])
  pub holds : p.holding ≡ record { file = hold.Asked ticket expected.Handle; parts = [] }
  pub offset : p.offset ≡ from
  pub next : p.next ≡ from
  pub going : p.at_end ≡ false
  pub sync_is : p.sync ≡ sync
  pub acts : HasDone done (Opened name from ∷ []) first now

pub record IsWrittenSoFar {H : Type 0} (done : LocalAct → H → H) (name part remote : List ℕ) (sync : Bool) (from : ℕ)
    (legs : List (CopyStep FilePut H)) (p : FilePut) (first now : H) : Type 0 where
  pub grant : GrantValue
  pub writing : List WriteDeed
  pub asked : List AskedWrite
  pub accepted : List AskedWrite
  pub deeds : AreDeeds (DidPut done name part remote from grant) legs (write_deeds writing)
  pub answered : writes_after writing ≡ record { under_way = asked; accepted = accepted }
  pub file : p.holding.file ≡ hold.Opened grant
  pub parts : AreWriteParts asked p.holding.parts p.at_end
  pub in_order : AreWrittenFromTo from accepted p.offset
  pub ahead : AreWrittenFromTo p.offset asked p.next
  pub synced : HasSyncSoFar sync p writing
  pub acts : HasDone done (Opened name from ∷ (reads_of (carried_by (accepted ++ asked)) ++ end_acts p.at_end)) first
      now

-- all was sent, and the deeds that stand behind that are these
pub record IsSent {H : Type 0} (done : LocalAct → H → H) (name part remote : List ℕ) (sync : Bool) (from : ℕ) (behind :
    List PutDeed)
    (legs : List (CopyStep FilePut H)) (offset : ℕ) (first now : H) : Type 0 where
  pub grant : GrantValue
  pub writing : List WriteDeed
  pub writes : List AskedWrite
  pub offered : Bool
  pub deeds : AreDeeds (DidPut done name part remote from grant) legs
      (behind ++ Closes offered ∷ write_deeds writing)
  pub answered : writes_after writing ≡ record { under_way = []; accepted = writes }
  pub in_order : AreWrittenFromTo from writes offset
  pub synced : sync ≡ true → offered ≡ true → IsSynced writing
  pub unsynced : sync ≡ false → AskNoSync writing
  pub acts : HasDone done (Opened name from ∷ (reads_of (carried_by writes) ++ Got [] ∷ [])) first now

-- and the CLOSE is awaited
pub record IsSentToClose {H : Type 0} (done : LocalAct → H → H) (name part remote : List ℕ) (sync : Bool) (from : ℕ)
    (legs : List (CopyStep FilePut H)) (p : FilePut) (first now : H) : Type 0 where
  pub sent : IsSent done name part remote sync from [] legs p.offset first now
  pub file : p.holding.file ≡ hold.Asked sent.grant.id expected.Status

-- ---- the OPEN

pub put_start_so : {H : Type 0} (done : LocalAct → H → H) (name part remote : List ℕ) (sync : Bool) (from : ℕ)
    (legs : List (CopyStep FilePut H)) (leg : CopyStep FilePut H)
    (first : H) → IsUnaskedPut done name part remote sync from legs leg.old first leg.before
    → AsksFile leg.core leg.old.holding (open_part leg.old.offset leg.old.mode part) leg.after leg.new.holding
    → leg.new ≡ record leg.old { stage = stage.Opening; holding = leg.new.holding }
    → leg.now ≡ done (Opened name leg.old.offset) leg.before
    → IsOpenAskedPut done name part remote sync from (leg ∷ legs) leg.new first leg.now
put_start_so done name part remote sync from legs leg first so asks is opened =
    let asks_there : AsksFile leg.core leg.old.holding (open_part from leg.old.mode part) leg.after leg.new.holding
    = record {
      ticket = asks.ticket;
      submitted = subst (λ n. SubmitsAsking leg.core (Whole (open_part n leg.old.mode part)) asks.ticket leg.after)
          so.offset asks.submitted;
      now = asks.now;
    } in
    let opened_there = opened ∙ ap (λ n. done (Opened name n) leg.before) so.offset in
    record {
      ticket = asks.ticket;
      deeds = λ handle. inr (
        ((asks_there, refl), opened_there),
        so.deeds (record { id = asks.ticket; handle = handle }),
      );
      holds = asks.now ∙ ap (λ (h : HoldingValue). record h { file = hold.Asked asks.ticket expected.Handle }) so.holds;
      offset = ap (λ (p : FilePut). p.offset) is ∙ so.offset;
      next = ap (λ (p : FilePut). p.next) is ∙ so.next;
      going = ap (λ (p : FilePut). p.at_end) is ∙ so.going;
      sync_is = ap (λ (p : FilePut). p.sync) is ∙ so.sync_is;
      acts = opened_there ∙ ap (done (Opened name from)) so.acts;
    }

pub put_opened_so : {H : Type 0} (done : LocalAct → H → H) (name part remote : List ℕ) (sync : Bool) (from : ℕ)
    (legs : List (CopyStep FilePut H)) (leg : CopyStep FilePut H)
    (first : H) → IsOpenAskedPut done name part remote sync from legs leg.old first leg.before
    → SettlesFile leg.core leg.old.holding leg.after leg.new.holding file_answer.Granted
    → leg.new ≡ record leg.old { stage = stage.Writing; holding = leg.new.holding } → leg.now ≡ leg.before
    → IsWrittenSoFar done name part remote sync from (leg ∷ legs) leg.new first leg.now
put_opened_so done name part remote sync from legs leg first so granted is same =
    let h = handle_of leg.core leg.after so.ticket leg.old.holding leg.new.holding so.holds granted in
    let offset : leg.new.offset ≡ from = ap (λ (p : FilePut). p.offset) is ∙ so.offset in
    let next : leg.new.next ≡ from = ap (λ (p : FilePut). p.next) is ∙ so.next in
    let going : leg.new.at_end ≡ false = ap (λ (p : FilePut). p.at_end) is ∙ so.going in
    record {
      grant = record { id = so.ticket; handle = h.handle };
      writing = [];
      asked = [];
      accepted = [];
      deeds = inr ((ap (λ (x : HoldingValue). x.file) so.holds, h.came, same), so.deeds h.handle);
      answered = refl;
      file = h.file;
      parts = subst (λ (l : List Part). AreWriteParts [] l leg.new.at_end) (sym h.parts) tt;
      in_order = sym offset;
      ahead = offset ∙ sym next;
      synced = inl (ap (λ (p : FilePut). p.sync) is ∙ so.sync_is, tt);
      acts = subst (λ (b : Bool). HasDone done (Opened name from ∷ end_acts b) first leg.now) (sym going)
          (same ∙ so.acts);
    }

-- ---- WRITEs

pub put_write_so : {H : Type 0} (done : LocalAct → H → H) (name part remote : List ℕ) (sync : Bool) (from : ℕ)
    (legs : List (CopyStep FilePut H)) (leg : CopyStep FilePut H)
    (first : H) (bytes : List ℕ) → IsWrittenSoFar done name part remote sync from legs leg.old first leg.before
    → leg.old.at_end ≡ false
    → AsksForWrite leg.core leg.old.holding leg.old.next bytes leg.after leg.new.holding
    → leg.new ≡ record leg.old { holding = leg.new.holding; next = leg.old.next + length bytes }
    → leg.now ≡ done (Got bytes) leg.before → IsWrittenSoFar done name part remote sync from (leg ∷ legs) leg.new first
    leg.now
put_write_so done name part remote sync from legs leg first bytes so going asks is got =
    let write : AskedWrite = record { ticket = asks.ticket; offset = leg.old.next; bytes = bytes } in
    let offset : leg.new.offset ≡ leg.old.offset = ap (λ (p : FilePut). p.offset) is in
    let next : leg.new.next ≡ leg.old.next + length bytes = ap (λ (p : FilePut). p.next) is in
    let still : leg.new.at_end ≡ false = ap (λ (p : FilePut). p.at_end) is ∙ going in
    let were = reads_of (carried_by (so.accepted ++ so.asked)) in
    let acts : HasDone done (Opened name from ∷ were) first leg.before =
    subst (λ acts. HasDone done (Opened name from ∷ acts) first leg.before) (append-nil were)
    (subst (λ (b : Bool). HasDone done (Opened name from ∷ (were ++ end_acts b)) first leg.before) going so.acts) in
    let joined = acts_join done (Opened name from ∷ were) (Got bytes ∷ []) first leg.before leg.now acts got in
    let now_is : reads_of (carried_by (so.accepted ++ (so.asked ++ write ∷ []))) ≡ were ++ Got bytes ∷ [] =
    ap (λ (l : List AskedWrite). reads_of (carried_by l)) (sym (append_assoc so.accepted so.asked (write ∷ [])))
    ∙ reads_of_last (so.accepted ++ so.asked) write in
    record {
      grant = so.grant;
      writing = AsksWrite write ∷ so.writing;
      asked = so.asked ++ write ∷ [];
      accepted = so.accepted;
      deeds = inr ((so.file, ((asks, refl), got)), so.deeds);
      answered = ap (λ (w : Writes). after_write (AsksWrite write) w) so.answered;
      file = ap (λ (h : HoldingValue). h.file) asks.now ∙ so.file;
      parts = subst (λ (b : Bool). AreWriteParts (so.asked ++ write ∷ []) leg.new.holding.parts b) (sym still)
          (subst (λ (l : List Part). AreWriteParts (so.asked ++ write ∷ []) l false)
          (sym (ap (λ (h : HoldingValue). h.parts) asks.now))
          (parts_last so.asked leg.old.holding.parts write _
          (subst (λ (b : Bool). AreWriteParts so.asked leg.old.holding.parts b) going so.parts) refl refl));
      in_order = subst (λ n. AreWrittenFromTo from so.accepted n) (sym offset) so.in_order;
      ahead = subst (λ n. AreWrittenFromTo n (so.asked ++ write ∷ []) leg.new.next) (sym offset)
          (subst (λ n. AreWrittenFromTo leg.old.offset (so.asked ++ write ∷ []) n) (sym next)
          (written_last leg.old.offset leg.old.next so.asked write so.ahead refl));
      synced = inl (unsynced_reading sync leg.old leg.new so.writing so.synced going (ap (λ (p : FilePut). p.sync) is));
      acts = subst (λ (b : Bool). HasDone done (Opened name from ∷
          (reads_of (carried_by (so.accepted ++ (so.asked ++ write ∷ []))) ++ end_acts b))
          first leg.now) (sym still)
          (subst (λ acts. HasDone done (Opened name from ∷ acts) first leg.now)
          (sym (append-nil (reads_of (carried_by (so.accepted ++ (so.asked ++ write ∷ [])))) ∙ now_is)) joined);
    }

pub put_end_so : {H : Type 0} (done : LocalAct → H → H) (name part remote : List ℕ) (sync : Bool) (from : ℕ)
    (legs : List (CopyStep FilePut H)) (leg : CopyStep FilePut H)
    (first : H) → IsWrittenSoFar done name part remote sync from legs leg.old first leg.before → leg.old.at_end ≡ false
    → leg.new ≡ record leg.old { at_end = true } → leg.now ≡ done (Got []) leg.before
    → IsWrittenSoFar done name part remote sync from (leg ∷ legs) leg.new first leg.now
put_end_so done name part remote sync from legs leg first so going is got =
    let offset : leg.new.offset ≡ leg.old.offset = ap (λ (p : FilePut). p.offset) is in
    let next : leg.new.next ≡ leg.old.next = ap (λ (p : FilePut). p.next) is in
    let over : leg.new.at_end ≡ true = ap (λ (p : FilePut). p.at_end) is in
    let were = reads_of (carried_by (so.accepted ++ so.asked)) in
    let acts : HasDone done (Opened name from ∷ were) first leg.before =
    subst (λ acts. HasDone done (Opened name from ∷ acts) first leg.before) (append-nil were)
    (subst (λ (b : Bool). HasDone done (Opened name from ∷ (were ++ end_acts b)) first leg.before) going so.acts) in
    record {
      grant = so.grant;
      writing = GotEnd ∷ so.writing;
      asked = so.asked;
      accepted = so.accepted;
      deeds = inr ((so.file, got), so.deeds);
      answered = so.answered;
      file = ap (λ (p : FilePut). p.holding.file) is ∙ so.file;
      parts = subst (λ (b : Bool). AreWriteParts so.asked leg.new.holding.parts b) (sym over)
          (subst (λ (l : List Part). AreWriteParts so.asked l true) (sym (ap (λ (p : FilePut). p.holding.parts) is))
          (parts_end so.asked leg.old.holding.parts (subst (λ (b : Bool). AreWriteParts so.asked leg.old.holding.parts
          b) going so.parts)));
      in_order = subst (λ n. AreWrittenFromTo from so.accepted n) (sym offset) so.in_order;
      ahead = subst (λ n. AreWrittenFromTo n so.asked leg.new.next) (sym offset)
          (subst (λ n. AreWrittenFromTo leg.old.offset so.asked n) (sym next) so.ahead);
      synced = inl (unsynced_reading sync leg.old leg.new so.writing so.synced going (ap (λ (p : FilePut). p.sync) is));
      acts = subst (λ (b : Bool). HasDone done (Opened name from ∷ (were ++ end_acts b)) first leg.now) (sym over)
          (acts_join done (Opened name from ∷ were) (Got [] ∷ []) first leg.before leg.now acts got);
    }

pub put_attrs_so : {H : Type 0} (done : LocalAct → H → H) (name part remote : List ℕ) (sync : Bool) (from : ℕ)
    (legs : List (CopyStep FilePut H)) (leg : CopyStep FilePut H)
    (first : H) (attrs : FileAttrs) → IsWrittenSoFar done name part remote sync from legs leg.old first leg.before
    → leg.old.at_end ≡ true
    → leg.old.holding.parts ≡ [] → leg.old.attrs ≡ Some attrs → AsksForAttrs leg.core leg.old.holding attrs leg.after
    leg.new.holding
    → leg.new ≡ record leg.old { holding = leg.new.holding; attrs = None } → leg.now ≡ leg.before
    → IsWrittenSoFar done name part remote sync from (leg ∷ legs) leg.new first leg.now
put_attrs_so done name part remote sync from legs leg first attrs so over none due asks is same =
    let offset : leg.new.offset ≡ leg.old.offset = ap (λ (p : FilePut). p.offset) is in
    let next : leg.new.next ≡ leg.old.next = ap (λ (p : FilePut). p.next) is in
    let still : leg.new.at_end ≡ leg.old.at_end = ap (λ (p : FilePut). p.at_end) is in
    let were = reads_of (carried_by (so.accepted ++ so.asked)) in
    record {
      grant = so.grant;
      writing = AsksAttrs attrs ∷ so.writing;
      asked = so.asked;
      accepted = so.accepted;
      deeds = inr ((so.file, (asks, same)), so.deeds);
      answered = so.answered;
      file = ap (λ (h : HoldingValue). h.file) asks.now ∙ so.file;
      parts = subst (λ (b : Bool). AreWriteParts so.asked leg.new.holding.parts b) (sym still)
          (subst (λ (l : List Part). AreWriteParts so.asked l leg.old.at_end)
          (sym (ap (λ (h : HoldingValue). h.parts) asks.now))
          (attrs_part so.asked leg.old.holding.parts leg.old.at_end _ so.parts none over refl));
      in_order = subst (λ n. AreWrittenFromTo from so.accepted n) (sym offset) so.in_order;
      ahead = subst (λ n. AreWrittenFromTo n so.asked leg.new.next) (sym offset)
          (subst (λ n. AreWrittenFromTo leg.old.offset so.asked n) (sym next) so.ahead);
      synced = inl (unsynced_giving sync leg.old leg.new so.writing attrs so.synced due
          (ap (λ (p : FilePut). p.sync) is));
      acts = subst (λ (b : Bool). HasDone done (Opened name from ∷ (were ++ end_acts b)) first leg.now) (sym still)
          (same ∙ so.acts);
    }

pub put_sync_so : {H : Type 0} (done : LocalAct → H → H) (name part remote : List ℕ) (sync : Bool) (from : ℕ)
    (legs : List (CopyStep FilePut H)) (leg : CopyStep FilePut H)
    (first : H) → IsWrittenSoFar done name part remote sync from legs leg.old first leg.before
    → leg.old.at_end ≡ true
    → leg.old.holding.parts ≡ [] → leg.old.attrs ≡ None → leg.old.sync ≡ true
    → AsksForSync leg.core leg.old.holding leg.after leg.new.holding
    → leg.new ≡ record leg.old { holding = leg.new.holding; sync = false } → leg.now ≡ leg.before
    → IsWrittenSoFar done name part remote sync from (leg ∷ legs) leg.new first leg.now
put_sync_so done name part remote sync from legs leg first so over none given due asks is same =
    let offset : leg.new.offset ≡ leg.old.offset = ap (λ (p : FilePut). p.offset) is in
    let next : leg.new.next ≡ leg.old.next = ap (λ (p : FilePut). p.next) is in
    let still : leg.new.at_end ≡ leg.old.at_end = ap (λ (p : FilePut). p.at_end) is in
    let were = reads_of (carried_by (so.accepted ++ so.asked)) in
    let last : Part = record { ticket = asks.ticket; kind = expected.Status; len = 0 } in
    record {
      grant = so.grant;
      writing = AsksSync asks.ticket ∷ so.writing;
      asked = so.asked;
      accepted = so.accepted;
      deeds = inr ((so.file, ((asks, refl), same)), so.deeds);
      answered = so.answered;
      file = ap (λ (h : HoldingValue). h.file) asks.now ∙ so.file;
      parts = subst (λ (b : Bool). AreWriteParts so.asked leg.new.holding.parts b) (sym still)
          (subst (λ (l : List Part). AreWriteParts so.asked l leg.old.at_end)
          (sym (ap (λ (h : HoldingValue). h.parts) asks.now))
          (attrs_part so.asked leg.old.holding.parts leg.old.at_end _ so.parts none over refl));
      in_order = subst (λ n. AreWrittenFromTo from so.accepted n) (sym offset) so.in_order;
      ahead = subst (λ n. AreWrittenFromTo n so.asked leg.new.next) (sym offset)
          (subst (λ n. AreWrittenFromTo leg.old.offset so.asked n) (sym next) so.ahead);
      synced = inr (sync_asked sync leg.old leg.new so.writing last so.synced due over given
          (ap (λ (w : Writes). w.under_way) so.answered ∙ no_writes so.asked leg.old.holding.parts leg.old.at_end
          so.parts
          none)
          (ap (λ (h : HoldingValue). h.parts) asks.now ∙ ap (λ (l : List Part). l ++ last ∷ []) none) is);
      acts = subst (λ (b : Bool). HasDone done (Opened name from ∷ (were ++ end_acts b)) first leg.now) (sym still)
          (same ∙ so.acts);
    }

pub put_accepted_so : {H : Type 0} (done : LocalAct → H → H) (name part remote : List ℕ) (sync : Bool) (from : ℕ)
    (legs : List (CopyStep FilePut H)) (leg : CopyStep FilePut H)
    (first : H) (mid : Core) (left : HoldingValue) (r : Reply) (len : ℕ)
    → IsWrittenSoFar done name part remote sync from legs leg.old first leg.before
    → TakesPart leg.core leg.old.holding mid left (part_answer.Came r len) → IsOkStatus r → leg.after ≡ mid
    → leg.new ≡ record leg.old { holding = left; offset = leg.old.offset + len } → leg.now ≡ leg.before
    → IsWrittenSoFar done name part remote sync from (leg ∷ legs) leg.new first leg.now
put_accepted_so done name part remote sync from legs leg first mid left r len so came ok core_is is same =
    let holds : leg.new.holding ≡ left = ap (λ (p : FilePut). p.holding) is in
    let still : leg.new.at_end ≡ leg.old.at_end = ap (λ (p : FilePut). p.at_end) is in
    let next : leg.new.next ≡ leg.old.next = ap (λ (p : FilePut). p.next) is in
    let answers : AnswersFirst came.part.ticket r leg.core leg.old.holding leg.after leg.new.holding =
    subst (λ (c : Core). AnswersFirst came.part.ticket r leg.core leg.old.holding c leg.new.holding) (sym core_is)
    (subst (λ (h : HoldingValue). AnswersFirst came.part.ticket r leg.core leg.old.holding mid h) (sym holds)
    (record { len = len; came = came; under = refl })) in
    let parts = subst (λ (l : List Part). AreWriteParts so.asked l leg.old.at_end) came.first so.parts in
    let a = accepts_first from leg.old.next leg.old.offset leg.new.offset len came.part came.later leg.old.at_end
    so.asked so.accepted parts
    came.known.len_is (ap (λ (p : FilePut). p.offset) is) so.in_order so.ahead in
    record {
      grant = so.grant;
      writing = GotOk came.part.ticket ∷ so.writing;
      asked = a.under_way;
      accepted = a.all;
      deeds = inr ((so.file, ((r, ok, answers), same)), so.deeds);
      answered = ap (λ (w : Writes). after_write (GotOk came.part.ticket) w) so.answered ∙ a.answered;
      file = ap (λ (h : HoldingValue). h.file) (holds ∙ came.now) ∙ so.file;
      parts = subst (λ (b : Bool). AreWriteParts a.under_way leg.new.holding.parts b) (sym still)
          (subst (λ (l : List Part). AreWriteParts a.under_way l leg.old.at_end)
          (sym (ap (λ (h : HoldingValue). h.parts) (holds ∙ came.now))) a.parts);
      in_order = a.in_order;
      ahead = subst (λ n. AreWrittenFromTo leg.new.offset a.under_way n) (sym next) a.ahead;
      synced = sync_answered sync leg.old leg.new so.writing came.part came.later so.synced came.first
          (ap (λ (h : HoldingValue). h.parts) (holds ∙ came.now)) still (ap (λ (p : FilePut). p.attrs) is)
          (ap (λ (p : FilePut). p.sync) is);
      acts = subst (λ (l : List AskedWrite). HasDone done (Opened name from ∷
          (reads_of (carried_by l) ++ end_acts leg.new.at_end)) first leg.now)
          (sym a.same)
          (subst (λ (b : Bool). HasDone done (Opened name from ∷ (reads_of (carried_by (so.accepted ++ so.asked))
          ++ end_acts b)) first leg.now)
          (sym still) (same ∙ so.acts));
    }

pub put_finished_so : {H : Type 0} (done : LocalAct → H → H) (name part remote : List ℕ) (sync : Bool) (from : ℕ)
    (legs : List (CopyStep FilePut H)) (leg : CopyStep FilePut H)
    (first : H) → IsWrittenSoFar done name part remote sync from legs leg.old first leg.before → leg.old.at_end ≡ true
    → leg.old.holding.parts ≡ [] → is_sync_due leg.core leg.old ≡ false
    → PutFinishes leg.core leg.old.holding leg.old leg.after leg.new → leg.now ≡ leg.before
    → IsSentToClose done name part remote sync from (leg ∷ legs) leg.new first leg.now
put_finished_so done name part remote sync from legs leg first so over none undue ends same =
    let no_more = no_writes so.asked leg.old.holding.parts leg.old.at_end so.parts none in
    let all_is : so.accepted ++ so.asked ≡ so.accepted =
    ap (λ (l : List AskedWrite). so.accepted ++ l) no_more ∙ append-nil so.accepted in
    record {
      sent = record {
        grant = so.grant;
        writing = so.writing;
        writes = so.accepted;
        offered = offers_sync leg.core;
        deeds = inr ((so.file, ends.goes, refl, same), so.deeds);
        answered = so.answered ∙ ap (λ (l : List AskedWrite). record { under_way = l; accepted = so.accepted }) no_more;
        in_order = subst (λ n. AreWrittenFromTo from so.accepted n) (sym ends.offset) so.in_order;
        synced = sync_done sync leg.old so.writing (offers_sync leg.core) so.synced none undue;
        unsynced = sync_unwanted sync leg.old so.writing so.synced;
        acts = subst (λ (l : List AskedWrite). HasDone done (Opened name from ∷
            (reads_of (carried_by l) ++ Got [] ∷ [])) first leg.now) all_is
            (subst (λ (b : Bool). HasDone done (Opened name from ∷
            (reads_of (carried_by (so.accepted ++ so.asked)) ++ end_acts b)) first leg.now)
            over (same ∙ so.acts));
      };
      file = closed_file leg.core leg.after leg.old.holding leg.new.holding so.grant so.file ends.goes;
    }
