-- What a copy to the server has done to its local file.
use Rattle.std.proofs.Common.{◌≡◌, inl, inr, ℕ, ◌+◌, Bool, true, false, List, [], ◌∷◌, ◌++◌, length, refl, sym, ap, ◌∙◌, subst, arith}
use Rattle.std.specs.Prelude.{Ok, Err}
use Rattle.sftp_model.specs.declared.file_attrs.FileAttrs.{FileAttrs}
use Rattle.sftp_model.specs.declared.reply.Reply.{Reply}
use Rattle.sftp_core.specs.Core.{Core}
use Rattle.transfer_copy.specs.declared.progress.Progress.{Progress}
use Rattle.transfer_copy.specs.declared.progress.Progress.TheVariants as progress
use Rattle.transfer_copy.specs.declared.put.FilePut.{FilePut}
use Rattle.transfer_copy.specs.declared.put.PutStage.{PutStage}
use Rattle.transfer_copy.specs.declared.put.PutStage.TheVariants as stage
use Rattle.transfer_copy.specs.Acts.{HasReadFile, IsReadOnly, SentAfter, SentSoFar, end_acts}
use Rattle.transfer_copy.specs.Holdings.{HoldingValue, bytes_under_way}
use Rattle.transfer_copy.specs.Local.{AreGot, Failed, Got, HasDone, IsGot, LocalAct, Opened, reads_of}
use Rattle.transfer_copy.specs.PutEnds.{PutNamed, PutStepDid, rename_stage}
use Rattle.transfer_copy.specs.Puts.{AcceptsWrite, IsWritingOn, MayPut, PutAsksAttrs, PutAsksSync, PutFinishes, PutGivesUp, PutReadsNext, PutSentAll, StandsPut, PutWritesNext}
use Rattle.transfer_copy.specs.PutRequests.{offers_rename}
use Rattle.transfer_copy.proofs.ActLaws.{acts_join, failed_is, total_last}

reads_last : (pieces : List (List ℕ)) (piece : List ℕ) → reads_of (pieces ++ piece ∷ []) ≡ reads_of pieces
    ++ Got piece ∷ []
reads_last [] piece = refl
reads_last (first ∷ later) piece = ap (λ l. Got first ∷ l) (reads_last later piece)

none_behind : (acts : List LocalAct) → acts ++ [] ≡ acts
none_behind [] = refl
none_behind (act ∷ acts) = ap (λ l. act ∷ l) (none_behind acts)

reads_are : (pieces : List (List ℕ)) (at_end : Bool) → AreGot (reads_of pieces ++ end_acts at_end)
reads_are [] true = (tt, tt)
reads_are [] false = tt
reads_are (piece ∷ later) at_end = (tt, reads_are later at_end)

got_join : (xs ys : List LocalAct) → AreGot xs → AreGot ys → AreGot (xs ++ ys)
got_join [] ys x y = y
got_join (act ∷ acts) ys (here, x) y = (here, got_join acts ys x y)

-- ---- what was read

read_of : {H : Type 0} (done : LocalAct → H → H) (name : List ℕ) (from : ℕ) (at_end : Bool) (len : ℕ) (first now : H)
    → HasReadFile done name from at_end len first now → IsReadOnly done first now
read_of done name from at_end len first now r = (
  Opened name from ∷ (reads_of r.pieces ++ end_acts at_end),
  r.acts,
  (tt, reads_are r.pieces at_end),
)

read_then : {H : Type 0} (done : LocalAct → H → H) (first before now : H) (act : LocalAct) → IsGot act
    → IsReadOnly done first before
    → now ≡ done act before → IsReadOnly done first now
read_then done first before now act is (acts, did, are) next =
    (acts ++ act ∷ [], acts_join done acts (act ∷ []) first before now did next, got_join acts (act ∷ []) are (is, tt))

read_still : {H : Type 0} (done : LocalAct → H → H) (name : List ℕ) (from : ℕ) (at_end : Bool) (len new : ℕ)
    (first before now : H)
    → HasReadFile done name from at_end len first before → now ≡ before → new ≡ len
    → HasReadFile done name from at_end new first now
read_still done name from at_end len new first before now r same is =
    record { pieces = r.pieces; acts = same ∙ r.acts; total = r.total ∙ sym is }

-- the acts of a file that has not come to its end
read_acts : {H : Type 0} (done : LocalAct → H → H) (name : List ℕ) (from len : ℕ) (first now : H)
    (r : HasReadFile done name from false len first now)
    → HasDone done (Opened name from ∷ reads_of r.pieces) first now
read_acts done name from len first now r =
    subst (λ acts. HasDone done (Opened name from ∷ acts) first now) (none_behind (reads_of r.pieces)) r.acts

read_more : {H : Type 0} (done : LocalAct → H → H) (name : List ℕ) (from len new : ℕ) (first before now : H)
    (bytes : List ℕ)
    → HasReadFile done name from false len first before → now ≡ done (Got bytes) before → new ≡ len + length bytes
    → HasReadFile done name from false new first now
read_more done name from len new first before now bytes r next sum =
    let total = total_last r.pieces bytes in
    let was = r.total in
    let joined = acts_join done (Opened name from ∷ reads_of r.pieces) (Got bytes ∷ []) first before now
    (read_acts done name from len first before r) next in
    record {
      pieces = r.pieces ++ bytes ∷ [];
      acts = subst (λ acts. HasDone done (Opened name from ∷ acts) first now)
          (sym (none_behind (reads_of (r.pieces ++ bytes ∷ [])) ∙ reads_last r.pieces bytes)) joined;
      total = omega (arith, total, was, sum);
    }

read_end : {H : Type 0} (done : LocalAct → H → H) (name : List ℕ) (from len new : ℕ) (first before now : H)
    → HasReadFile done name from false len first before → now ≡ done (Got []) before → new ≡ len
    → HasReadFile done name from true new first now
read_end done name from len new first before now r next is = record {
  pieces = r.pieces;
  acts = acts_join done (Opened name from ∷ reads_of r.pieces) (Got [] ∷ []) first before now
      (read_acts done name from len first before r) next;
  total = r.total ∙ sym is;
}

-- ---- a copy that gives up, or has sent all

put_gave_up : {H : Type 0} (done : LocalAct → H → H) (name : List ℕ) (from : ℕ) (core after : Core) (h : HoldingValue)
    (old new : FilePut) (first now : H)
    → PutGivesUp core h old after new → IsReadOnly done first now → SentSoFar done name from new first now new.stage
put_gave_up done name from core after h old new first now gives only =
    subst (λ (s : PutStage). SentSoFar done name from new first now s) (sym gives.stage)
    (only, λ none. absurd (failed_is new.failure gives.failure none))

put_finished : {H : Type 0} (done : LocalAct → H → H) (name : List ℕ) (from : ℕ) (core after : Core) (h : HoldingValue)
    (old new : FilePut) (first now : H)
    → PutFinishes core h old after new → HasReadFile done name from true old.offset first now
    → SentSoFar done name from new first now new.stage
put_finished done name from core after h old new first now ends r =
    subst (λ (s : PutStage). SentSoFar done name from new first now s) (sym ends.stage) (
      read_of done name from true old.offset first now r,
      λ none. read_still done name from true old.offset new.offset
          first now now r refl ends.offset,
    )

put_still : {H : Type 0} (done : LocalAct → H → H) (name : List ℕ) (from : ℕ) (old new : FilePut) (first before now : H)
    (s : PutStage)
    → old.stage ≡ s → SentSoFar done name from old first before s → new ≡ old → now ≡ before
    → SentSoFar done name from new first now new.stage
put_still {H = H} done name from old new first before now s at so same still =
    subst (λ (x : FilePut). SentSoFar done name from x first now x.stage) (sym same)
    (subst (λ (x : PutStage). SentSoFar done name from old first now x) (sym at)
    (subst (λ (h : H). SentSoFar done name from old first h s) (sym still) so))

-- a file of which the same bytes were got, at the same stage
put_same : {H : Type 0} (done : LocalAct → H → H) (name : List ℕ) (from : ℕ) (old new : FilePut) (first before now : H)
    → HasReadFile done name from old.at_end old.next first before → now ≡ before → new.stage ≡ stage.Writing → new.next
    ≡ old.next
    → new.at_end ≡ old.at_end → SentSoFar done name from new first now new.stage
put_same done name from old new first before now r same at next_is end_is =
    subst (λ (s : PutStage). SentSoFar done name from new first now s) (sym at)
    (subst (λ (b : Bool). HasReadFile done name from b new.next first now) (sym end_is)
    (read_still done name from old.at_end old.next new.next first before now r same next_is))

writes_so : {H : Type 0} (done : LocalAct → H → H) (name : List ℕ) (from : ℕ) (core after : Core) (old new : FilePut)
    (first before now : H)
    (bytes : List ℕ) → old.stage ≡ stage.Writing → old.at_end ≡ false
    → HasReadFile done name from false old.next first before
    → now ≡ done (Got bytes) before → PutWritesNext bytes core old after new
    → SentSoFar done name from new first now new.stage
writes_so done name from core after old new first before now bytes at going r next (inl (asks, is)) =
    subst (λ (s : PutStage). SentSoFar done name from new first now s) (sym (ap (λ (x : FilePut). x.stage) is ∙ at))
    (subst (λ (b : Bool). HasReadFile done name from b new.next first now)
    (sym (ap (λ (x : FilePut). x.at_end) is ∙ going))
    (read_more done name from old.next new.next first before now bytes r next (ap (λ (x : FilePut). x.next) is)))
writes_so done name from core after old new first before now bytes at going r next (inr gives) =
    put_gave_up done name from core after old.holding old new first now gives
    (read_then done first before now (Got bytes) tt (read_of done name from false old.next first before r) next)

reads_so : {H : Type 0} (done : LocalAct → H → H) (name : List ℕ) (from : ℕ) (core after : Core) (old new : FilePut)
    (first before now : H)
    → old.stage ≡ stage.Writing → old.at_end ≡ false → HasReadFile done name from false old.next first before
    → PutReadsNext done core old after new before now → SentSoFar done name from new first now new.stage
reads_so done name from core after old new first before now at going r (inl (bytes, some, next, writes)) =
    writes_so done name from core after old new first before now bytes at going r next writes
reads_so done name from core after old new first before now at going r (inr (inl (next, same, is))) =
    subst (λ (s : PutStage). SentSoFar done name from new first now s) (sym (ap (λ (x : FilePut). x.stage) is ∙ at))
    (subst (λ (b : Bool). HasReadFile done name from b new.next first now) (sym (ap (λ (x : FilePut). x.at_end) is))
    (read_end done name from old.next new.next first before now r next (ap (λ (x : FilePut). x.next) is)))
reads_so done name from core after old new first before now at going r (inr (inr (failed, gives))) =
    put_gave_up done name from core after old.holding old new first now gives
    (read_then done first before now (Failed (Got [])) tt (read_of done name from false old.next first before r) failed)

-- where no WRITE is under way, the server has said OK to all bytes that were got
all_accepted : (p : FilePut) → IsWritingOn p → p.holding.parts ≡ [] → p.next ≡ p.offset
all_accepted p w none =
    let sum : p.offset + 0 ≡ p.next = ap (λ l. p.offset + bytes_under_way l) (sym none) ∙ w.next in
    omega (arith, sum)

sent_so : {H : Type 0} (done : LocalAct → H → H) (name : List ℕ) (from : ℕ) (core after : Core) (old new : FilePut)
    (first before now : H)
    → IsWritingOn old → HasReadFile done name from old.at_end old.next first before → now ≡ before
    → PutSentAll core old after new
    → SentSoFar done name from new first now new.stage
sent_so done name from core after old new first before now w r same all =
    let at_end = subst (λ (b : Bool). HasReadFile done name from b old.next first before) all.at_end r in
    put_finished done name from core after old.holding old new first now all.finishes
    (read_still done name from true old.next old.offset first before now at_end same
    (sym (all_accepted old w all.none)))

accepts_so : {H : Type 0} (done : LocalAct → H → H) (name : List ℕ) (from : ℕ) (core after : Core) (old new : FilePut)
    (first before now : H)
    (r : Reply) (len : ℕ) → old.stage ≡ stage.Writing → HasReadFile done name from old.at_end old.next first before
    → now ≡ before
    → AcceptsWrite r len core old after new → SentSoFar done name from new first now new.stage
accepts_so done name from core after old new first before now r len at has same (inl (ok, core_is, is)) =
    put_same done name from old new first before now has same (ap (λ (x : FilePut). x.stage) is ∙ at)
    (ap (λ (x : FilePut). x.next) is)
    (ap (λ (x : FilePut). x.at_end) is)
accepts_so done name from core after old new first before now r len at has same (inr (refused, gives)) =
    put_gave_up done name from core after old.holding old new first now gives
    (read_of done name from old.at_end old.next first now (read_still done name from old.at_end old.next old.next first
    before now has same refl))

-- the attributes were asked for, or not: no more bytes are got
attrs_so : {H : Type 0} (done : LocalAct → H → H) (name : List ℕ) (from : ℕ) (core after : Core) (old new : FilePut)
    (first before now : H) (attrs : FileAttrs) → old.stage ≡ stage.Writing
    → HasReadFile done name from old.at_end old.next first before
    → now ≡ before → PutAsksAttrs attrs core old after new → SentSoFar done name from new first now new.stage
attrs_so done name from core after old new first before now attrs at has same (inl (asks, is)) =
    put_same done name from old new first before now has same (ap (λ (x : FilePut). x.stage) is ∙ at)
    (ap (λ (x : FilePut). x.next) is)
    (ap (λ (x : FilePut). x.at_end) is)
attrs_so done name from core after old new first before now attrs at has same (inr gives) =
    put_gave_up done name from core after old.holding old new first now gives
    (read_of done name from old.at_end old.next first now (read_still done name from old.at_end old.next old.next first
    before now has same refl))

-- the fsync was asked for, or not: no more bytes are got
syncs_so : {H : Type 0} (done : LocalAct → H → H) (name : List ℕ) (from : ℕ) (core after : Core) (old new : FilePut)
    (first before now : H) → old.stage ≡ stage.Writing
    → HasReadFile done name from old.at_end old.next first before
    → now ≡ before → PutAsksSync core old after new → SentSoFar done name from new first now new.stage
syncs_so done name from core after old new first before now at has same (inl (asks, is)) =
    put_same done name from old new first before now has same (ap (λ (x : FilePut). x.stage) is ∙ at)
    (ap (λ (x : FilePut). x.next) is)
    (ap (λ (x : FilePut). x.at_end) is)
syncs_so done name from core after old new first before now at has same (inr gives) =
    put_gave_up done name from core after old.holding old new first now gives
    (read_of done name from old.at_end old.next first now (read_still done name from old.at_end old.next old.next first
    before now has same refl))

begun_so : {H : Type 0} (done : LocalAct → H → H) (name : List ℕ) (from at : ℕ) (new : FilePut) (first before now : H)
    → before ≡ first
    → at ≡ from → now ≡ done (Opened name at) before → new.next ≡ from → new.at_end ≡ false
    → HasReadFile done name from new.at_end new.next first now
begun_so done name from at new first before now none is_from opened next_is going =
    subst (λ (b : Bool). HasReadFile done name from b new.next first now) (sym going)
    (record {
      pieces = [];
      acts = opened ∙ (λ i. done (Opened name (is_from i)) (none i));
      total =
          omega (arith, next_is);
    })

writing_at : (p : FilePut) (core : Core) → p.stage ≡ stage.Writing → MayPut core p → IsWritingOn p
writing_at p core at may = subst (λ (s : PutStage). StandsPut s p) at may.putting.stands

-- the rename of a part that is closed is awaited
closed_so : {H : Type 0} (done : LocalAct → H → H) (name : List ℕ) (from : ℕ) (old new : FilePut) (first before now : H)
    (replaces : Bool)
    → HasReadFile done name from true old.offset first before → now ≡ before → new.stage ≡ rename_stage replaces
    → new.offset ≡ old.offset
    → SentSoFar done name from new first now new.stage
closed_so done name from old new first before now true r same at is =
    subst (λ (s : PutStage). SentSoFar done name from new first now s) (sym at)
    (read_still done name from true old.offset new.offset first before now r same is)
closed_so done name from old new first before now false r same at is =
    subst (λ (s : PutStage). SentSoFar done name from new first now s) (sym at)
    (read_still done name from true old.offset new.offset first before now r same is)

-- the status of the last rename
named_so : {H : Type 0} (done : LocalAct → H → H) (name : List ℕ) (from : ℕ) (core after : Core) (old new : FilePut)
    (first before now : H) (s : PutStage)
    (result : Progress) → old.stage ≡ s → SentSoFar done name from old first before s
    → HasReadFile done name from true old.offset first before
    → PutNamed core old after new result → now ≡ before → SentAfter done name from new first now result
named_so done name from core after old new first before now s progress.Waits at so r (missing, (core_is, is)) same =
    put_still done name from old new first before now s at so is same
named_so done name from core after old new first before now s progress.Moved at so r never same = absurd never
named_so done name from core after old new first before now s (progress.Ended (Ok len)) at so r (ok, len_is, over) same
    =
    read_still done name from true old.offset len first before now r same len_is
named_so done name from core after old new first before now s (progress.Ended (Err e)) at so r (not_ok, over) same =
    read_of done name from true old.offset first now (read_still done name from true old.offset old.offset first before
    now r same refl)

-- ---- each step

pub sent_on : {H : Type 0} (done : LocalAct → H → H) (name part remote : List ℕ) (from : ℕ) (core after : Core)
    (old new : FilePut)
    (first before now : H) (s : PutStage) (result : Progress) → old.stage ≡ s → MayPut core old
    → SentSoFar done name from old first before s
    → PutStepDid done name part remote core old after new before now result s
    → SentAfter done name from new first now result
sent_on done name part remote from core after old new first before now stage.Starting progress.Waits at may so never =
    absurd never
sent_on done name part remote from core after old new first before now stage.Starting progress.Moved at may
    (none, is_from, next_is, going) (opened, (asks, is)) =
    subst (λ (s : PutStage). SentSoFar done name from new first now s) (sym (ap (λ (x : FilePut). x.stage) is))
    (begun_so done name from old.offset new first before now none is_from opened
    (ap (λ (x : FilePut). x.next) is ∙ next_is) (ap (λ (x : FilePut). x.at_end) is ∙ going))
sent_on done name part remote from core after old new first before now stage.Starting (progress.Ended (Err e)) at may
    (none, is_from, next_is, going) (inl (opened, asks)) =
    (Opened name from ∷ [], opened ∙ (λ i. done (Opened name (is_from i)) (none i)), (tt, tt))
sent_on done name part remote from core after old new first before now stage.Starting (progress.Ended (Err e)) at may
    (none, is_from, next_is, going) (inr (failed, same, is)) =
    (Failed (Opened name from) ∷ [], failed ∙ (λ i. done (Failed (Opened name (is_from i))) (none i)), (tt, tt))
sent_on done name part remote from core after old new first before now stage.Starting (progress.Ended (Ok len)) at may
    so never = absurd never
sent_on done name part remote from core after old new first before now stage.Opening progress.Waits at may so
    ((missing, (core_is, is)), same) =
    put_still done name from old new first before now stage.Opening at so is same
sent_on done name part remote from core after old new first before now stage.Opening progress.Moved at may so
    ((granted, is), same) =
    put_same done name from old new first before now so same (ap (λ (x : FilePut). x.stage) is)
    (ap (λ (x : FilePut). x.next) is) (ap (λ (x : FilePut). x.at_end) is)
sent_on done name part remote from core after old new first before now stage.Opening (progress.Ended (Err e)) at may so
    (refused, same) =
    read_of done name from old.at_end old.next first now (read_still done name from old.at_end old.next old.next first
    before now so same refl)
sent_on done name part remote from core after old new first before now stage.Opening (progress.Ended (Ok len)) at may so
    (never, same) = absurd never
sent_on done name part remote from core after old new first before now stage.Writing progress.Waits at may so
    (missing, (core_is, is), same) =
    put_still done name from old new first before now stage.Writing at so is same
sent_on done name part remote from core after old new first before now stage.Writing progress.Moved at may so
    (inl (going, few, reads)) =
    reads_so done name from core after old new first before now at going
    (subst (λ (b : Bool). HasReadFile done name from b old.next first before) going so) reads
sent_on done name part remote from core after old new first before now stage.Writing progress.Moved at may so
    (inr (same, inl puts)) =
    accepts_so done name from puts.mid after (record old { holding = puts.left }) new first before now puts.r puts.len
    at so same puts.accepts
sent_on done name part remote from core after old new first before now stage.Writing progress.Moved at may so
    (inr (same, inr (inl (inl (inl all))))) =
    sent_so done name from core after old new first before now (writing_at old core at may) so same all
sent_on done name part remote from core after old new first before now stage.Writing progress.Moved at may so
    (inr (same, inr (inl (inl (inr syncs))))) =
    syncs_so done name from core after old new first before now at so same syncs.asks
sent_on done name part remote from core after old new first before now stage.Writing progress.Moved at may so
    (inr (same, inr (inl (inr gives)))) =
    attrs_so done name from core after old new first before now gives.attrs at so same gives.asks
sent_on done name part remote from core after old new first before now stage.Writing progress.Moved at may so
    (inr (same, inr (inr more))) =
    put_gave_up done name from more.mid after more.left old new first now more.gives_up
    (read_of done name from old.at_end old.next first now (read_still done name from old.at_end old.next old.next first
    before now so same refl))
sent_on done name part remote from core after old new first before now stage.Writing (progress.Ended result) at may so
    never = absurd never
sent_on done name part remote from core after old new first before now stage.Closing progress.Waits at may so
    ((missing, (core_is, is)), same) =
    put_still done name from old new first before now stage.Closing at so is same
sent_on done name part remote from core after old new first before now stage.Closing progress.Moved at may (only, all)
    ((none, then_asks), same) =
    closed_so done name from old new first before now (offers_rename core) (all none) same
    (ap (λ (x : FilePut). x.stage) then_asks.asks.1)
    (ap (λ (x : FilePut). x.offset) then_asks.asks.1)
sent_on done name part remote from core after old new first before now stage.Closing (progress.Ended (Err e)) at may
    ((acts, did, are), all) (told, same) =
    (acts, same ∙ did, are)
sent_on done name part remote from core after old new first before now stage.Closing (progress.Ended (Ok len)) at may so
    (never, same) = absurd never
sent_on done name part remote from core after old new first before now stage.Replacing result at may so (named, same) =
    named_so done name from core after old new first before now stage.Replacing result at so so named same
sent_on done name part remote from core after old new first before now stage.Renaming progress.Waits at may so
    ((missing, (core_is, is)), same) =
    put_still done name from old new first before now stage.Renaming at so is same
sent_on done name part remote from core after old new first before now stage.Renaming progress.Moved at may so
    (asks, same) =
    subst (λ (s : PutStage). SentSoFar done name from new first now s)
    (sym (ap (λ (x : FilePut). x.stage) asks.asks.asks.1))
    (read_still done name from true old.offset new.offset first before now so same
    (ap (λ (x : FilePut). x.offset) asks.asks.asks.1))
sent_on done name part remote from core after old new first before now stage.Renaming (progress.Ended (Ok len)) at may
    so ((ok, len_is, over), same) =
    read_still done name from true old.offset len first before now so same len_is
sent_on done name part remote from core after old new first before now stage.Renaming (progress.Ended (Err e)) at may so
    (over, same) =
    read_of done name from true old.offset first now (read_still done name from true old.offset old.offset first before
    now so same refl)
sent_on done name part remote from core after old new first before now stage.Checking progress.Waits at may so
    ((missing, (core_is, is)), same) =
    put_still done name from old new first before now stage.Checking at so is same
sent_on done name part remote from core after old new first before now stage.Checking progress.Moved at may so
    (asks, same) =
    subst (λ (s : PutStage). SentSoFar done name from new first now s) (sym (ap (λ (x : FilePut). x.stage) asks.asks.1))
    (read_still done name from true old.offset new.offset first before now so same
    (ap (λ (x : FilePut). x.offset) asks.asks.1))
sent_on done name part remote from core after old new first before now stage.Checking (progress.Ended (Err e)) at may so
    (over, same) =
    read_of done name from true old.offset first now (read_still done name from true old.offset old.offset first before
    now so same refl)
sent_on done name part remote from core after old new first before now stage.Checking (progress.Ended (Ok len)) at may
    so (never, same) = absurd never
sent_on done name part remote from core after old new first before now stage.SettingAside progress.Waits at may so
    ((missing, (core_is, is)), same) =
    put_still done name from old new first before now stage.SettingAside at so is same
sent_on done name part remote from core after old new first before now stage.SettingAside progress.Moved at may so
    (asks, same) =
    subst (λ (s : PutStage). SentSoFar done name from new first now s) (sym (ap (λ (x : FilePut). x.stage) asks.asks.1))
    (read_still done name from true old.offset new.offset first before now so same
    (ap (λ (x : FilePut). x.offset) asks.asks.1))
sent_on done name part remote from core after old new first before now stage.SettingAside (progress.Ended (Err e)) at
    may so
    (over, same) =
    read_of done name from true old.offset first now (read_still done name from true old.offset old.offset first before
    now so same refl)
sent_on done name part remote from core after old new first before now stage.SettingAside (progress.Ended (Ok len)) at
    may
    so (never, same) = absurd never
sent_on done name part remote from core after old new first before now stage.RenamingAgain progress.Waits at may so
    ((missing, (core_is, is)), same) =
    put_still done name from old new first before now stage.RenamingAgain at so is same
sent_on done name part remote from core after old new first before now stage.RenamingAgain progress.Moved at may so
    (inl asks, same) =
    subst (λ (s : PutStage). SentSoFar done name from new first now s) (sym (ap (λ (x : FilePut). x.stage) asks.asks.1))
    (read_still done name from true old.offset new.offset first before now so same
    (ap (λ (x : FilePut). x.offset) asks.asks.1))
sent_on done name part remote from core after old new first before now stage.RenamingAgain progress.Moved at may so
    (inr asks, same) =
    subst (λ (s : PutStage). SentSoFar done name from new first now s)
    (sym (ap (λ (x : FilePut). x.stage) asks.asks.asks.1))
    (read_still done name from true old.offset new.offset first before now so same
    (ap (λ (x : FilePut). x.offset) asks.asks.asks.1))
sent_on done name part remote from core after old new first before now stage.RenamingAgain (progress.Ended (Ok len)) at
    may
    so (((e, asks), len_is), same) =
    read_still done name from true old.offset len first before now so same len_is
sent_on done name part remote from core after old new first before now stage.RenamingAgain (progress.Ended (Err e)) at
    may so
    (over, same) =
    read_of done name from true old.offset first now (read_still done name from true old.offset old.offset first before
    now so same refl)
sent_on done name part remote from core after old new first before now stage.RemovingOld progress.Waits at may so
    ((missing, (core_is, is)), same) =
    put_still done name from old new first before now stage.RemovingOld at so is same
sent_on done name part remote from core after old new first before now stage.RemovingOld progress.Moved at may
    so (never, same) = absurd never
sent_on done name part remote from core after old new first before now stage.RemovingOld (progress.Ended (Ok len)) at
    may
    so ((settled, len_is, over), same) =
    read_still done name from true old.offset len first before now so same len_is
sent_on done name part remote from core after old new first before now stage.RemovingOld (progress.Ended (Err e)) at may
    so (never, same) = absurd never
sent_on done name part remote from core after old new first before now stage.RestoringOld progress.Waits at may so
    ((missing, (core_is, is)), same) =
    put_still done name from old new first before now stage.RestoringOld at so is same
sent_on done name part remote from core after old new first before now stage.RestoringOld progress.Moved at may
    so (never, same) = absurd never
sent_on done name part remote from core after old new first before now stage.RestoringOld (progress.Ended (Err e)) at
    may so
    (over, same) =
    read_of done name from true old.offset first now (read_still done name from true old.offset old.offset first before
    now so same refl)
sent_on done name part remote from core after old new first before now stage.RestoringOld (progress.Ended (Ok len)) at
    may
    so (never, same) = absurd never
sent_on done name part remote from core after old new first before now stage.Ended result at may so never = absurd never
