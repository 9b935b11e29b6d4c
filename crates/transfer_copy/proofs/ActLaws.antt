-- What a copy has done to its local file.
use Rattle.std.proofs.Common.{◌≡◌, ◌⊎◌, inl, inr, ℕ, ◌+◌, ◌==◌, Bool, true, false, List, [], ◌∷◌, ◌++◌, length, refl, sym, ap, ◌∙◌, subst, arith, Option, Some, None, if◌then◌else◌}
use Rattle.std.specs.Prelude.{Ok, Err, IsSome}
use Rattle.sftp_model.specs.declared.reply.Reply.{Reply}
use Rattle.sftp_model.specs.declared.reply.Reply.TheVariants as reply
use Rattle.sftp_core.specs.Core.{Core}
use Rattle.transfer_copy.specs.declared.copy_error.CopyError.{CopyError}
use Rattle.transfer_copy.specs.declared.get.FileGet.{FileGet}
use Rattle.transfer_copy.specs.declared.get.GetStage.{GetStage}
use Rattle.transfer_copy.specs.declared.get.GetStage.TheVariants as stage
use Rattle.transfer_copy.specs.declared.progress.Progress.{Progress}
use Rattle.transfer_copy.specs.declared.progress.Progress.TheVariants as progress
use Rattle.transfer_copy.specs.Acts.{GotAfter, GotAtStage, GotSoFar, HasNameUnsynced, HasWrittenPart, IsPartOnly, total_len}
use Rattle.transfer_copy.specs.Gets.{GetFinishes, GetStepDid, GetGivesUp, TakesReply, MakesPart, WritesPiece}
use Rattle.transfer_copy.specs.Holdings.{HoldingValue}
use Rattle.transfer_copy.specs.Legs.{HasGoneOn}
use Rattle.transfer_copy.specs.Local.{
  AreOfPart,
  AreUnnamed,
  Created,
  FailNaming,
  Failed,
  Got,
  HasDone,
  IsOfPart,
  IsUnnamed,
  LocalAct,
  Opened,
  Renamed,
  Reopened,
  Synced,
  SyncedParent,
  Wrote,
  all_done,
  naming_acts,
  part_opened,
  writes_of,
}

-- ---- acts one after another

pub acts_join : {H : Type 0} (done : LocalAct → H → H) (xs ys : List LocalAct) (a b c : H) → HasDone done xs a b
    → HasDone done ys b c → HasDone done (xs ++ ys) a c
acts_join done [] ys a b c x y = y ∙ ap (all_done done ys) x
acts_join done (act ∷ acts) ys a b c x y = acts_join done acts ys (done act a) b c x y

pub total_last : (pieces : List (List ℕ)) (piece : List ℕ) → total_len (pieces ++ piece ∷ [])
    ≡ total_len pieces + length piece
total_last [] piece = omega (arith)
total_last (first ∷ later) piece = (let e = total_last later piece in omega (arith, e))

writes_last : (pieces : List (List ℕ)) (piece : List ℕ) → writes_of (pieces ++ piece ∷ []) ≡ writes_of pieces
    ++ Wrote piece ∷ []
writes_last [] piece = refl
writes_last (first ∷ later) piece = ap (λ l. Wrote first ∷ l) (writes_last later piece)

writes_of_part : (part : List ℕ) (pieces : List (List ℕ)) → AreOfPart part (writes_of pieces)
writes_of_part part [] = tt
writes_of_part part (piece ∷ later) = (tt, writes_of_part part later)

part_join : (part : List ℕ) (xs ys : List LocalAct) → AreOfPart part xs → AreOfPart part ys → AreOfPart part (xs ++ ys)
part_join part [] ys x y = y
part_join part (act ∷ acts) ys (here, x) y = (here, part_join part acts ys x y)

-- the part is opened to be written
opened_of_part : (part : List ℕ) (from : ℕ) → IsOfPart part (part_opened part from)
opened_of_part part from = by_test (from == 0)
  where
    by_test : (b : Bool) → IsOfPart part (if b then Created part else Reopened part from)
    by_test true = refl
    by_test false = refl

unnamed_act : (sync : Bool) (part name : List ℕ) (act : LocalAct) → IsOfPart part act → IsUnnamed sync part name act
unnamed_act sync part name (Created n) here = here
unnamed_act sync part name (Reopened n len) here = here
unnamed_act sync part name (Wrote bytes) here = here
unnamed_act sync part name (Opened n from) here = here
unnamed_act sync part name (Got bytes) here = here
unnamed_act sync part name Synced never = absurd never
unnamed_act sync part name (Renamed from to) here = here
unnamed_act sync part name (SyncedParent n) here = here
unnamed_act sync part name (Failed (Created n)) here = here
unnamed_act sync part name (Failed (Reopened n len)) here = here
unnamed_act sync part name (Failed (Wrote bytes)) here = here
unnamed_act sync part name (Failed (Opened n from)) here = here
unnamed_act sync part name (Failed (Got bytes)) here = here
unnamed_act sync part name (Failed Synced) never = absurd never
unnamed_act sync part name (Failed (Renamed from to)) never = absurd never
unnamed_act sync part name (Failed (SyncedParent n)) here = here
unnamed_act sync part name (Failed (Failed act)) here = here

unnamed : (sync : Bool) (part name : List ℕ) (acts : List LocalAct) → AreOfPart part acts
    → AreUnnamed sync part name acts
unnamed sync part name [] are = tt
unnamed sync part name (act ∷ acts) (here, are) =
    (unnamed_act sync part name act here, unnamed sync part name acts are)

unnamed_join : (sync : Bool) (part name : List ℕ) (xs ys : List LocalAct) → AreUnnamed sync part name xs
    → AreUnnamed sync part name ys → AreUnnamed sync part name (xs ++ ys)
unnamed_join sync part name [] ys x y = y
unnamed_join sync part name (act ∷ acts) ys (here, x) y = (here, unnamed_join sync part name acts ys x y)

-- ---- what was written

-- one act more of the part
part_then : {H : Type 0} (done : LocalAct → H → H) (part : List ℕ) (first before now : H) (act : LocalAct)
    → IsOfPart part act
    → IsPartOnly done part first before → now ≡ done act before → IsPartOnly done part first now
part_then done part first before now act is (acts, did, are) next = (
  acts ++ act ∷ [],
  acts_join done acts (act ∷ []) first before now did next,
  part_join part acts (act ∷ []) are (is, tt),
)

part_of : {H : Type 0} (done : LocalAct → H → H) (part : List ℕ) (from len : ℕ) (first now : H)
    → HasWrittenPart done part from len first now
    → IsPartOnly done part first now
part_of done part from len first now w = (
  part_opened part from ∷ writes_of w.pieces,
  w.acts,
  (opened_of_part part from, writes_of_part part w.pieces),
)

wrote_more : {H : Type 0} (done : LocalAct → H → H) (part : List ℕ) (from len new : ℕ) (first before now : H)
    (bytes : List ℕ)
    → HasWrittenPart done part from len first before → now ≡ done (Wrote bytes) before → new ≡ len + length bytes
    → HasWrittenPart done part from new first now
wrote_more done part from len new first before now bytes w next sum =
    let total = total_last w.pieces bytes in
    let was = w.total in
    record {
      pieces = w.pieces ++ bytes ∷ [];
      acts = subst (λ acts. HasDone done (part_opened part from ∷ acts) first now) (sym (writes_last w.pieces bytes))
          (acts_join done (part_opened part from ∷ writes_of w.pieces) (Wrote bytes ∷ []) first before now w.acts next);
      total = omega (arith, total, was, sum);
    }

-- nothing more was done, and the count is the same
wrote_still : {H : Type 0} (done : LocalAct → H → H) (part : List ℕ) (from len new : ℕ) (first before now : H)
    → HasWrittenPart done part from len first before → now ≡ before → new ≡ len
    → HasWrittenPart done part from new first now
wrote_still done part from len new first before now w same is =
    record { pieces = w.pieces; acts = same ∙ w.acts; total = w.total ∙ sym is }

-- ---- a copy that gives up, or has all

pub failed_is : (p : Option CopyError) → IsSome p → p ≡ None → ⊥
failed_is None some none = cc
failed_is (Some e) some none = (let bad : (◌≡◌ {A = Option CopyError} (Some e) None) = none in cc)

gave_up : {H : Type 0} (done : LocalAct → H → H) (part : List ℕ) (from : ℕ) (core after : Core) (h : HoldingValue)
    (old new : FileGet) (first now : H)
    → GetGivesUp core h old after new → IsPartOnly done part first now → GotAtStage done part from new first now
    new.stage
gave_up done part from core after h old new first now gives only =
    subst (λ (s : GetStage). GotAtStage done part from new first now s) (sym gives.stage)
    (only, λ none. absurd (failed_is new.failure gives.failure none))

finished : {H : Type 0} (done : LocalAct → H → H) (part : List ℕ) (from : ℕ) (core after : Core) (h : HoldingValue)
    (old new : FileGet) (first now : H)
    → GetFinishes core h old after new → HasWrittenPart done part from old.offset first now
    → GotAtStage done part from new first now new.stage
finished done part from core after h old new first now ends w =
    subst (λ (s : GetStage). GotAtStage done part from new first now s) (sym ends.stage) (
      part_of done part from old.offset first now w,
      λ none. wrote_still done part from old.offset new.offset first now
          now w refl ends.offset,
    )

-- ---- each step

still_so : {H : Type 0} (done : LocalAct → H → H) (part : List ℕ) (from : ℕ) (old new : FileGet) (first before now : H)
    (s : GetStage)
    → old.stage ≡ s → GotAtStage done part from old first before s → new ≡ old → now ≡ before
    → GotAtStage done part from new first now new.stage
still_so {H = H} done part from old new first before now s at so same still =
    subst (λ (x : FileGet). GotAtStage done part from x first now x.stage) (sym same)
    (subst (λ (x : GetStage). GotAtStage done part from old first now x) (sym at)
    (subst (λ (h : H). GotAtStage done part from old first h s) (sym still) so))

made_so : {H : Type 0} (done : LocalAct → H → H) (part : List ℕ) (from : ℕ) (core after : Core) (old new : FileGet)
    (first before now : H)
    → before ≡ first → old.offset ≡ from → MakesPart done part core old after new before now
    → GotAtStage done part from new first now new.stage
made_so done part from core after old new first before now none is_from (inl (made, same, is)) =
    subst (λ (s : GetStage). GotAtStage done part from new first now s) (sym (ap (λ (x : FileGet). x.stage) is))
    (let offset : new.offset ≡ from = ap (λ (x : FileGet). x.offset) is ∙ is_from in record {
      pieces = [];
      acts = made ∙ ap (λ n. done (part_opened part n) before) is_from ∙ ap (done (part_opened part from)) none;
      total = omega (arith, offset);
    })
made_so done part from core after old new first before now none is_from (inr (failed, gives)) =
    gave_up done part from core after old.holding old new first now gives (
      Failed (part_opened part from) ∷ [],
      failed ∙ ap (λ n. done (Failed (part_opened part n)) before) is_from
          ∙ ap (done (Failed (part_opened part from))) none,
      (opened_of_part part from, tt),
    )

wrote_so : {H : Type 0} (done : LocalAct → H → H) (part : List ℕ) (from : ℕ) (core after : Core) (old new : FileGet)
    (first before now : H)
    (bytes : List ℕ) (len : ℕ) → HasWrittenPart done part from old.offset first before
    → WritesPiece done bytes len core old after new before now → GotAtStage done part from new first now new.stage
wrote_so done part from core after old new first before now bytes len w (inl (wrote, keeps)) =
    subst (λ (s : GetStage). GotAtStage done part from new first now s) (sym keeps.stage)
    (wrote_more done part from old.offset new.offset first before now bytes w wrote keeps.offset)
wrote_so done part from core after old new first before now bytes len w (inr (failed, gives)) =
    gave_up done part from core after old.holding old new first now gives
    (part_then done part first before now (Failed (Wrote bytes)) tt (part_of done part from old.offset first before w)
    failed)

reply_so : {H : Type 0} (done : LocalAct → H → H) (part : List ℕ) (from : ℕ) (core after : Core) (old new : FileGet)
    (first before now : H)
    (r : Reply) (len : ℕ) → HasWrittenPart done part from old.offset first before
    → TakesReply done r len core old after new before now
    → GotAtStage done part from new first now new.stage
reply_so done part from core after old new first before now (reply.Content bytes) len w goes =
    wrote_so done part from core after old new first before now bytes len w goes
reply_so done part from core after old new first before now (reply.Status code message language) len w
    (same, inl (eof, ends)) =
    finished done part from core after old.holding old new first now ends
    (wrote_still done part from old.offset old.offset first before now w same refl)
reply_so done part from core after old new first before now (reply.Status code message language) len w
    (same, inr (other, gives)) =
    gave_up done part from core after old.holding old new first now gives
    (part_of done part from old.offset first now (wrote_still done part from old.offset old.offset first before now w
    same refl))
reply_so done part from core after old new first before now other len w never = absurd never

-- one of the operations that give the part its name failed
unnamed_end : {H : Type 0} (done : LocalAct → H → H) (part name : List ℕ) (sync : Bool) (from len : ℕ)
    (first before now : H) (acts : List LocalAct) → HasWrittenPart done part from len first before
    → HasDone done acts before now → AreUnnamed sync part name acts
    → (all : List LocalAct) × HasDone done all first now × AreUnnamed sync part name all
unnamed_end done part name sync from len first before now acts w did are =
    let only = part_of done part from len first before w in (
      only.0 ++ acts,
      acts_join done only.0 acts first before now only.1 did,
      unnamed_join sync part name only.0 acts (unnamed sync part name only.0 only.2) are,
    )

naming_failed : {H : Type 0} (done : LocalAct → H → H) (part name : List ℕ) (sync : Bool) (from len : ℕ)
    (first before now : H) (acts : List LocalAct) → HasWrittenPart done part from len first before
    → FailNaming sync part name acts → HasDone done acts before now
    → ((all : List LocalAct) × HasDone done all first now × AreUnnamed sync part name all)
    ⊎ HasNameUnsynced done part name sync from first now
naming_failed done part name false from len first before now acts w is did =
    inl (unnamed_end done part name false from len first before now (Failed (Renamed part name) ∷ []) w
    (subst (λ (l : List LocalAct). HasDone done l before now) is did) ((refl, refl), tt))
naming_failed done part name true from len first before now acts w (inl is) did =
    inl (unnamed_end done part name true from len first before now (Failed Synced ∷ []) w
    (subst (λ (l : List LocalAct). HasDone done l before now) is did) (refl, tt))
naming_failed done part name true from len first before now acts w (inr (inl is)) did =
    inl (unnamed_end done part name true from len first before now (Synced ∷ Failed (Renamed part name) ∷ []) w
    (subst (λ (l : List LocalAct). HasDone done l before now) is did) (refl, ((refl, refl), tt)))
naming_failed done part name true from len first before now acts w (inr (inr is)) did = inr (record {
  asked = refl;
  len = len;
  written = before;
  writes = w;
  acts = subst (λ (l : List LocalAct). HasDone done l before now) is did;
})

abbrev GotAtAfter : {H : Type 0} → (LocalAct → H → H) → List ℕ → List ℕ → Bool → ℕ → FileGet → H → H → Progress
    → Type 0
GotAtAfter done part name sync from new first now progress.Waits = GotAtStage done part from new first now new.stage
GotAtAfter done part name sync from new first now progress.Moved = GotAtStage done part from new first now new.stage
GotAtAfter done part name sync from new first now (progress.Ended result) =
    GotAfter done part name sync from new first now (progress.Ended result)

got_at : {H : Type 0} (done : LocalAct → H → H) (remote part name : List ℕ) (sync : Bool) (from : ℕ)
    (core after : Core) (old new : FileGet)
    (first before now : H) (s : GetStage) (result : Progress) → old.stage ≡ s → old.sync ≡ sync
    → GotAtStage done part from old first before s
    → GetStepDid done remote part name core old after new before now result s
    → GotAtAfter done part name sync from new first now result
got_at done remote part name sync from core after old new first before now stage.Starting progress.Waits at wish so
    (never, same) = absurd never
got_at done remote part name sync from core after old new first before now stage.Starting progress.Moved at wish (
  none,
  is_from,
) ((asks, is), same) =
    subst (λ (s : GetStage). GotAtStage done part from new first now s) (sym (ap (λ (x : FileGet). x.stage) is))
    (same ∙ none, ap (λ (x : FileGet). x.offset) is ∙ is_from)
got_at done remote part name sync from core after old new first before now stage.Starting (progress.Ended (Err e)) at
    wish (none, is_from) (ends, same) =
    inl ([], same ∙ none, tt)
got_at done remote part name sync from core after old new first before now stage.Starting (progress.Ended (Ok len)) at
    wish so (never, same) = absurd never
got_at done remote part name sync from core after old new first before now stage.Opening progress.Waits at wish so
    (missing, (core_is, is), same) =
    still_so done part from old new first before now stage.Opening at so is same
got_at done remote part name sync from core after old new first before now stage.Opening progress.Moved at wish (
  none,
  is_from,
) opens =
    made_so done part from opens.mid after (record old { holding = opens.open_file }) new first before now none is_from
    opens.made
got_at done remote part name sync from core after old new first before now stage.Opening (progress.Ended (Err e)) at
    wish (none, is_from) (refused, is, same) =
    inl ([], same ∙ none, tt)
got_at done remote part name sync from core after old new first before now stage.Opening (progress.Ended (Ok len)) at
    wish so never = absurd never
got_at done remote part name sync from core after old new first before now stage.Reading progress.Waits at wish so
    (missing, full, (core_is, is), same) =
    still_so done part from old new first before now stage.Reading at so is same
got_at done remote part name sync from core after old new first before now stage.Reading progress.Moved at wish so (inl
    gets) =
    reply_so done part from gets.mid after (record old { holding = gets.left }) new first before now gets.r gets.len so
    gets.goes
got_at done remote part name sync from core after old new first before now stage.Reading progress.Moved at wish so (inr
    (same, inl asks)) =
    subst (λ (s : GetStage). GotAtStage done part from new first now s)
    (sym (ap (λ (x : FileGet). x.stage) asks.now ∙ at))
    (wrote_still done part from old.offset new.offset first before now so same
    (ap (λ (x : FileGet). x.offset) asks.now))
got_at done remote part name sync from core after old new first before now stage.Reading progress.Moved at wish so (inr
    (same, inr more)) =
    gave_up done part from more.mid after more.left old new first now more.gives_up
    (part_of done part from old.offset first now (wrote_still done part from old.offset old.offset first before now so
    same refl))
got_at done remote part name sync from core after old new first before now stage.Reading (progress.Ended result) at
    wish so never = absurd never
got_at done remote part name sync from core after old new first before now stage.Closing progress.Waits at wish so
    (missing, (core_is, is), same) =
    still_so done part from old new first before now stage.Closing at so is same
got_at done remote part name sync from core after old new first before now stage.Closing progress.Moved at wish so
    never =
    absurd never
got_at done remote part name sync from core after old new first before now stage.Closing (progress.Ended (Ok len)) at
    wish
    (only, all) (none, closed, named, len_is, over) = (
      before,
      wrote_still done part from old.offset len first before before (all none) refl len_is,
      subst (λ (b : Bool). HasDone done (naming_acts b part name) before now) wish named,
    )
got_at done remote part name sync from core after old new first before now stage.Closing (progress.Ended (Err e)) at
    wish
    ((acts, did, are), all) (told, inl same, over) =
    inl (acts, same ∙ did, unnamed sync part name acts are)
got_at done remote part name sync from core after old new first before now stage.Closing (progress.Ended (Err e)) at
    wish
    (only, all) (told, inr (none, closed, (acts, fails, failed)), over) =
    naming_failed done part name sync from old.offset first before now acts (all none)
    (subst (λ (b : Bool). FailNaming b part name acts) wish fails) failed
got_at done remote part name sync from core after old new first before now stage.Ended result at wish so never = absurd
    never

-- ---- whether the copy is to be written through stays the same

made_stays : {H : Type 0} (done : LocalAct → H → H) (part : List ℕ) (core after : Core) (old new : FileGet)
    (before now : H) → MakesPart done part core old after new before now → new.sync ≡ old.sync
made_stays done part core after old new before now (inl (made, same, is)) = ap (λ (x : FileGet). x.sync) is
made_stays done part core after old new before now (inr (failed, gives)) = gives.sync

reply_stays : {H : Type 0} (done : LocalAct → H → H) (core after : Core) (old new : FileGet) (before now : H)
    (r : Reply) (len : ℕ) → TakesReply done r len core old after new before now → new.sync ≡ old.sync
reply_stays done core after old new before now (reply.Content bytes) len (inl (wrote, keeps)) = keeps.sync
reply_stays done core after old new before now (reply.Content bytes) len (inr (failed, gives)) = gives.sync
reply_stays done core after old new before now (reply.Status code message language) len (same, inl (eof, ends)) =
    ends.sync
reply_stays done core after old new before now (reply.Status code message language) len (same, inr (other, gives)) =
    gives.sync
reply_stays done core after old new before now other len never = absurd never

pub sync_stays : {H : Type 0} (done : LocalAct → H → H) (remote part name : List ℕ) (core after : Core)
    (old new : FileGet) (before now : H) (s : GetStage) (result : Progress) → HasGoneOn result
    → GetStepDid done remote part name core old after new before now result s → new.sync ≡ old.sync
sync_stays done remote part name core after old new before now stage.Starting progress.Waits on (never, same) =
    absurd never
sync_stays done remote part name core after old new before now stage.Starting progress.Moved on ((asks, is), same) =
    ap (λ (x : FileGet). x.sync) is
sync_stays done remote part name core after old new before now stage.Opening progress.Waits on
    (missing, (core_is, is), same) =
    ap (λ (x : FileGet). x.sync) is
sync_stays done remote part name core after old new before now stage.Opening progress.Moved on opens =
    made_stays done part opens.mid after (record old { holding = opens.open_file }) new before now opens.made
sync_stays done remote part name core after old new before now stage.Reading progress.Waits on
    (missing, full, (core_is, is), same) =
    ap (λ (x : FileGet). x.sync) is
sync_stays done remote part name core after old new before now stage.Reading progress.Moved on (inl gets) =
    reply_stays done gets.mid after (record old { holding = gets.left }) new before now gets.r gets.len gets.goes
sync_stays done remote part name core after old new before now stage.Reading progress.Moved on (inr (same, inl asks)) =
    ap (λ (x : FileGet). x.sync) asks.now
sync_stays done remote part name core after old new before now stage.Reading progress.Moved on (inr (same, inr more)) =
    more.gives_up.sync
sync_stays done remote part name core after old new before now stage.Closing progress.Waits on
    (missing, (core_is, is), same) =
    ap (λ (x : FileGet). x.sync) is
sync_stays done remote part name core after old new before now stage.Closing progress.Moved on never = absurd never
sync_stays done remote part name core after old new before now s (progress.Ended result) never did = absurd never
sync_stays done remote part name core after old new before now stage.Ended progress.Waits on never = absurd never
sync_stays done remote part name core after old new before now stage.Ended progress.Moved on never = absurd never

pub got_on : {H : Type 0} (done : LocalAct → H → H) (remote part name : List ℕ) (sync : Bool) (from : ℕ)
    (core after : Core) (old new : FileGet) (first before now : H) (s : GetStage) (result : Progress) → old.stage ≡ s
    → GotSoFar done part sync from old first before s
    → GetStepDid done remote part name core old after new before now result s
    → GotAfter done part name sync from new first now result
got_on done remote part name sync from core after old new first before now s progress.Waits at (wish, so) did = (
  sync_stays done remote part name core after old new before now s progress.Waits tt did ∙ wish,
  got_at done remote part name sync from core after old new first before now s progress.Waits at wish so did,
)
got_on done remote part name sync from core after old new first before now s progress.Moved at (wish, so) did = (
  sync_stays done remote part name core after old new before now s progress.Moved tt did ∙ wish,
  got_at done remote part name sync from core after old new first before now s progress.Moved at wish so did,
)
got_on done remote part name sync from core after old new first before now s (progress.Ended (Ok len)) at (wish, so)
    did =
    got_at done remote part name sync from core after old new first before now s (progress.Ended (Ok len)) at wish so
    did
got_on done remote part name sync from core after old new first before now s (progress.Ended (Err e)) at (wish, so)
    did =
    got_at done remote part name sync from core after old new first before now s (progress.Ended (Err e)) at wish so
    did
