-- Whole copies from the server, over all their legs.
use Rattle.std.proofs.Common.{◌≡◌, inl, inr, ℕ, Bool, List, [], ◌∷◌, refl, sym, ap, ◌∙◌, subst, None}
use Rattle.std.specs.Prelude.{Ok, Err}
use Rattle.sftp_model.specs.declared.reply.Reply.{Reply}
use Rattle.sftp_model.specs.declared.reply.Reply.TheVariants as reply
use Rattle.sftp_core.specs.Core.{Core}
use Rattle.transfer_copy.specs.Local.{HasDone, LocalAct, naming_acts}
use Rattle.transfer_copy.specs.declared.get.FileGet.{FileGet}
use Rattle.transfer_copy.specs.declared.get.GetStage.{GetStage}
use Rattle.transfer_copy.specs.declared.get.GetStage.TheVariants as stage
use Rattle.transfer_copy.specs.declared.holding.PartAnswer.TheVariants as part_answer
use Rattle.transfer_copy.specs.declared.progress.Progress.{Progress}
use Rattle.transfer_copy.specs.declared.progress.Progress.TheVariants as progress
use Rattle.transfer_copy.specs.Gets.{GetGivesUp, GetStepDid, MakesPart, TakesReply, get_begun}
use Rattle.transfer_copy.specs.Holdings.{HoldingValue, TakesPart}
use Rattle.transfer_copy.specs.Legs.{AreLegs, FollowsSteps, HasGoneOn, HasWaited, IsWholeCopy, CopyStep, history_behind, state_behind}
use Rattle.transfer_copy.specs.WholeGets.{AsksOpen, DidGet, GotWhole, IsGetLeg, MeetsEnd}
use Rattle.transfer_copy.proofs.ActLaws.{failed_is, sync_stays}
use Rattle.transfer_copy.proofs.LegLaws.{waits_on}
use Rattle.transfer_copy.proofs.WholeGetLaws.{
  IsOpenAsked,
  IsReadSoFar,
  IsReadWhole,
  IsUnasked,
  asks_so,
  ended_so,
  got_so,
  made_whole,
  named_whole,
  read_deeds,
  start_so,
}

abbrev IsGotUpTo : {H : Type 0} → (LocalAct → H → H) → List ℕ → List ℕ → List ℕ → Bool → ℕ → List (CopyStep FileGet H)
    → FileGet → H
    → H → GetStage → Type 0
IsGotUpTo done remote part name sync from legs g first now stage.Starting =
    IsUnasked done remote part name sync from legs g first now
IsGotUpTo done remote part name sync from legs g first now stage.Opening =
    IsOpenAsked done remote part name sync from legs g first now
IsGotUpTo done remote part name sync from legs g first now stage.Reading =
    IsReadSoFar done remote part name sync from legs g first now
IsGotUpTo done remote part name sync from legs g first now stage.Closing = g.failure ≡ None
    → IsReadWhole done remote part name sync from legs g first now
IsGotUpTo done remote part name sync from legs g first now stage.Ended = Unit {0}

abbrev IsGotAfter : {H : Type 0} → (LocalAct → H → H) → List ℕ → List ℕ → List ℕ → Bool → ℕ → List (CopyStep FileGet H)
    → FileGet → H
    → H → Progress → Type 0
IsGotAfter done remote part name sync from legs g first now (progress.Ended (Ok len)) =
    GotWhole done remote part name sync from len first now legs
IsGotAfter done remote part name sync from legs g first now (progress.Ended (Err e)) = Unit {0}
IsGotAfter done remote part name sync from legs g first now other =
    IsGotUpTo done remote part name sync from legs g first now g.stage

-- ---- a step

waits_so : {H : Type 0} (done : LocalAct → H → H) (remote part name : List ℕ) (sync : Bool) (from : ℕ)
    (legs : List (CopyStep FileGet H)) (leg : CopyStep FileGet H)
    (first : H) (s : GetStage) → leg.after ≡ leg.core → leg.new ≡ leg.old → leg.now ≡ leg.before → leg.old.stage ≡ s
    → IsGotUpTo done remote part name sync from legs leg.old first leg.before s
    → IsGotUpTo done remote part name sync from (leg ∷ legs) leg.new first leg.now leg.new.stage
waits_so {H = H} done remote part name sync from legs leg first s core_is is same there so =
    subst (λ (g : FileGet). IsGotUpTo done remote part name sync from (leg ∷ legs) g first leg.now g.stage) (sym is)
    (subst (λ (x : GetStage). IsGotUpTo done remote part name sync from (leg ∷ legs) leg.old first leg.now x) (sym
    there)
    (subst (λ (h : H). IsGotUpTo done remote part name sync from (leg ∷ legs) leg.old first h s) (sym same) (by_stage s
    so)))
  where
    waited : HasWaited leg
    waited = record { core = core_is; state = is; history = same }

    by_stage : (s : GetStage) → IsGotUpTo done remote part name sync from legs leg.old first leg.before s
        → IsGotUpTo done remote part name sync from (leg ∷ legs) leg.old first leg.before s
    by_stage stage.Starting so = record {
      deeds = λ grant. waits_on (DidGet done remote part name sync from grant) leg legs [] waited (so.deeds grant);
      holds = so.holds;
      offset = so.offset;
      next = so.next;
      acts = so.acts;
    }
    by_stage stage.Opening so = record {
      ticket = so.ticket;
      deeds = λ handle. waits_on (DidGet done remote part name sync from (record { id = so.ticket; handle = handle }))
          leg
          legs (AsksOpen ∷ []) waited
          (so.deeds handle);
      holds = so.holds;
      offset = so.offset;
      next = so.next;
      acts = so.acts;
    }
    by_stage stage.Reading so = record {
      grant = so.grant;
      reading = so.reading;
      asked = so.asked;
      pieces = so.pieces;
      deeds = waits_on (DidGet done remote part name sync from so.grant) leg legs (read_deeds so.reading) waited
          so.deeds;
      reads = so.reads;
      file = so.file;
      parts = so.parts;
      ahead = so.ahead;
      in_order = so.in_order;
      acts = so.acts;
    }
    by_stage stage.Closing so = λ none. (let w = so none in record {
      grant = w.grant;
      reading = w.reading;
      last_read = w.last_read;
      given_up = w.given_up;
      pieces = w.pieces;
      deeds = waits_on (DidGet done remote part name sync from w.grant) leg legs
          (MeetsEnd w.last_read.ticket ∷ read_deeds w.reading) waited w.deeds;
      reads = w.reads;
      file = w.file;
      in_order = w.in_order;
      at_end = w.at_end;
      acts = w.acts;
    })
    by_stage stage.Ended so = tt

-- ---- each step

gave_up_so : {H : Type 0} (done : LocalAct → H → H) (remote part name : List ℕ) (sync : Bool) (from : ℕ)
    (legs : List (CopyStep FileGet H)) (core after : Core)
    (h : HoldingValue) (old new : FileGet) (first now : H) → GetGivesUp core h old after new
    → IsGotUpTo done remote part name sync from legs new first now new.stage
gave_up_so done remote part name sync from legs core after h old new first now gives =
    subst (λ (s : GetStage). IsGotUpTo done remote part name sync from legs new first now s) (sym gives.stage)
    (λ none. absurd (failed_is new.failure gives.failure none))

reply_whole : {H : Type 0} (done : LocalAct → H → H) (remote part name : List ℕ) (sync : Bool) (from : ℕ)
    (legs : List (CopyStep FileGet H)) (leg : CopyStep FileGet H)
    (first : H) (mid : Core) (left : HoldingValue) (r : Reply) (len : ℕ)
    → IsReadSoFar done remote part name sync from legs leg.old first leg.before
    → TakesPart leg.core leg.old.holding mid left (part_answer.Came r len)
    → TakesReply done r len mid (record leg.old { holding = left }) leg.after leg.new leg.before leg.now
    → IsGotUpTo done remote part name sync from (leg ∷ legs) leg.new first leg.now leg.new.stage
reply_whole done remote part name sync from legs leg first mid left (reply.Content bytes) len so came (inl (
  wrote,
  keeps,
)) =
    subst (λ (s : GetStage). IsGotUpTo done remote part name sync from (leg ∷ legs) leg.new first leg.now s)
    (sym keeps.stage)
    (got_so done remote part name sync from legs leg first mid left bytes len so came wrote keeps)
reply_whole done remote part name sync from legs leg first mid left (reply.Content bytes) len so came (inr (
  failed,
  gives,
)) =
    gave_up_so done remote part name sync from (leg ∷ legs) mid leg.after left (record leg.old { holding = left })
    leg.new
    first leg.now gives
reply_whole done remote part name sync from legs leg first mid left (reply.Status code message language) len so came
    (same, inl (eof, ends)) =
    subst (λ (s : GetStage). IsGotUpTo done remote part name sync from (leg ∷ legs) leg.new first leg.now s) (sym
    ends.stage)
    (λ none. ended_so done remote part name sync from legs leg first mid left code message language len so came same eof
    ends)
reply_whole done remote part name sync from legs leg first mid left (reply.Status code message language) len so came
    (same, inr (other, gives)) =
    gave_up_so done remote part name sync from (leg ∷ legs) mid leg.after left (record leg.old { holding = left })
    leg.new
    first leg.now gives
reply_whole done remote part name sync from legs leg first mid left other len so came never = absurd never

whole_on : {H : Type 0} (done : LocalAct → H → H) (remote part name : List ℕ) (sync : Bool) (from : ℕ)
    (legs : List (CopyStep FileGet H)) (leg : CopyStep FileGet H)
    (first : H) (s : GetStage) (result : Progress) → leg.old.stage ≡ s → leg.old.sync ≡ sync
    → IsGotUpTo done remote part name sync from legs leg.old first leg.before s
    → GetStepDid done remote part name leg.core leg.old leg.after leg.new leg.before leg.now result s
    → IsGotAfter done remote part name sync from (leg ∷ legs) leg.new first leg.now result
whole_on done remote part name sync from legs leg first stage.Starting progress.Waits there wish so (never, same) =
    absurd never
whole_on done remote part name sync from legs leg first stage.Starting progress.Moved there wish so ((asks, is), same) =
    subst (λ (s : GetStage). IsGotUpTo done remote part name sync from (leg ∷ legs) leg.new first leg.now s)
    (sym (ap (λ (x : FileGet). x.stage) is))
    (start_so done remote part name sync from legs leg first so asks is same)
whole_on done remote part name sync from legs leg first stage.Starting (progress.Ended (Err e)) there wish so did = tt
whole_on done remote part name sync from legs leg first stage.Starting (progress.Ended (Ok len)) there wish so (
  never,
  same,
) =
    absurd never
whole_on done remote part name sync from legs leg first stage.Opening progress.Waits there wish so (
  missing,
  (
    core_is,
    is,
  ),
  same,
) =
    waits_so done remote part name sync from legs leg first stage.Opening core_is is same there so
whole_on done remote part name sync from legs leg first stage.Opening progress.Moved there wish so opens = by_making
    opens.made
  where
    by_making : MakesPart done part opens.mid (record leg.old { holding = opens.open_file }) leg.after leg.new
        leg.before leg.now
        → IsGotUpTo done remote part name sync from (leg ∷ legs) leg.new first leg.now leg.new.stage
    by_making (inl (made, core_is, is)) =
        subst (λ (s : GetStage). IsGotUpTo done remote part name sync from (leg ∷ legs) leg.new first leg.now s)
        (sym (ap (λ (x : FileGet). x.stage) is))
        (made_whole done remote part name sync from legs leg first opens.mid opens.open_file so opens.granted made is)
    by_making (inr (failed, gives)) =
        gave_up_so done remote part name sync from (leg ∷ legs) opens.mid leg.after opens.open_file
        (record leg.old { holding = opens.open_file })
        leg.new first leg.now gives
whole_on done remote part name sync from legs leg first stage.Opening (progress.Ended (Err e)) there wish so did = tt
whole_on done remote part name sync from legs leg first stage.Opening (progress.Ended (Ok len)) there wish so never =
    absurd never
whole_on done remote part name sync from legs leg first stage.Reading progress.Waits there wish so (
  missing,
  full,
  (core_is, is),
  same,
) =
    waits_so done remote part name sync from legs leg first stage.Reading core_is is same there so
whole_on done remote part name sync from legs leg first stage.Reading progress.Moved there wish so (inl gets) =
    reply_whole done remote part name sync from legs leg first gets.mid gets.left gets.r gets.len so gets.came gets.goes
whole_on done remote part name sync from legs leg first stage.Reading progress.Moved there wish so (inr (
  same,
  inl
      more,
)) =
    subst (λ (s : GetStage). IsGotUpTo done remote part name sync from (leg ∷ legs) leg.new first leg.now s)
    (sym (ap (λ (x : FileGet). x.stage) more.now ∙ there))
    (asks_so done remote part name sync from legs leg first so same more)
whole_on done remote part name sync from legs leg first stage.Reading progress.Moved there wish so (inr (
  same,
  inr
      more,
)) =
    gave_up_so done remote part name sync from (leg ∷ legs) more.mid leg.after more.left leg.old leg.new first leg.now
    more.gives_up
whole_on done remote part name sync from legs leg first stage.Reading (progress.Ended result) there wish so never =
    absurd never
whole_on done remote part name sync from legs leg first stage.Closing progress.Waits there wish so (
  missing,
  (
    core_is,
    is,
  ),
  same,
) =
    waits_so done remote part name sync from legs leg first stage.Closing core_is is same there so
whole_on done remote part name sync from legs leg first stage.Closing progress.Moved there wish so never = absurd never
whole_on done remote part name sync from legs leg first stage.Closing (progress.Ended (Ok len)) there wish so (
  none,
  closed,
  renamed,
  len_is,
  over,
) =
    named_whole done remote part name sync from len legs leg first (so none) closed
    (subst (λ (b : Bool). HasDone done (naming_acts b part name) leg.before leg.now) wish renamed) len_is
whole_on done remote part name sync from legs leg first stage.Closing (progress.Ended (Err e)) there wish so did = tt
whole_on done remote part name sync from legs leg first stage.Ended result there wish so never = absurd never

-- ---- all legs

-- a leg that follows
follows_so : {H : Type 0} (done : LocalAct → H → H) (remote part name : List ℕ) (sync : Bool) (most from : ℕ) (first :
    H)
    (earlier : List (CopyStep FileGet H))
    (leg : CopyStep FileGet H) → FollowsSteps (IsGetLeg done remote part name) (get_begun most from sync) first earlier
    leg
    → (state_behind (get_begun most from sync) earlier).sync ≡ sync
    → IsGotUpTo done remote part name sync from earlier (state_behind (get_begun most from sync) earlier) first
    (history_behind first earlier)
    (state_behind (get_begun most from sync) earlier).stage
    → IsGotAfter done remote part name sync from (leg ∷ earlier) leg.new first leg.now leg.result
follows_so {H = H} done remote part name sync most from first earlier leg follows wish so =
    let at_state = subst (λ (g : FileGet). IsGotUpTo done remote part name sync from earlier g first
    (history_behind first earlier) g.stage)
    (sym follows.stood) so in
    let at_history = subst (λ (h : H). IsGotUpTo done remote part name sync from earlier leg.old first h leg.old.stage)
    (sym follows.done) at_state in
    whole_on done remote part name sync from earlier leg first leg.old.stage leg.result refl
    (ap (λ (g : FileGet). g.sync) follows.stood ∙ wish) at_history follows.did

went_on : {H : Type 0} (done : LocalAct → H → H) (remote part name : List ℕ) (sync : Bool) (from : ℕ)
    (legs : List (CopyStep FileGet H)) (g : FileGet)
    (first now : H) (result : Progress) → HasGoneOn result → IsGotAfter done remote part name sync from legs g first now
    result
    → IsGotUpTo done remote part name sync from legs g first now g.stage
went_on done remote part name sync from legs g first now progress.Waits going so = so
went_on done remote part name sync from legs g first now progress.Moved going so = so
went_on done remote part name sync from legs g first now (progress.Ended result) never so = absurd never

-- whether the copy is to be written through is as it was at its start
legs_stay : {H : Type 0} (done : LocalAct → H → H) (remote part name : List ℕ) (sync : Bool) (most from : ℕ) (first : H)
    (legs : List (CopyStep FileGet H))
    → AreLegs (IsGetLeg done remote part name) (get_begun most from sync) first legs
    → (state_behind (get_begun most from sync) legs).sync ≡ sync
legs_stay done remote part name sync most from first [] are = refl
legs_stay done remote part name sync most from first (leg ∷ earlier) (follows, going, are) =
    sync_stays done remote part name leg.core leg.after leg.old leg.new leg.before leg.now leg.old.stage leg.result
    going
    follows.did
    ∙ (ap (λ (g : FileGet). g.sync) follows.stood
    ∙ legs_stay done remote part name sync most from first earlier are)

legs_so : {H : Type 0} (done : LocalAct → H → H) (remote part name : List ℕ) (sync : Bool) (most from : ℕ) (first : H)
    (legs : List (CopyStep FileGet H))
    → AreLegs (IsGetLeg done remote part name) (get_begun most from sync) first legs
    → IsGotUpTo done remote part name sync from legs (state_behind (get_begun most from sync) legs) first
    (history_behind first legs)
    (state_behind (get_begun most from sync) legs).stage
legs_so done remote part name sync most from first [] are = record
    { deeds = λ grant. tt; holds = refl; offset = refl; next = refl; acts = refl }
legs_so done remote part name sync most from first (leg ∷ earlier) (follows, going, are) =
    went_on done remote part name sync from (leg ∷ earlier) leg.new first leg.now leg.result going
    (follows_so done remote part name sync most from first earlier leg follows
    (legs_stay done remote part name sync most from first earlier are)
    (legs_so done remote part name sync most from first earlier are))

pub got_whole : {H : Type 0} (done : LocalAct → H → H) (remote part name : List ℕ) (sync : Bool) (most from len : ℕ)
    (first : H)
    (earlier : List (CopyStep FileGet H)) (last : CopyStep FileGet H)
    → IsWholeCopy (IsGetLeg done remote part name) (get_begun most from sync) first earlier last (Ok len)
    → GotWhole done remote part name sync from len first last.now (last ∷ earlier)
got_whole done remote part name sync most from len first earlier last w =
    subst (λ (r : Progress). IsGotAfter done remote part name sync from (last ∷ earlier) last.new first last.now r)
    w.ended
    (follows_so done remote part name sync most from first earlier last w.follows
    (legs_stay done remote part name sync most from first earlier w.legs)
    (legs_so done remote part name sync most from first earlier w.legs))
