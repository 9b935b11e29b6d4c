-- The steps of copies that ended, and what jobs do to the steps of all.
use Rattle.std.proofs.Common.{◌≡◌, inl, ℕ, List, [], ◌∷◌, ◌++◌, refl, sym, ap, ◌∙◌, subst}
use Rattle.std.specs.Prelude.{Some, Result, Ok}
use Rattle.std.proofs.lemmas.List.Elements.{Contains-append_left, Contains-push}
use Rattle.std.specs.String.{string_bytes}
use Rattle.sftp_core.specs.Core.{Core}
use Rattle.sftp_link.specs.Views.{LinkView}
use Rattle.transfer_copy.specs.Local.{LocalAct}
use Rattle.transfer_copy.specs.declared.copy_error.CopyError.{CopyError}
use Rattle.transfer_copy.specs.declared.get.FileGet.{FileGet}
use Rattle.transfer_copy.specs.declared.progress.Progress.TheVariants as progress
use Rattle.transfer_copy.specs.declared.put.FilePut.{FilePut}
use Rattle.transfer_copy.specs.Gets.{get_begun}
use Rattle.transfer_copy.specs.Legs.{IsWholeCopy, CopyStep}
use Rattle.transfer_copy.specs.Puts.{put_begun}
use Rattle.transfer_copy.specs.WholeGets.{GotWhole, IsGetLeg}
use Rattle.transfer_copy.specs.WholePuts.{IsPutLeg, SentWhole}
use Rattle.transfer_copy.proofs.WholeGetSteps.{got_whole}
use Rattle.transfer_copy.proofs.WholePutSteps.{sent_whole}
use Rattle.transfer_pool.specs.declared.jobs.Wanted.{Wanted}
use Rattle.transfer_pool.specs.declared.copy_job.Copied.{Copied}
use Rattle.transfer_pool.specs.declared.copy_job.CopyJob.{CopyJob}
use Rattle.transfer_pool.specs.declared.copy_job.CopyState.{CopyState}
use Rattle.transfer_pool.specs.declared.copy_job.CopyState.TheVariants as state
use Rattle.transfer_pool.specs.declared.copy_job.Running.{Running}
use Rattle.transfer_args.specs.declared.asked.Direction.{Direction}
use Rattle.transfer_args.specs.declared.asked.Direction.TheVariants as way
use Rattle.transfer_pool.specs.Copies.{CopyStepDid, NextEnded, Working, copy_begun, job_begun}
use Rattle.transfer_pool.specs.CopyLegs.{
  AreInOrderAmong,
  HasGot,
  HasLegs,
  HasOwnLegs,
  HasPut,
  JobLeg,
  ended_legs,
  leg_of,
  legs_of,
  worked_legs,
}
use Rattle.transfer_pool.specs.Jobs.{Given, JobNote, NoMore, Over}
use Rattle.transfer_pool.proofs.LegLaws.{
  among_one,
  AllowsMore,
  IsCopyingBy,
  AreUnderWay,
  more_under_way,
  more_told,
  told_join,
  under_way_last,
  get_follows,
  put_follows,
  step_leg,
  AreCopies,
  worked_copies,
}

-- ---- a copy that ended

-- its result and its local file are those that are told
whole_got : {F H : Type 0} (done : LocalAct → H → H) (history : F → H) (window : ℕ) (all : List (JobLeg H))
    (wanted : Wanted F) (copied : Copied F)
    (earlier : List (CopyStep FileGet H)) (last : CopyStep FileGet H)
    → IsWholeCopy (IsGetLeg done (string_bytes wanted.job.from) (string_bytes wanted.job.part)
    (string_bytes wanted.job.to))
    (get_begun window wanted.job.begins_at wanted.job.sync) (history wanted.local) earlier last copied.result → last.now
    ≡ history copied.local
    → AreInOrderAmong (legs_of state.Get wanted.job (last ∷ earlier)) all → HasGot done history window all wanted copied
whole_got {H = H} done history window all wanted copied earlier last whole told among =
    let from = string_bytes wanted.job.from in
    let part = string_bytes wanted.job.part in
    let to = string_bytes wanted.job.to in
    record {
      earlier = earlier;
      last = last;
      whole = whole;
      told = told;
      among = among;
      got = λ len is. subst (λ (h : H). GotWhole done from part to wanted.job.sync wanted.job.begins_at len (history
          wanted.local) h
          (last ∷ earlier)) told
          (got_whole done from part to wanted.job.sync window wanted.job.begins_at len (history wanted.local) earlier
          last
          (subst (λ (r : Result ℕ CopyError). IsWholeCopy (IsGetLeg done from part to)
          (get_begun window wanted.job.begins_at wanted.job.sync)
          (history wanted.local) earlier last r) is whole));
    }

whole_put : {F H : Type 0} (done : LocalAct → H → H) (history : F → H) (window : ℕ) (all : List (JobLeg H))
    (wanted : Wanted F) (copied : Copied F)
    (earlier : List (CopyStep FilePut H)) (last : CopyStep FilePut H)
    → IsWholeCopy (IsPutLeg done (string_bytes wanted.job.from) (string_bytes wanted.job.part)
    (string_bytes wanted.job.to))
    (put_begun window wanted.job.begins_at wanted.job.mode wanted.job.attrs wanted.job.sync) (history wanted.local)
    earlier last copied.result
    → last.now ≡ history copied.local → AreInOrderAmong (legs_of state.Put wanted.job (last ∷ earlier)) all
    → HasPut done history window all wanted copied
whole_put {H = H} done history window all wanted copied earlier last whole told among =
    let from = string_bytes wanted.job.from in
    let part = string_bytes wanted.job.part in
    let to = string_bytes wanted.job.to in
    record {
      earlier = earlier;
      last = last;
      whole = whole;
      told = told;
      among = among;
      sent = λ len is. subst (λ (h : H). SentWhole done from part to wanted.job.sync wanted.job.begins_at len (history
          wanted.local) h
          (last ∷ earlier)) told
          (sent_whole done from part to wanted.job.sync window wanted.job.begins_at len wanted.job.mode
          wanted.job.attrs (history wanted.local) earlier
          last
          (subst (λ (r : Result ℕ CopyError). IsWholeCopy (IsPutLeg done from part to)
          (put_begun window wanted.job.begins_at wanted.job.mode wanted.job.attrs wanted.job.sync)
          (history wanted.local) earlier last r) is whole));
    }

ended_has : {F H : Type 0} (done : LocalAct → H → H) (history : F → H) (window : ℕ) (all : List (JobLeg H))
    (wanted : Wanted F) (job : CopyJob)
    (core after : Core) (s t : CopyState) (old new : F) (copied : Copied F) → job ≡ wanted.job → copied.local ≡ new
    → IsCopyingBy done history window all wanted old s
    → CopyStepDid done job core s after t (history old) (history new) (progress.Ended copied.result)
    → HasLegs done history window (step_leg history job core s old after t new (progress.Ended copied.result) ∷ all)
    wanted copied wanted.job.way
ended_has {H = H} done history window all wanted job core after (state.Get g) (state.Get k) old new copied is local so
    did =
    let result = progress.Ended copied.result in
    let leg : CopyStep FileGet H = record {
      core = core;
      old = g;
      before = history old;
      after = after;
      new = k;
      now =
          history new;
      result = result;
    } in
    let legs = step_leg history job core (state.Get g) old after (state.Get k) new result ∷ all in
    subst (λ (w : Direction). HasLegs done history window legs wanted copied w) (sym so.way_is)
    (whole_got done history window legs wanted copied so.earlier leg
    (record {
      legs = so.legs;
      follows = get_follows done history window all wanted job core after g k old new result so is did;
      ended = refl;
    })
    (ap history (sym local))
    (inl (
      ap (λ (j : CopyJob). step_leg history j core (state.Get g) old after (state.Get k) new result) (sym is),
      so.among,
    )))
ended_has {H = H} done history window all wanted job core after (state.Put p) (state.Put q) old new copied is local so
    did =
    let result = progress.Ended copied.result in
    let leg : CopyStep FilePut H = record {
      core = core;
      old = p;
      before = history old;
      after = after;
      new = q;
      now =
          history new;
      result = result;
    } in
    let legs = step_leg history job core (state.Put p) old after (state.Put q) new result ∷ all in
    subst (λ (w : Direction). HasLegs done history window legs wanted copied w) (sym so.way_is)
    (whole_put done history window legs wanted copied so.earlier leg
    (record {
      legs = so.legs;
      follows = put_follows done history window all wanted job core after p q old new result so is did;
      ended = refl;
    })
    (ap history (sym local))
    (inl (
      ap (λ (j : CopyJob). step_leg history j core (state.Put p) old after (state.Put q) new result) (sym is),
      so.among,
    )))
ended_has done history window all wanted job core after (state.Get g) (state.Put q) old new copied is local so never =
    absurd never
ended_has done history window all wanted job core after (state.Put p) (state.Get k) old new copied is local so never =
    absurd never

-- ---- what jobs do to them

pub ended_copies : {L S F H : Type 0} (state : L → LinkView S) (done : LocalAct → H → H) (history : F → H) (window : ℕ)
    (all : List (JobLeg H))
    (notes : List (JobNote F)) (old new : Working L F) (copied : Copied F)
    → AreCopies done history window all notes old.running
    → (ended : NextEnded state done history old new (Ok (Some copied)))
    → AreCopies done history window (ended_legs state done history old new copied ended ++ all)
    (notes ++ Over copied ∷ []) new.running
ended_copies {F = F} state done history window all notes old new copied c (n, last, worked, ends) =
    let were = worked_legs state done history n old last worked ++ all in
    let before = worked_copies state done history window all notes n old last c worked in
    let turn = ends.steps in
    let leg = leg_of history last.session.core turn.copy turn.mid turn.last (progress.Ended copied.result) in
    let allows : AllowsMore were (leg ∷ were) notes (notes ++ Over copied ∷ []) = record {
      legs = λ xs. among_one xs leg were;
      notes = λ note has. Contains-append_left notes (Over copied ∷ []) note has;
    } in
    let both = subst (λ (l : List (Running F)). AreUnderWay done history window were notes l) turn.first
    before.under_way in
    let first = both.0 in
    let later = more_under_way done history window were (leg ∷ were) notes (notes ++ Over copied ∷ []) turn.later allows
    both.1 in
    record {
      under_way = subst (λ (l : List (Running F)). AreUnderWay done history window (leg ∷ were)
          (notes ++ Over copied ∷ []) l) (sym turn.now) later;
      told = told_join (HasOwnLegs done history window (leg ∷ were) (notes ++ Over copied ∷ [])) notes
          (Over copied ∷ [])
          (more_told done history window were (leg ∷ were) notes (notes ++ Over copied ∷ []) notes allows before.told) (
            record {
              wanted = first.wanted;
              given = allows.notes (Given first.wanted) first.given;
              job = turn.ended.job ∙ (turn.goes.job ∙ first.job);
              copies = ended_has done history window were first.wanted turn.copy.job last.session.core turn.mid
                  turn.copy.state turn.last.state
                  turn.copy.local turn.last.local copied first.job turn.ended.local first.copying turn.goes.did;
            },
            tt,
          );
    }

begun_copying : {F H : Type 0} (done : LocalAct → H → H) (history : F → H) (window : ℕ) (all : List (JobLeg H))
    (wanted : Wanted F) (w : Direction)
    → wanted.job.way ≡ w
    → IsCopyingBy done history window all wanted wanted.local (copy_begun w window wanted.job)
begun_copying done history window all wanted way.Get is =
    record { earlier = []; legs = tt; stands = refl; now = refl; among = tt; way_is = is }
begun_copying done history window all wanted way.Put is =
    record { earlier = []; legs = tt; stands = refl; now = refl; among = tt; way_is = is }

pub begun_copies : {F H : Type 0} (done : LocalAct → H → H) (history : F → H) (window : ℕ) (all : List (JobLeg H))
    (notes : List (JobNote F))
    (copies : List (Running F)) (wanted : Wanted F) → AreCopies done history window all notes copies
    → AreCopies done history window all (notes ++ Given wanted ∷ [])
    (copies ++ record { job = wanted.job; local = wanted.local; state = job_begun wanted.job window } ∷ [])
begun_copies {F = F} done history window all notes copies wanted c =
    let begun : Running F = record { job = wanted.job; local = wanted.local; state = job_begun wanted.job window } in
    let told = notes ++ Given wanted ∷ [] in
    let allows : AllowsMore all all notes told = record {
      legs = λ xs are. are;
      notes = λ note has. Contains-append_left notes (Given wanted ∷ []) note has;
    } in
    record {
      under_way = under_way_last done history window all told copies begun
          (more_under_way done history window all all notes told copies allows c.under_way)
          (record {
            wanted = wanted;
            given = Contains-push notes (Given wanted);
            job = refl;
            copying = begun_copying done history window all wanted wanted.job.way refl;
          });
      told = told_join (HasOwnLegs done history window all told) notes (Given wanted ∷ [])
          (more_told done history window all all notes told notes allows c.told) tt;
    }

pub no_more_copies : {F H : Type 0} (done : LocalAct → H → H) (history : F → H) (window : ℕ) (all : List (JobLeg H))
    (notes : List (JobNote F))
    (copies : List (Running F)) → AreCopies done history window all notes copies
    → AreCopies done history window all (notes ++ NoMore ∷ []) copies
no_more_copies done history window all notes copies c =
    let told = notes ++ NoMore ∷ [] in
    let allows : AllowsMore all all notes told = record {
      legs = λ xs are. are;
      notes = λ note has. Contains-append_left notes (NoMore ∷ []) note has;
    } in
    record {
      under_way = more_under_way done history window all all notes told copies allows c.under_way;
      told = told_join (HasOwnLegs done history window all told) notes (NoMore ∷ [])
          (more_told done history window all all notes told notes allows c.told) tt;
    }
