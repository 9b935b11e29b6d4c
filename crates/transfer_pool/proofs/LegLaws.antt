-- Steps of copies in progress.
use Rattle.std.proofs.Common.{◌≡◌, inl, inr, ℕ, zero, suc, List, [], ◌∷◌, ◌++◌, refl, sym, ap, ◌∙◌, subst}
use Rattle.std.specs.List.{Contains}
use Rattle.std.specs.String.{string_bytes}
use Rattle.sftp_core.specs.Core.{Core}
use Rattle.sftp_link.specs.Views.{LinkView}
use Rattle.transfer_copy.specs.Local.{LocalAct}
use Rattle.transfer_copy.specs.declared.get.FileGet.{FileGet}
use Rattle.transfer_copy.specs.declared.progress.Progress.{Progress}
use Rattle.transfer_copy.specs.declared.progress.Progress.TheVariants as progress
use Rattle.transfer_copy.specs.declared.put.FilePut.{FilePut}
use Rattle.transfer_copy.specs.Gets.{get_begun}
use Rattle.transfer_copy.specs.Legs.{AreLegs, FollowsSteps, HasGoneOn, CopyStep, history_behind, state_behind}
use Rattle.transfer_copy.specs.Puts.{put_begun}
use Rattle.transfer_copy.specs.WholeGets.{IsGetLeg}
use Rattle.transfer_copy.specs.WholePuts.{IsPutLeg}
use Rattle.transfer_pool.specs.declared.jobs.Wanted.{Wanted}
use Rattle.transfer_pool.specs.declared.copy_job.Copied.{Copied}
use Rattle.transfer_pool.specs.declared.copy_job.CopyJob.{CopyJob}
use Rattle.transfer_pool.specs.declared.copy_job.CopyState.{CopyState}
use Rattle.transfer_pool.specs.declared.copy_job.CopyState.TheVariants as state
use Rattle.transfer_pool.specs.declared.copy_job.Running.{Running}
use Rattle.transfer_args.specs.declared.asked.Direction.{Direction}
use Rattle.transfer_args.specs.declared.asked.Direction.TheVariants as way
use Rattle.transfer_pool.specs.Copies.{CopyStepDid, TakesTurn, WorkedOn, Working}
use Rattle.transfer_pool.specs.CopyLegs.{AreInOrderAmong, HasLegs, HasOwnLegs, JobLeg, leg_of, legs_of, worked_legs}
use Rattle.transfer_pool.specs.Jobs.{Given, JobNote, NoMore, Over}
use Rattle.transfer_pool.specs.Told.{AreCopiesTold}

-- ---- more legs, and more notes

pub among_one : {X : Type 0} (xs : List X) (y : X) (all : List X) → AreInOrderAmong xs all
    → AreInOrderAmong xs (y ∷ all)
among_one [] y all are = tt
among_one (x ∷ xs) y all are = inr are

-- what is in order among these legs is so among those, and what is among these notes is among those
pub record AllowsMore {F H : Type 0} (all more : List (JobLeg H)) (had told : List (JobNote F)) : Type 0 where
  pub legs : (xs : List (JobLeg H)) → AreInOrderAmong xs all → AreInOrderAmong xs more
  pub notes : (note : JobNote F) → Contains had note → Contains told note

-- ---- one copy under way

-- its legs so far are among all
pub record IsGettingBy {F H : Type 0} (done : LocalAct → H → H) (history : F → H) (window : ℕ) (all : List (JobLeg H))
    (wanted : Wanted F)
    (local : F) (g : FileGet) : Type 0 where
  pub earlier : List (CopyStep FileGet H)
  pub legs : AreLegs (IsGetLeg done (string_bytes wanted.job.from) (string_bytes wanted.job.part)
      (string_bytes wanted.job.to))
      (get_begun window wanted.job.begins_at wanted.job.sync) (history wanted.local) earlier
  pub stands : g ≡ state_behind (get_begun window wanted.job.begins_at wanted.job.sync) earlier
  pub now : history local ≡ history_behind (history wanted.local) earlier
  pub among : AreInOrderAmong (legs_of state.Get wanted.job earlier) all
  pub way_is : wanted.job.way ≡ way.Get

pub record IsPuttingBy {F H : Type 0} (done : LocalAct → H → H) (history : F → H) (window : ℕ) (all : List (JobLeg H))
    (wanted : Wanted F)
    (local : F) (p : FilePut) : Type 0 where
  pub earlier : List (CopyStep FilePut H)
  pub legs : AreLegs (IsPutLeg done (string_bytes wanted.job.from) (string_bytes wanted.job.part)
      (string_bytes wanted.job.to))
      (put_begun window wanted.job.begins_at wanted.job.mode wanted.job.attrs wanted.job.sync) (history wanted.local)
      earlier
  pub stands : p ≡ state_behind (put_begun window wanted.job.begins_at wanted.job.mode wanted.job.attrs
      wanted.job.sync) earlier
  pub now : history local ≡ history_behind (history wanted.local) earlier
  pub among : AreInOrderAmong (legs_of state.Put wanted.job earlier) all
  pub way_is : wanted.job.way ≡ way.Put

abbrev pub IsCopyingBy : {F H : Type 0} → (LocalAct → H → H) → (F → H) → ℕ → List (JobLeg H) → Wanted F → F → CopyState
    → Type 0
IsCopyingBy done history window all wanted local (state.Get g) = IsGettingBy done history window all wanted local g
IsCopyingBy done history window all wanted local (state.Put p) = IsPuttingBy done history window all wanted local p

pub record IsUnderWay {F H : Type 0} (done : LocalAct → H → H) (history : F → H) (window : ℕ) (all : List (JobLeg H))
    (notes : List (JobNote F)) (r : Running F) : Type 0 where
  pub wanted : Wanted F
  pub given : Contains notes (Given wanted)
  pub job : r.job ≡ wanted.job
  pub copying : IsCopyingBy done history window all wanted r.local r.state

abbrev pub AreUnderWay : {F H : Type 0} → (LocalAct → H → H) → (F → H) → ℕ → List (JobLeg H) → List (JobNote F)
    → List (Running F) → Type 0
AreUnderWay done history window all notes [] = Unit {0}
AreUnderWay done history window all notes (r ∷ later) = IsUnderWay done history window all notes r
    × AreUnderWay done history window all notes later

-- ---- they stay behind more legs and notes

more_copying : {F H : Type 0} (done : LocalAct → H → H) (history : F → H) (window : ℕ) (all more : List (JobLeg H))
    (wanted : Wanted F) (local : F)
    (s : CopyState) → ((xs : List (JobLeg H)) → AreInOrderAmong xs all → AreInOrderAmong xs more)
    → IsCopyingBy done history window all wanted local s → IsCopyingBy done history window more wanted local s
more_copying done history window all more wanted local (state.Get g) allows so = record {
  earlier = so.earlier;
  legs = so.legs;
  stands = so.stands;
  now = so.now;
  among = allows (legs_of state.Get wanted.job so.earlier) so.among;
  way_is = so.way_is;
}
more_copying done history window all more wanted local (state.Put p) allows so = record {
  earlier = so.earlier;
  legs = so.legs;
  stands = so.stands;
  now = so.now;
  among = allows (legs_of state.Put wanted.job so.earlier) so.among;
  way_is = so.way_is;
}

pub more_under_way : {F H : Type 0} (done : LocalAct → H → H) (history : F → H) (window : ℕ)
    (all more : List (JobLeg H)) (notes told : List (JobNote F))
    (copies : List (Running F)) → AllowsMore all more notes told → AreUnderWay done history window all notes copies
    → AreUnderWay done history window more told copies
more_under_way done history window all more notes told [] allows are = tt
more_under_way done history window all more notes told (r ∷ later) allows (here, are) = (
  record {
    wanted = here.wanted;
    given = allows.notes (Given here.wanted) here.given;
    job = here.job;
    copying = more_copying done history window all more here.wanted r.local r.state allows.legs here.copying;
  },
  more_under_way done history window all more notes told later allows are,
)

more_legs : {F H : Type 0} (done : LocalAct → H → H) (history : F → H) (window : ℕ) (all more : List (JobLeg H))
    (wanted : Wanted F)
    (copied : Copied F) (w : Direction) → ((xs : List (JobLeg H)) → AreInOrderAmong xs all → AreInOrderAmong xs more)
    → HasLegs done history window all wanted copied w → HasLegs done history window more wanted copied w
more_legs done history window all more wanted copied way.Get allows so = record {
  earlier = so.earlier;
  last = so.last;
  whole = so.whole;
  told = so.told;
  among = allows (legs_of state.Get wanted.job (so.last ∷ so.earlier)) so.among;
  got = so.got;
}
more_legs done history window all more wanted copied way.Put allows so = record {
  earlier = so.earlier;
  last = so.last;
  whole = so.whole;
  told = so.told;
  among = allows (legs_of state.Put wanted.job (so.last ∷ so.earlier)) so.among;
  sent = so.sent;
}

pub more_told : {F H : Type 0} (done : LocalAct → H → H) (history : F → H) (window : ℕ) (all more : List (JobLeg H))
    (notes told those : List (JobNote F))
    → AllowsMore all more notes told → AreCopiesTold (HasOwnLegs done history window all notes) those
    → AreCopiesTold (HasOwnLegs done history window more told) those
more_told done history window all more notes told [] allows are = tt
more_told done history window all more notes told (Over copied ∷ later) allows (here, are) = (
  record {
    wanted = here.wanted;
    given = allows.notes (Given here.wanted) here.given;
    job = here.job;
    copies = more_legs done history window all more here.wanted copied here.wanted.job.way allows.legs here.copies;
  },
  more_told done history window all more notes told later allows are,
)
more_told done history window all more notes told (Given wanted ∷ later) allows are =
    more_told done history window all more notes told later allows are
more_told done history window all more notes told (NoMore ∷ later) allows are =
    more_told done history window all more notes told later allows are

pub told_join : {F : Type 0} (Holds : Copied F → Type 0) (xs ys : List (JobNote F)) → AreCopiesTold Holds xs
    → AreCopiesTold Holds ys
    → AreCopiesTold Holds (xs ++ ys)
told_join Holds [] ys x y = y
told_join Holds (Over copied ∷ xs) ys (here, x) y = (here, told_join Holds xs ys x y)
told_join Holds (Given wanted ∷ xs) ys x y = told_join Holds xs ys x y
told_join Holds (NoMore ∷ xs) ys x y = told_join Holds xs ys x y

pub under_way_last : {F H : Type 0} (done : LocalAct → H → H) (history : F → H) (window : ℕ) (all : List (JobLeg H))
    (notes : List (JobNote F))
    (copies : List (Running F)) (r : Running F) → AreUnderWay done history window all notes copies
    → IsUnderWay done history window all notes r
    → AreUnderWay done history window all notes (copies ++ r ∷ [])
under_way_last done history window all notes [] r are last = (last, tt)
under_way_last done history window all notes (first ∷ later) r (here, are) last =
    (here, under_way_last done history window all notes later r are last)

-- ---- a step of one copy

pub get_follows : {F H : Type 0} (done : LocalAct → H → H) (history : F → H) (window : ℕ) (all : List (JobLeg H))
    (wanted : Wanted F) (job : CopyJob)
    (core after : Core) (g k : FileGet) (old new : F) (result : Progress)
    (so : IsGettingBy done history window all wanted old g)
    → job ≡ wanted.job → CopyStepDid done job core (state.Get g) after (state.Get k) (history old) (history new) result
    → FollowsSteps (IsGetLeg done (string_bytes wanted.job.from) (string_bytes wanted.job.part)
    (string_bytes wanted.job.to))
    (get_begun window wanted.job.begins_at wanted.job.sync) (history wanted.local) so.earlier
    (record { core = core; old = g; before = history old; after = after; new = k; now = history new; result = result })
get_follows done history window all wanted job core after g k old new result so is did = record {
  did = subst (λ (j : CopyJob). CopyStepDid done j core (state.Get g) after (state.Get k) (history old) (history new)
      result) is did;
  stood = so.stands;
  done = so.now;
}

pub put_follows : {F H : Type 0} (done : LocalAct → H → H) (history : F → H) (window : ℕ) (all : List (JobLeg H))
    (wanted : Wanted F) (job : CopyJob)
    (core after : Core) (p q : FilePut) (old new : F) (result : Progress)
    (so : IsPuttingBy done history window all wanted old p)
    → job ≡ wanted.job → CopyStepDid done job core (state.Put p) after (state.Put q) (history old) (history new) result
    → FollowsSteps (IsPutLeg done (string_bytes wanted.job.from) (string_bytes wanted.job.part)
    (string_bytes wanted.job.to))
    (put_begun window wanted.job.begins_at wanted.job.mode wanted.job.attrs wanted.job.sync) (history wanted.local)
    so.earlier
    (record { core = core; old = p; before = history old; after = after; new = q; now = history new; result = result })
put_follows done history window all wanted job core after p q old new result so is did = record {
  did = subst (λ (j : CopyJob). CopyStepDid done j core (state.Put p) after (state.Put q) (history old) (history new)
      result) is did;
  stood = so.stands;
  done = so.now;
}

-- the leg that a step made
abbrev pub step_leg : {F H : Type 0} → (F → H) → CopyJob → Core → CopyState → F → Core → CopyState → F → Progress
    → JobLeg H
step_leg history job core old before after new now result =
    record {
      job = job;
      leg = record {
        core = core;
        old = old;
        before = history before;
        after = after;
        new = new;
        now = history now;
        result = result;
      };
    }

-- it goes on
step_copying : {F H : Type 0} (done : LocalAct → H → H) (history : F → H) (window : ℕ) (all : List (JobLeg H))
    (wanted : Wanted F) (job : CopyJob)
    (core after : Core) (s t : CopyState) (old new : F) (result : Progress) → HasGoneOn result → job ≡ wanted.job
    → IsCopyingBy done history window all wanted old s → CopyStepDid done job core s after t (history old) (history new)
    result
    → IsCopyingBy done history window (step_leg history job core s old after t new result ∷ all) wanted new t
step_copying done history window all wanted job core after (state.Get g) (state.Get k) old new result going is so did =
    record {
      earlier = record {
        core = core;
        old = g;
        before = history old;
        after = after;
        new = k;
        now = history new;
        result =
            result;
      } ∷ so.earlier;
      legs = (get_follows done history window all wanted job core after g k old new result so is did, going, so.legs);
      stands = refl;
      now = refl;
      among = inl (
        ap (λ (j : CopyJob). step_leg history j core (state.Get g) old after (state.Get k) new result) (sym is),
        so.among,
      );
      way_is = so.way_is;
    }
step_copying done history window all wanted job core after (state.Put p) (state.Put q) old new result going is so did =
    record {
      earlier = record {
        core = core;
        old = p;
        before = history old;
        after = after;
        new = q;
        now = history new;
        result =
            result;
      } ∷ so.earlier;
      legs = (put_follows done history window all wanted job core after p q old new result so is did, going, so.legs);
      stands = refl;
      now = refl;
      among = inl (
        ap (λ (j : CopyJob). step_leg history j core (state.Put p) old after (state.Put q) new result) (sym is),
        so.among,
      );
      way_is = so.way_is;
    }
step_copying done history window all wanted job core after (state.Get g) (state.Put q) old new result going is so never
    = absurd never
step_copying done history window all wanted job core after (state.Put p) (state.Get k) old new result going is so never
    = absurd never

turn_under_way : {F H : Type 0} (done : LocalAct → H → H) (history : F → H) (window : ℕ) (all : List (JobLeg H))
    (notes : List (JobNote F))
    (core after : Core) (old new : List (Running F)) (result : Progress) → HasGoneOn result
    → AreUnderWay done history window all notes old
    → (takes : TakesTurn done history core old after new result)
    → AreUnderWay done history window (leg_of history core takes.copy after takes.next result ∷ all) notes new
turn_under_way {F = F} done history window all notes core after old new result going are takes =
    let leg = leg_of history core takes.copy after takes.next result in
    let both = subst (λ (l : List (Running F)). AreUnderWay done history window all notes l) takes.first are in
    let first = both.0 in
    let next : IsUnderWay done history window (leg ∷ all) notes takes.next = record {
      wanted = first.wanted;
      given = first.given;
      job = takes.goes.job ∙ first.job;
      copying = step_copying done history window all first.wanted takes.copy.job core after takes.copy.state
          takes.next.state takes.copy.local
          takes.next.local result going first.job first.copying takes.goes.did;
    } in
    let later = more_under_way done history window all (leg ∷ all) notes notes takes.later
    (record { legs = λ xs. among_one xs leg all; notes = λ note has. has }) both.1 in
    subst (λ (l : List (Running F)). AreUnderWay done history window (leg ∷ all) notes l) (sym takes.now)
    (under_way_last done history window (leg ∷ all) notes takes.later takes.next later next)

-- ---- what is kept

pub record AreCopies {F H : Type 0} (done : LocalAct → H → H) (history : F → H) (window : ℕ) (all : List (JobLeg H))
    (notes : List (JobNote F)) (copies : List (Running F)) : Type 0 where
  pub under_way : AreUnderWay done history window all notes copies
  pub told : AreCopiesTold (HasOwnLegs done history window all notes) notes

turn_copies : {F H : Type 0} (done : LocalAct → H → H) (history : F → H) (window : ℕ) (all : List (JobLeg H))
    (notes : List (JobNote F))
    (core after : Core) (old new : List (Running F)) (result : Progress) → HasGoneOn result
    → AreCopies done history window all notes old
    → (takes : TakesTurn done history core old after new result)
    → AreCopies done history window (leg_of history core takes.copy after takes.next result ∷ all) notes new
turn_copies done history window all notes core after old new result going c takes =
    let leg = leg_of history core takes.copy after takes.next result in
    record {
      under_way = turn_under_way done history window all notes core after old new result going c.under_way takes;
      told = more_told done history window all (leg ∷ all) notes notes notes
          (record { legs = λ xs. among_one xs leg all; notes = λ note has. has }) c.told;
    }

pub worked_copies : {L S F H : Type 0} (state : L → LinkView S) (done : LocalAct → H → H) (history : F → H) (window : ℕ)
    (all : List (JobLeg H))
    (notes : List (JobNote F)) (n : ℕ) (old new : Working L F) → AreCopies done history window all notes old.running
    → (worked : WorkedOn state done history n old new)
    → AreCopies done history window (worked_legs state done history n old new worked ++ all) notes new.running
worked_copies {L = L} {F = F} state done history window all notes zero old new c same =
    subst (λ (w : Working L F). AreCopies done history window all notes w.running) (sym same) c
worked_copies state done history window all notes (suc n) old new c (mid, earlier, inl s) =
    turn_copies done history window (worked_legs state done history n old mid earlier ++ all) notes mid.session.core
    new.session.core mid.running
    new.running progress.Waits tt (worked_copies state done history window all notes n old mid c earlier) s.steps
worked_copies state done history window all notes (suc n) old new c (mid, earlier, inr (inl s)) =
    turn_copies done history window (worked_legs state done history n old mid earlier ++ all) notes mid.session.core
    new.session.core mid.running
    new.running progress.Moved tt (worked_copies state done history window all notes n old mid c earlier) s.steps
worked_copies {F = F} state done history window all notes (suc n) old new c (mid, earlier, inr (inr t)) =
    subst (λ (l : List (Running F)). AreCopies done history window
    (worked_legs state done history n old mid earlier ++ all) notes l) (sym t.same)
    (worked_copies state done history window all notes n old mid c earlier)
