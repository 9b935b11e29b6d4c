-- A list of files that are copied, so many at once.
use Rattle.std.proofs.Common.{
  ◌≡◌,
  inl,
  inr,
  ◌<◌,
  ◌-◌,
  ◌^◌,
  ℕ,
  zero,
  suc,
  ◌+◌,
  Bool,
  true,
  false,
  List,
  [],
  ◌∷◌,
  ◌++◌,
  length,
  refl,
  sym,
  ap,
  ◌∙◌,
  subst,
  arith,
  Some,
  None,
}
use Rattle.std.specs.Prelude.{IsSome, Result, Ok, Err}
use Rattle.std.proofs.lemmas.List.{nil_from_length}
use Rattle.sftp_core.specs.declared.handshake.Handshake.{Handshake}
use Rattle.sftp_core.specs.Info.{info_of}
use Rattle.sftp_link.specs.Views.{LinkView}
use Rattle.sftp_client.specs.Sessions.{SftpValue, with_core}
use Rattle.transfer_copy.specs.declared.copy_error.CopyError.{CopyError}
use Rattle.transfer_copy.specs.Local.{LocalAct}
use Rattle.transfer_pool.specs.declared.jobs.Beginning.TheVariants as beginning
use Rattle.transfer_pool.specs.declared.jobs.JobTurn.TheVariants as turn
use Rattle.transfer_pool.specs.declared.jobs.Telling.TheVariants as telling
use Rattle.transfer_pool.specs.declared.jobs.Wanted.{Wanted}
use Rattle.transfer_pool.specs.declared.copy_job.Copied.{Copied}
use Rattle.transfer_pool.specs.declared.copy_job.CopyJob.{CopyJob}
use Rattle.transfer_pool.specs.declared.copy_job.Running.{Running}
use Rattle.transfer_pool.specs.Copies.{AreTogether, CopierValue, NextEnded, SparesAll, WorkedOn, Working, WorksOnce, job_begun}
use Rattle.transfer_pool.specs.Jobs.{
  BeginsJob,
  BeginsOrNot,
  Given,
  JobNote,
  JobSteps,
  JobTurned,
  Jobs,
  JobsDone,
  NoMore,
  NotesUnbegun,
  Over,
  TellsNext,
  TellsOne,
  all_noted,
  given_in,
  jobs_at,
  one_if,
  over_in,
  with_copy,
  working_in,
}
use Rattle.transfer_pool.specs.CopyLegs.{HasOwnLegs, JobLeg, ended_legs, jobs_legs}
use Rattle.transfer_pool.specs.Sessions.{IsGoing}
use Rattle.transfer_pool.specs.Told.{AreNoted, CopiesAll}
use Rattle.transfer_pool.proofs.LegLaws.{AreCopies}
use Rattle.transfer_pool.proofs.EndedCopies.{begun_copies, ended_copies, no_more_copies}

-- ---- how many copies there are

pub length_last : {F : Type 0} (l : List (Running F)) (x : Running F) → length (l ++ x ∷ []) ≡ length l + 1
length_last [] x = refl
length_last (y ∷ l) x = (let e = length_last l x in omega (arith, e))

sum_is : (a b c : ℕ) → a ≡ suc c → b ≡ c + 1 → b ≡ a
sum_is a b c x y = omega (arith, x, y)

worked_once : {L S F H : Type 0} (state : L → LinkView S) (done : LocalAct → H → H) (history : F → H)
    (old new : Working L F)
    → WorksOnce state done history old new → length new.running ≡ length old.running
worked_once state done history old new (inl s) =
    sum_is (length old.running) (length new.running) (length s.steps.later) (ap length s.steps.first)
    (ap length s.steps.now ∙ length_last s.steps.later s.steps.next)
worked_once state done history old new (inr (inl s)) =
    sum_is (length old.running) (length new.running) (length s.steps.later) (ap length s.steps.first)
    (ap length s.steps.now ∙ length_last s.steps.later s.steps.next)
worked_once state done history old new (inr (inr t)) = ap length t.same

worked_length : {L S F H : Type 0} (state : L → LinkView S) (done : LocalAct → H → H) (history : F → H) (n : ℕ)
    (old new : Working L F)
    → WorkedOn state done history n old new → length new.running ≡ length old.running
worked_length {L = L} {F = F} state done history zero old new same = ap (λ (w : Working L F). length w.running) same
worked_length state done history (suc n) old new (mid, earlier, works) =
    worked_once state done history mid new works ∙ worked_length state done history n old mid earlier

pub idle_none : {L S F H : Type 0} (state : L → LinkView S) (done : LocalAct → H → H) (history : F → H)
    (old new : Working L F)
    → NextEnded state done history old new (Ok None) → (old.running ≡ []) × (new.running ≡ [])
idle_none state done history old new (n, last, worked, step) = (
  nil_from_length old.running (sym (worked_length state done history n old last worked) ∙ ap length step.steps.0),
  step.steps.1,
)

-- ---- how many of these pass a test

abbrev running_in : {F : Type 0} → (CopyJob → Bool) → List (Running F) → ℕ
running_in test [] = 0
running_in test (r ∷ later) = one_if (test r.job) + running_in test later

running_last : {F : Type 0} (test : CopyJob → Bool) (l : List (Running F)) (x : Running F)
    → running_in test (l ++ x ∷ []) ≡ running_in test l + one_if (test x.job)
running_last test [] x = omega (arith)
running_last test (y ∷ l) x = (let e = running_last test l x in omega (arith, e))

sum_turned : (old new first later now : ℕ) → old ≡ first + later → new ≡ later + now → now ≡ first → new ≡ old
sum_turned old new first later now x y z = omega (arith, x, y, z)

counted_once : {L S F H : Type 0} (state : L → LinkView S) (done : LocalAct → H → H) (history : F → H)
    (test : CopyJob → Bool)
    (old new : Working L F) → WorksOnce state done history old new → running_in test new.running
    ≡ running_in test old.running
counted_once state done history test old new (inl s) =
    sum_turned (running_in test old.running) (running_in test new.running) (one_if (test s.steps.copy.job))
    (running_in test s.steps.later)
    (one_if (test s.steps.next.job)) (ap (running_in test) s.steps.first)
    (ap (running_in test) s.steps.now ∙ running_last test s.steps.later s.steps.next)
    (ap (λ (j : CopyJob). one_if (test j)) s.steps.goes.job)
counted_once state done history test old new (inr (inl s)) =
    sum_turned (running_in test old.running) (running_in test new.running) (one_if (test s.steps.copy.job))
    (running_in test s.steps.later)
    (one_if (test s.steps.next.job)) (ap (running_in test) s.steps.first)
    (ap (running_in test) s.steps.now ∙ running_last test s.steps.later s.steps.next)
    (ap (λ (j : CopyJob). one_if (test j)) s.steps.goes.job)
counted_once state done history test old new (inr (inr t)) = ap (running_in test) t.same

counted : {L S F H : Type 0} (state : L → LinkView S) (done : LocalAct → H → H) (history : F → H)
    (test : CopyJob → Bool) (n : ℕ)
    (old new : Working L F) → WorkedOn state done history n old new → running_in test new.running
    ≡ running_in test old.running
counted {L = L} {F = F} state done history test zero old new same =
    ap (λ (w : Working L F). running_in test w.running) same
counted state done history test (suc n) old new (mid, earlier, works) =
    counted_once state done history test mid new works ∙ counted state done history test n old mid earlier

ended_counted : {L S F H : Type 0} (state : L → LinkView S) (done : LocalAct → H → H) (history : F → H)
    (test : CopyJob → Bool)
    (old new : Working L F) (copied : Copied F) → NextEnded state done history old new (Ok (Some copied))
    → running_in test old.running ≡ one_if (test copied.job) + running_in test new.running
ended_counted {F = F} state done history test old new copied (n, last, worked, step) =
    let job : step.steps.copy.job ≡ copied.job = sym step.steps.goes.job ∙ sym step.steps.ended.job in
    sym (counted state done history test n old last worked)
    ∙ (ap (running_in test) step.steps.first
    ∙ (ap (λ (j : CopyJob). one_if (test j) + running_in test step.steps.later) job
    ∙ ap (λ (l : List (Running F)). one_if (test copied.job) + running_in test l) (sym step.steps.now)))

-- ---- so far

pub record JobsSoFar {L S F H N : Type 0} (state : L → LinkView S) (done : LocalAct → H → H) (history : F → H)
    (noted : JobNote F → N → N) (window most : ℕ) (first now : Jobs L F N) : Type 0 where
  pub steps : ℕ
  pub run : JobSteps state done history noted window most steps first now
  pub going : IsGoing state now.session
  pub together : AreTogether now.session.core now.running

pub jobs_first : {L S F H N : Type 0} (state : L → LinkView S) (done : LocalAct → H → H) (history : F → H)
    (noted : JobNote F → N → N)
    (window most : ℕ) (first : Jobs L F N) → IsGoing state first.session → AreTogether first.session.core first.running
    → JobsSoFar state done history noted window most first first
jobs_first state done history noted window most first going together =
    record { steps = 0; run = refl; going = going; together = together }

-- a copy was begun where there was room
pub turn_begun : {L S F H N : Type 0} (state : L → LinkView S) (done : LocalAct → H → H) (history : F → H)
    (noted : JobNote F → N → N)
    (window most : ℕ) (now : Jobs L F N) (running : List (Running F)) (after : N)
    → IsGoing state now.session → AreTogether now.session.core now.running → now.more ≡ true → length now.running < most
    → BeginsJob noted window (record { running = now.running }) (record { running = running }) now.notes after
    beginning.Begun
    → JobTurned state done history noted window most now now.session running after (turn.On true)
turn_begun {L = L} {F = F} {N = N} state done history noted window most now running after going together more few
    (wanted, is, told, joins) =
    let running_is : running ≡ with_copy now.running wanted window = ap (λ (c : CopierValue F). c.running) is in
    record {
      going = going;
      together = joins now.session.core going.opened together;
      did = inl (
        more,
        few,
        inl (
          wanted,
          (λ i. record now {
            running = running_is i;
            more = sym more i;
            notes =
                told i;
          }),
        ),
      );
    }

pub turn_no_more : {L S F H N : Type 0} (state : L → LinkView S) (done : LocalAct → H → H) (history : F → H)
    (noted : JobNote F → N → N)
    (window most : ℕ) (now : Jobs L F N) (running : List (Running F)) (after : N)
    → IsGoing state now.session → AreTogether now.session.core now.running → now.more ≡ true → length now.running < most
    → BeginsJob noted window (record { running = now.running }) (record { running = running }) now.notes after
    beginning.NoJob
    → JobTurned state done history noted window most now now.session running after (turn.On false)
turn_no_more {L = L} {F = F} {N = N} state done history noted window most now running after going together more few
    (is, told) =
    let same : running ≡ now.running = ap (λ (c : CopierValue F). c.running) is in
    record {
      going = going;
      together = subst (λ (l : List (Running F)). AreTogether now.session.core l) (sym same) together;
      did = inl (more, few, inr (λ i. record now { running = same i; more = false; notes = told i }));
    }

pub turn_short : {L S F H N : Type 0} (state : L → LinkView S) (done : LocalAct → H → H) (history : F → H)
    (noted : JobNote F → N → N)
    (window most : ℕ) (now : Jobs L F N) (running : List (Running F)) (after : N) (e : CopyError)
    → IsGoing state now.session → AreTogether now.session.core now.running
    → BeginsJob noted window (record { running = now.running }) (record { running = running }) now.notes after
    beginning.Short
    → JobTurned state done history noted window most now now.session running after (turn.Stopped e)
turn_short {F = F} state done history noted window most now running after e going together (is, unbegun) = record {
  going = going;
  together = subst (λ (l : List (Running F)). AreTogether now.session.core l)
      (sym (ap (λ (c : CopierValue F). c.running) is)) together;
  did = inr unbegun;
}

-- what came of a copy was told
pub turn_told : {L S F H N : Type 0} (state : L → LinkView S) (done : LocalAct → H → H) (history : F → H)
    (noted : JobNote F → N → N)
    (window most : ℕ) (now : Jobs L F N) (session : SftpValue L) (running : List (Running F)) (after : N) (more : Bool)
    → more ≡ now.more
    → TellsNext state done history noted (working_in now) (record { session = session; running = running }) now.notes
    after telling.Told
    → JobTurned state done history noted window most now session running after (turn.On more)
turn_told state done history noted window most now session running after more same tells = record {
  going = tells.going;
  together = tells.together;
  did = inr (record { copied = tells.did.0; ended = tells.did.1; more = same; told = tells.did.2 });
}

pub turn_over : {L S F H N : Type 0} (state : L → LinkView S) (done : LocalAct → H → H) (history : F → H)
    (noted : JobNote F → N → N)
    (window most : ℕ) (now : Jobs L F N) (session : SftpValue L) (running : List (Running F)) (after : N)
    → TellsNext state done history noted (working_in now) (record { session = session; running = running }) now.notes
    after telling.NoCopy
    → (now.more ≡ true → length now.running < most → ⊥)
    → JobTurned state done history noted window most now session running after turn.Over
turn_over state done history noted window most now session running after tells full =
    record { going = tells.going; together = tells.together; did = (tells.did.0, full, tells.did.1) }

pub turn_failed : {L S F H N : Type 0} (state : L → LinkView S) (done : LocalAct → H → H) (history : F → H)
    (noted : JobNote F → N → N)
    (window most : ℕ) (now : Jobs L F N) (session : SftpValue L) (running : List (Running F)) (after : N)
    (e x : CopyError)
    → TellsNext state done history noted (working_in now) (record { session = session; running = running }) now.notes
    after (telling.Failed e)
    → JobTurned state done history noted window most now session running after (turn.Stopped x)
turn_failed state done history noted window most now session running after e x tells =
    record { going = tells.going; together = tells.together; did = inl tells.did }

pub jobs_on : {L S F H N : Type 0} (state : L → LinkView S) (done : LocalAct → H → H) (history : F → H)
    (noted : JobNote F → N → N)
    (window most : ℕ) (first now : Jobs L F N) (session : SftpValue L) (running : List (Running F)) (notes : N)
    (more : Bool)
    → JobsSoFar state done history noted window most first now
    → JobTurned state done history noted window most now session running notes (turn.On more)
    → JobsSoFar state done history noted window most first
    (record { session = session; running = running; more = more; notes = notes })
jobs_on state done history noted window most first now session running notes more w t =
    record { steps = suc w.steps; run = (now, w.run, t.did); going = t.going; together = t.together }

one_fits : (n most : ℕ) (more : Bool) → n ≡ 0 → 0 < most → (more ≡ true → n < most → ⊥) → more ≡ false
one_fits n most true none some full = absurd (full refl (omega (arith, none, some)))
one_fits n most false none some full = refl

pub jobs_done : {L S F H N : Type 0} (state : L → LinkView S) (done : LocalAct → H → H) (history : F → H)
    (noted : JobNote F → N → N)
    (window most : ℕ) (first now : Jobs L F N) (session : SftpValue L) (running : List (Running F)) (notes : N)
    → JobsSoFar state done history noted window most first now → 0 < most
    → JobTurned state done history noted window most now session running notes turn.Over
    → JobsDone state done history noted window most first session running notes (Ok tt)
jobs_done state done history noted window most first now session running notes w some t =
    let none = idle_none state done history (working_in now) (record { session = session; running = running }) t.did.0
    in (
      w.steps,
      now,
      w.run,
      one_fits (length now.running) most now.more (ap length none.0) some t.did.1,
      none.0,
      none.1,
      t.did.2,
    )

pub jobs_stopped : {L S F H N : Type 0} (state : L → LinkView S) (done : LocalAct → H → H) (history : F → H)
    (noted : JobNote F → N → N)
    (window most : ℕ) (first now : Jobs L F N) (session : SftpValue L) (running : List (Running F)) (notes : N)
    (e x : CopyError)
    → JobsSoFar state done history noted window most first now
    → JobTurned state done history noted window most now session running notes (turn.Stopped e)
    → JobsDone state done history noted window most first session running notes (Err x)
jobs_stopped state done history noted window most first now session running notes e x w t = (w.steps, now, w.run, t.did)

pub jobs_too_long : {L S F H N : Type 0} (state : L → LinkView S) (done : LocalAct → H → H) (history : F → H)
    (noted : JobNote F → N → N)
    (window most : ℕ) (first now : Jobs L F N) (x : CopyError)
    → JobsSoFar state done history noted window most first now
    → JobsDone state done history noted window most first now.session now.running now.notes (Err x)
jobs_too_long state done history noted window most first now x w = (w.steps, now, w.run, inl refl)

-- ---- what was told is what was given

-- and each copy that was told has its legs among these
pub record IsTold {L F H N : Type 0} (done : LocalAct → H → H) (history : F → H) (noted : JobNote F → N → N)
    (window : ℕ)
    (legs : List (JobLeg H)) (first now : Jobs L F N) : Type 0 where
  pub notes : List (JobNote F)
  pub told : now.notes ≡ all_noted noted notes first.notes
  pub count : (test : CopyJob → Bool) → given_in test notes ≡ over_in test notes + running_in test now.running
  pub copies : AreCopies done history window legs notes now.running

noted_last : {F N : Type 0} (noted : JobNote F → N → N) (notes : List (JobNote F)) (note : JobNote F) (n : N)
    → all_noted noted (notes ++ note ∷ []) n ≡ noted note (all_noted noted notes n)
noted_last noted [] note n = refl
noted_last noted (first ∷ later) note n = noted_last noted later note (noted first n)

given_join : {F : Type 0} (test : CopyJob → Bool) (xs ys : List (JobNote F))
    → given_in test (xs ++ ys) ≡ given_in test xs + given_in test ys
given_join test [] ys = omega (arith)
given_join test (Given w ∷ xs) ys = (let e = given_join test xs ys in omega (arith, e))
given_join test (NoMore ∷ xs) ys = given_join test xs ys
given_join test (Over c ∷ xs) ys = given_join test xs ys

over_join : {F : Type 0} (test : CopyJob → Bool) (xs ys : List (JobNote F))
    → over_in test (xs ++ ys) ≡ over_in test xs + over_in test ys
over_join test [] ys = omega (arith)
over_join test (Given w ∷ xs) ys = over_join test xs ys
over_join test (NoMore ∷ xs) ys = over_join test xs ys
over_join test (Over c ∷ xs) ys = (let e = over_join test xs ys in omega (arith, e))

abbrev begun_copy : {F : Type 0} → Wanted F → ℕ → Running F
begun_copy wanted window = record { job = wanted.job; local = wanted.local; state = job_begun wanted.job window }

begun_told : {L F H N : Type 0} (done : LocalAct → H → H) (history : F → H) (noted : JobNote F → N → N)
    (window most : ℕ)
    (legs : List (JobLeg H)) (first mid new : Jobs L F N) → IsTold done history noted window legs first mid
    → BeginsOrNot noted window most mid new → IsTold done history noted window legs first new
begun_told {L = L} {F = F} {N = N} done history noted window most legs first mid new t (more, few, inl (wanted, is)) =
    let running_is : new.running ≡ mid.running ++ begun_copy wanted window ∷ [] = ap (λ (j : Jobs L F N). j.running) is
    in
    record {
      notes = t.notes ++ Given wanted ∷ [];
      told = ap (λ (j : Jobs L F N). j.notes) is ∙ (ap (noted (Given wanted)) t.told
          ∙ sym (noted_last noted t.notes (Given wanted) first.notes));
      count = λ test.
          let given : given_in test (t.notes ++ Given wanted ∷ [])
          ≡ given_in test t.notes + (one_if (test wanted.job) + 0) =
          given_join test t.notes (Given wanted ∷ []) in
          let over : over_in test (t.notes ++ Given wanted ∷ []) ≡ over_in test t.notes + 0 =
          over_join test t.notes (Given wanted ∷ []) in
          let now : running_in test new.running ≡ running_in test mid.running + one_if (test wanted.job) =
          ap (running_in test) running_is ∙ running_last test mid.running (begun_copy wanted window) in
          let count = t.count test in
          omega (arith, given, over, now, count);
      copies = subst (λ (l : List (Running F)). AreCopies done history window legs (t.notes ++ Given wanted ∷ []) l)
          (sym running_is)
          (begun_copies done history window legs t.notes mid.running wanted t.copies);
    }
begun_told {L = L} {F = F} {N = N} done history noted window most legs first mid new t (more, few, inr is) =
    let running_is : new.running ≡ mid.running = ap (λ (j : Jobs L F N). j.running) is in
    record {
      notes = t.notes ++ NoMore ∷ [];
      told = ap (λ (j : Jobs L F N). j.notes) is ∙ (ap (noted NoMore) t.told
          ∙ sym (noted_last noted t.notes NoMore first.notes));
      count = λ test.
          let given : given_in test (t.notes ++ NoMore ∷ []) ≡ given_in test t.notes + 0 =
          given_join {F = F} test t.notes (NoMore ∷ []) in
          let over : over_in test (t.notes ++ NoMore ∷ []) ≡ over_in test t.notes + 0 =
          over_join {F = F} test t.notes (NoMore ∷ []) in
          let now : running_in test new.running ≡ running_in test mid.running = ap (running_in test) running_is in
          let count = t.count test in
          omega (arith, given, over, now, count);
      copies = subst (λ (l : List (Running F)). AreCopies done history window legs (t.notes ++ NoMore ∷ []) l)
          (sym running_is)
          (no_more_copies done history window legs t.notes mid.running t.copies);
    }

ended_told : {L S F H N : Type 0} (state : L → LinkView S) (done : LocalAct → H → H) (history : F → H)
    (noted : JobNote F → N → N) (window : ℕ)
    (legs : List (JobLeg H)) (first mid new : Jobs L F N) → IsTold done history noted window legs first mid
    → (one : TellsOne state done history noted mid new) → IsTold done history noted window
    (ended_legs state done history (working_in mid) (working_in new) one.copied one.ended ++ legs) first new
ended_told state done history noted window legs first mid new t one =
    record {
      notes = t.notes ++ Over one.copied ∷ [];
      told = one.told ∙ (ap (noted (Over one.copied)) t.told ∙ sym
          (noted_last noted t.notes (Over one.copied) first.notes));
      count = λ test.
          let given : given_in test (t.notes ++ Over one.copied ∷ []) ≡ given_in test t.notes + 0 =
          given_join test t.notes (Over one.copied ∷ []) in
          let over : over_in test (t.notes ++ Over one.copied ∷ [])
          ≡ over_in test t.notes + (one_if (test one.copied.job) + 0) =
          over_join test t.notes (Over one.copied ∷ []) in
          let now : running_in test mid.running ≡ one_if (test one.copied.job) + running_in test new.running =
          ended_counted state done history test (working_in mid) (working_in new) one.copied one.ended in
          let count = t.count test in
          omega (arith, given, over, now, count);
      copies = ended_copies state done history window legs t.notes (working_in mid) (working_in new) one.copied t.copies
          one.ended;
    }

pub steps_told : {L S F H N : Type 0} (state : L → LinkView S) (done : LocalAct → H → H) (history : F → H)
    (noted : JobNote F → N → N)
    (window most n : ℕ) (first now : Jobs L F N) → first.running ≡ []
    → (steps : JobSteps state done history noted window most n first now)
    → IsTold done history noted window (jobs_legs state done history noted window most n first now steps) first now
steps_told {L = L} {F = F} {N = N} state done history noted window most zero first now none same =
    let now_none : now.running ≡ [] = ap (λ (j : Jobs L F N). j.running) same ∙ none in
    record {
      notes = [];
      told = ap (λ (j : Jobs L F N). j.notes) same;
      count = λ test. (let now : running_in test now.running ≡ 0 = ap (running_in test) now_none in omega (arith, now));
      copies = subst (λ (l : List (Running F)). AreCopies done history window [] [] l) (sym now_none)
          (record { under_way = tt; told = tt });
    }
steps_told state done history noted window most (suc n) first now none (mid, earlier, inl begins) =
    begun_told done history noted window most (jobs_legs state done history noted window most n first mid earlier) first
    mid now
    (steps_told state done history noted window most n first mid none earlier) begins
steps_told state done history noted window most (suc n) first now none (mid, earlier, inr one) =
    ended_told state done history noted window (jobs_legs state done history noted window most n first mid earlier)
    first mid now
    (steps_told state done history noted window most n first mid none earlier) one

-- before there was no memory
stopped_noted : {L F H N : Type 0} (done : LocalAct → H → H) (history : F → H) (noted : JobNote F → N → N) (window : ℕ)
    (legs : List (JobLeg H)) (first last : Jobs L F N) (after : N) → IsTold done history noted window legs first last
    → NotesUnbegun noted last.notes after → AreNoted noted (HasOwnLegs done history window legs) first.notes after
stopped_noted done history noted window legs first last after t (inl same) =
    record { notes = t.notes; noted_all = same ∙ t.told; copies = t.copies.told }
stopped_noted done history noted window legs first last after t (inr (wanted, given)) = record {
  notes = t.notes ++ Given wanted ∷ [];
  noted_all = given ∙ (ap (noted (Given wanted)) t.told ∙ sym (noted_last noted t.notes (Given wanted) first.notes));
  copies = (begun_copies done history window legs t.notes last.running wanted t.copies).told;
}

pub copied_all : {L S F H N : Type 0} (state : L → LinkView S) (done : LocalAct → H → H) (history : F → H)
    (noted : JobNote F → N → N)
    (window most : ℕ) (old session : SftpValue L) (running : List (Running F)) (before after : N)
    (result : Result (Unit {0}) CopyError)
    → JobsDone state done history noted window most (jobs_at old [] before) session running after result
    → CopiesAll state done history noted window most old before after result
copied_all state done history noted window most old session running before after (Ok u)
    (n, last, steps, more, over, none, same) =
    let t = steps_told state done history noted window most n (jobs_at old [] before) last refl steps in
    record {
      session = session;
      running = running;
      did = (n, last, steps, more, over, none, same);
      each = record {
        notes = t.notes;
        noted_all = same ∙ t.told;
        each = λ test.
            let none : running_in test last.running ≡ 0 = ap (running_in test) over in
            let count = t.count test in
            omega (arith, count, none);
        copies = t.copies.told;
      };
      stopped = tt;
    }
copied_all state done history noted window most old session running before after (Err e) (n, last, steps, stopped) =
    let t = steps_told state done history noted window most n (jobs_at old [] before) last refl steps in
    record {
      session = session;
      running = running;
      did = (n, last, steps, stopped);
      each = tt;
      stopped = stopped_noted done history noted window (jobs_legs state done history noted window most n
          (jobs_at old [] before) last steps)
          (jobs_at old [] before) last after t stopped;
    }

-- ---- the session may go on once the copies are given up

pub going_spared : {L S F : Type 0} (state : L → LinkView S) (copies : List (Running F)) (old new : SftpValue L)
    → IsGoing state old → SparesAll copies old.core new.core → new ≡ with_core old new.core → IsGoing state new
going_spared state copies old new going spares rest = record {
  opened = subst (λ (p : Handshake). IsSome (info_of p)) (sym spares.phase) going.opened;
  alive = λ none. subst (λ (x : SftpValue _). (state x.link).faults < 2 ^ 64 - 1) (sym rest)
      (going.alive (sym spares.fault ∙ none));
}
