-- Steps of copies and turns of their session.
use Rattle.std.proofs.Common.{◌≡◌, ◌<◌, ◌-◌, ◌^◌, ◌⊎◌, inl, inr, ℕ, zero, suc, List, refl, sym, ap, ◌∙◌, subst, Option, Some, None}
use Rattle.std.specs.Prelude.{IsSome, Result, Ok, Err}
use Rattle.sftp_model.specs.declared.error.Error.{Error}
use Rattle.sftp_core.specs.declared.handshake.Handshake.{Handshake}
use Rattle.sftp_core.specs.Core.{Core}
use Rattle.sftp_core.specs.Info.{info_of}
use Rattle.sftp_link.specs.Views.{LinkView}
use Rattle.sftp_client.specs.Sessions.{SftpValue}
use Rattle.transfer_copy.specs.declared.copy_error.CopyError.{CopyError}
use Rattle.transfer_copy.specs.Local.{LocalAct}
use Rattle.transfer_pool.specs.Sessions.{IsGoing, TookTurn}
use Rattle.transfer_pool.specs.declared.copier.Advance.TheVariants as advance
use Rattle.transfer_pool.specs.declared.copier.CopierStep.{CopierStep}
use Rattle.transfer_pool.specs.declared.copier.CopierStep.TheVariants as copier_step
use Rattle.transfer_pool.specs.declared.copy_job.Copied.{Copied}
use Rattle.transfer_pool.specs.declared.copy_job.Running.{Running}
use Rattle.transfer_pool.specs.Copies.{AdvancesCopies, AreTogether, CopierSteps, NextEnded, StepsCopies, WorkedOn, Working}
use Rattle.transfer_pool.proofs.TogetherLaws.{together_kept}

-- ---- a step leaves how far the greeting has come, and the fault

record IsAsBefore (old new : Core) : Type 0 where
  pub phase : new.phase ≡ old.phase
  pub fault : new.fault ≡ old.fault

step_as_before : {F H : Type 0} (done : LocalAct → H → H) (history : F → H) (core after : Core)
    (old new : List (Running F))
    (result : CopierStep F) → CopierSteps done history core old after new result → IsAsBefore core after
step_as_before done history core after old new copier_step.Idle (none, still, same) =
    record { phase = ap (λ (c : Core). c.phase) same; fault = ap (λ (c : Core). c.fault) same }
step_as_before done history core after old new copier_step.Waits takes =
    record { phase = takes.goes.spares.phase; fault = takes.goes.spares.fault }
step_as_before done history core after old new copier_step.Moved takes =
    record { phase = takes.goes.spares.phase; fault = takes.goes.spares.fault }
step_as_before done history core after old new (copier_step.Ended copied) ends = record {
  phase = ends.spent.phase ∙ ends.goes.spares.phase;
  fault = ends.spent.fault ∙ ends.goes.spares.fault;
}

pub going_stepped : {L S F H : Type 0} (state : L → LinkView S) (done : LocalAct → H → H) (history : F → H)
    (old new : Working L F)
    (result : CopierStep F) → IsGoing state old.session → StepsCopies done history old new result
    → IsGoing state new.session
going_stepped state done history old new result going s =
    let before = step_as_before done history old.session.core new.session.core old.running new.running result s.steps in
    record {
      opened = subst (λ (p : Handshake). IsSome (info_of p)) (sym before.phase) going.opened;
      alive = λ none. subst (λ (x : SftpValue _). (state x.link).faults < 2 ^ 64 - 1) (sym s.rest)
          (going.alive (sym before.fault ∙ none));
    }

-- ---- one advance

pub stepped_on : {L S F H : Type 0} (state : L → LinkView S) (done : LocalAct → H → H) (history : F → H)
    (old new : Working L F)
    → IsGoing state old.session → AreTogether new.session.core new.running
    → StepsCopies done history old new copier_step.Waits ⊎ StepsCopies done history old new copier_step.Moved
    → AdvancesCopies state done history old new advance.On
stepped_on state done history old new going together (inl s) =
    record {
      going = going_stepped state done history old new copier_step.Waits going s;
      together = together;
      did =
          (1, (old, refl, inl s));
    }
stepped_on state done history old new going together (inr s) =
    record {
      going = going_stepped state done history old new copier_step.Moved going s;
      together = together;
      did =
          (1, (old, refl, inr (inl s)));
    }

pub stepped_over : {L S F H : Type 0} (state : L → LinkView S) (done : LocalAct → H → H) (history : F → H)
    (old new : Working L F)
    (copied : Copied F) → IsGoing state old.session → AreTogether new.session.core new.running
    → StepsCopies done history old new (copier_step.Ended copied)
    → AdvancesCopies state done history old new (advance.Over (Some copied))
stepped_over state done history old new copied going together s =
    record {
      going = going_stepped state done history old new (copier_step.Ended copied) going s;
      together = together;
      did = s;
    }

pub stepped_idle : {L S F H : Type 0} (state : L → LinkView S) (done : LocalAct → H → H) (history : F → H)
    (old new : Working L F)
    → IsGoing state old.session → AreTogether new.session.core new.running
    → StepsCopies done history old new copier_step.Idle
    → AdvancesCopies state done history old new (advance.Over None)
stepped_idle state done history old new going together s =
    record { going = going_stepped state done history old new copier_step.Idle going s; together = together; did = s }

worked_two : {L S F H : Type 0} (state : L → LinkView S) (done : LocalAct → H → H) (history : F → H)
    (old mid new : Working L F)
    (turned : Result (Unit {0}) Error) → StepsCopies done history old mid copier_step.Waits
    → TookTurn state mid.session new.session turned
    → new.running ≡ mid.running → (n : ℕ) × WorkedOn state done history n old new
worked_two state done history old mid new turned s t same =
    (2, (mid, (old, refl, inl s), inr (inr (record { result = turned; turned = t; same = same }))))

pub turned_on : {L S F H : Type 0} (state : L → LinkView S) (done : LocalAct → H → H) (history : F → H)
    (old mid new : Working L F)
    (turned : Result (Unit {0}) Error) → AreTogether mid.session.core mid.running
    → StepsCopies done history old mid copier_step.Waits → TookTurn state mid.session new.session turned → new.running
    ≡ mid.running
    → AdvancesCopies state done history old new advance.On
turned_on {F = F} state done history old mid new turned together s t same = record {
  going = t.going;
  together = subst (λ (rs : List (Running F)). AreTogether new.session.core rs) (sym same)
      (together_kept mid.session.core new.session.core mid.running t.keeps together);
  did = worked_two state done history old mid new turned s t same;
}

pub turned_off : {L S F H : Type 0} (state : L → LinkView S) (done : LocalAct → H → H) (history : F → H)
    (old mid new : Working L F)
    (turned : Result (Unit {0}) Error) (e : CopyError) → AreTogether mid.session.core mid.running
    → StepsCopies done history old mid copier_step.Waits → TookTurn state mid.session new.session turned → new.running
    ≡ mid.running
    → AdvancesCopies state done history old new (advance.Stopped e)
turned_off {F = F} state done history old mid new turned e together s t same = record {
  going = t.going;
  together = subst (λ (rs : List (Running F)). AreTogether new.session.core rs) (sym same)
      (together_kept mid.session.core new.session.core mid.running t.keeps together);
  did = worked_two state done history old mid new turned s t same;
}

-- ---- so far

worked_then : {L S F H : Type 0} (state : L → LinkView S) (done : LocalAct → H → H) (history : F → H) (k n : ℕ)
    (a b c : Working L F)
    → WorkedOn state done history n a b → WorkedOn state done history k b c → (m : ℕ)
    × WorkedOn state done history m a c
worked_then state done history zero n a b c first same = (
  n,
  subst (λ x. WorkedOn state done history n a x) (sym same) first,
)
worked_then state done history (suc k) n a b c first (mid, earlier, works) =
    (let both = worked_then state done history k n a b mid first earlier in (suc both.0, (mid, both.1, works)))

pub record WorkedSoFar {L S F H : Type 0} (state : L → LinkView S) (done : LocalAct → H → H) (history : F → H)
    (first now : Working L F) : Type 0 where
  pub steps : ℕ
  pub worked : WorkedOn state done history steps first now
  pub going : IsGoing state now.session
  pub together : AreTogether now.session.core now.running

pub works_first : {L S F H : Type 0} (state : L → LinkView S) (done : LocalAct → H → H) (history : F → H)
    (first : Working L F)
    → IsGoing state first.session → AreTogether first.session.core first.running
    → WorkedSoFar state done history first first
works_first state done history first going together = record
    { steps = 0; worked = refl; going = going; together = together }

pub works_on : {L S F H : Type 0} (state : L → LinkView S) (done : LocalAct → H → H) (history : F → H)
    (first mid new : Working L F)
    → WorkedSoFar state done history first mid → AdvancesCopies state done history mid new advance.On
    → WorkedSoFar state done history first new
works_on state done history first mid new w a =
    let both = worked_then state done history a.did.0 w.steps first mid new w.worked a.did.1 in
    record { steps = both.0; worked = both.1; going = a.going; together = a.together }

pub works_over : {L S F H : Type 0} (state : L → LinkView S) (done : LocalAct → H → H) (history : F → H)
    (first mid new : Working L F)
    (copied : Option (Copied F)) → WorkedSoFar state done history first mid
    → AdvancesCopies state done history mid new (advance.Over copied)
    → NextEnded state done history first new (Ok copied)
works_over state done history first mid new (Some copied) w a = (w.steps, mid, w.worked, a.did)
works_over state done history first mid new None w a = (w.steps, mid, w.worked, a.did)

pub works_stopped : {L S F H : Type 0} (state : L → LinkView S) (done : LocalAct → H → H) (history : F → H)
    (first mid new : Working L F)
    (e x : CopyError) → WorkedSoFar state done history first mid
    → AdvancesCopies state done history mid new (advance.Stopped e)
    → NextEnded state done history first new (Err x)
works_stopped state done history first mid new e x w a = worked_then state done history a.did.0 w.steps first mid new
    w.worked a.did.1

pub works_too_long : {L S F H : Type 0} (state : L → LinkView S) (done : LocalAct → H → H) (history : F → H)
    (first now : Working L F)
    (x : CopyError) → WorkedSoFar state done history first now → NextEnded state done history first now (Err x)
works_too_long state done history first now x w = (w.steps, w.worked)
