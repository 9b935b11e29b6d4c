-- What a session's own calls do, as the driver sees it.
use Rattle.std.proofs.Common.{◌≡◌, ◌∙◌, ℕ, Bool, true, false, List, [], Option, Some, None, refl, ap, sym, subst, inl, inr}
use Rattle.std.specs.Prelude.{Result, Ok, Err, IfOk, IfErr, OnOk}
use Rattle.sftp_core.specs.declared.errors.TakeError.{TakeError}
use Rattle.sftp_core.specs.Take.{fault_of}
use Rattle.sftp_model.specs.declared.error.Fault.{Fault}
use Rattle.sftp_model.specs.declared.frame_error.FrameError.{FrameError}
use Rattle.sftp_model.specs.declared.reply.Reply.{Reply}
use Rattle.plan_model.specs.declared.call.Call.{Call}
use Rattle.session_driver.specs.declared.session.Phase.{Phase}
use Rattle.session_driver.specs.declared.session.Phase.TheVariants.{Failed, Open}
use Rattle.session_driver.specs.declared.session.Stepped.{Stepped}
use Rattle.session_driver.specs.Adding.{AddsTo}
use Rattle.session_driver.specs.Refusals.{NotesRefusal}
use Rattle.session_driver.specs.Session.{BeginsWithQuery, HasTakenVersion, HasRefused, KeepsMade, IsLater, IsUnmoved, StaysInPhase, at_rest}
use Rattle.session_model.specs.declared.entry.Entry.{Entry}
use Rattle.session_model.specs.Calls.{Setting}
use Rattle.session_model.specs.Turns.{RunProgress}
use Rattle.session_work.specs.declared.lanes.Lanes.{Lanes}
use Rattle.session_work.specs.SoFar.{refused_past}
use Rattle.session_work.specs.Working.{CancelsLane, LetsLaneGo, StepsLane, past_of, progress_in, progress_of, work_in, work_of}
use Rattle.sftp_lanes.specs.Adding.{AddsCall, IsSame}
use Rattle.sftp_lanes.specs.Events.{BeginsBy, CancelsIn, LanesDid, HasFailed, IsRefused, LetsGoIn, StepsIn, TakesVersion}
use Rattle.sftp_lanes.specs.Seen.{SessionValue, given_of, seen_of, setting_at}

-- ---- answers of either kind

pub or_refused : {T E : Type 0} (r : Result T E) (X : Type 0) (P : T → Type 0) (Q : E → Type 0) → IfOk r P → IfErr r Q
    → ((v : T) → P v → X) → ((e : E) → Q e → X) → X
or_refused (Ok v) X P Q ok err f g = f v ok
or_refused (Err e) X P Q ok err f g = g e err

-- ---- what is seen

-- where only the lanes worked, the rest is as it was
pub stays : (Did : Setting → Lanes → Lanes → Type 0) (old new : SessionValue) → LanesDid Did old new
    → StaysInPhase (seen_of old) (seen_of new)
stays Did old new g = ap seen_of g.rest

-- whatever its phase has become
holds_in : (phase : Phase) (old new : SessionValue) → new ≡ record old { phase = phase; work = new.work }
    → KeepsMade (seen_of old) (seen_of new)
holds_in phase old new rest =
    let same : new.phase ≡ phase = ap (λ (s : SessionValue). s.phase) rest in
    subst (λ (p : Phase). seen_of new ≡ record (seen_of old) {
      phase = p;
      progress = progress_of new.work;
      work =
          work_of new.work;
    }) (sym same) (ap seen_of rest)

-- also where it has failed
pub failed_left : (old new : SessionValue) → HasFailed old new → IsUnmoved (seen_of old) (seen_of new)
failed_left old new f = record { holds = holds_in Failed old new f.rest; past = f.left.past }

noted : (e : TakeError) (o : Option Fault) (before now : List Entry) → fault_of e ≡ o → now ≡ refused_past o before
    → NotesRefusal e before now
noted e None before now is same = inl same
noted e (Some fault) before now is kept = inr (fault, (is, kept))

pub refused_left : (e : TakeError) (old new : SessionValue) → IsRefused e old new
    → HasRefused e (seen_of old) (seen_of new)
refused_left e old new f = record {
  holds = holds_in Failed old new f.rest;
  past = noted e (fault_of e) (past_of old.work) (past_of new.work) refl f.past;
}

-- ---- in an open session

pub opened_step : {E : Type 0} (r : Result Stepped E) (lane : ℕ) (old new : SessionValue) → old.phase ≡ Open
    → IfOk r (λ event. StepsIn old.phase lane old new event)
    → IfOk r (λ event. LanesDid (λ s before after. StepsLane s lane before after event) old new)
opened_step r lane old new is steps = subst (λ (p : Phase). IfOk r (λ event. StepsIn p lane old new event)) is steps

pub opened_cancel : {E : Type 0} (r : Result Bool E) (lane : ℕ) (old new : SessionValue) → old.phase ≡ Open
    → IfOk r (λ event. CancelsIn old.phase lane old new event)
    → IfOk r (λ event. LanesDid (λ s before after. CancelsLane s lane before after event) old new)
opened_cancel r lane old new is cancels = subst (λ (p : Phase). IfOk r (λ event. CancelsIn p lane old new event)) is
    cancels

pub opened_let_go : {T E : Type 0} (r : Result T E) (lane : ℕ) (old new : SessionValue) → old.phase ≡ Open
    → OnOk r (LetsGoIn old.phase lane old new)
    → OnOk r (LanesDid (λ s before after. LetsLaneGo s lane before after) old new)
opened_let_go r lane old new is goes = subst (λ (p : Phase). OnOk r (LetsGoIn p lane old new)) is goes

-- ---- a call is added

pub adds_to : (lane : ℕ) (call : Call) (old new : SessionValue) → AddsCall lane call old new
    → AddsTo lane call (seen_of old) (seen_of new)
adds_to lane call old new a =
    record { goes = record { stays = ap seen_of a.rest; later = a.later }; is = ap progress_in a.is }

pub same_seen : (old new : SessionValue) → IsSame old new → seen_of new ≡ seen_of old
same_seen old new same =
    ap seen_of same.rest ∙ (λ i. record (seen_of old) {
      progress = progress_in (same.contents i);
      work =
          work_in (same.contents i);
    })

-- ---- VERSION

begins_first : (asks : Bool) (phase : Phase) (before now : List Entry) → before ≡ [] → BeginsBy asks phase before now
    → BeginsWithQuery asks phase now
begins_first true phase before now none b = subst (λ (p : List Entry). BeginsBy true phase p now) none b
begins_first false phase before now none b = (b.0, b.1 ∙ none)

-- a session whose journal was empty is greeted
pub greets_first : (body_reads : Result (Option ℕ × Reply) FrameError) (asks : Bool) (old new : SessionValue)
    → (seen_of old).progress ≡ at_rest
    → TakesVersion body_reads asks old new → HasTakenVersion body_reads (given_of old) asks (seen_of new)
greets_first body_reads asks old new rest v =
    let none : past_of old.work ≡ [] = ap (λ (x : RunProgress). x.past) rest in
    record {
      welcomed = record {
        extensions = v.extensions;
        told = v.told;
        asked = v.asked;
        begins = begins_first asks new.phase (past_of old.work) (past_of new.work) none v.begins;
        begun = v.begun ∙ ap (λ (x : RunProgress). x.begun) rest;
        later = subst (λ (p : List Entry). IsLater (setting_at new) p (past_of new.work)) none v.later;
        fixed = v.fixed;
        same = ap (λ (s : SessionValue). given_of s) v.rest;
      };
      reads = v.reads;
    }
