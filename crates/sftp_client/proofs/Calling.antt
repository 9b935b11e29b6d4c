-- What calls that are started and run in one leave to others.
use Rattle.std.proofs.Common.{◌≡◌, ◌⊎◌, ◌<◌, ◌-◌, ◌^◌, ◌∙◌, ℕ, [], ap, refl, sym, subst, inl, inr}
use Rattle.std.specs.Prelude.{None, Result, Ok, Err}
use Rattle.sftp_model.specs.declared.error.Error.{Error}
use Rattle.sftp_model.specs.declared.slot.Site.{Site}
use Rattle.plan_model.specs.Moves.{Answers, Plan}
use Rattle.sftp_core.specs.Core.{Core}
use Rattle.sftp_link.specs.Views.{LinkView}
use Rattle.plan_state.specs.Calls.{AsksAndAwaits, CallValue, IsLeft, IsNoneOfCall}
use Rattle.plan_state.specs.Keeping.{KeepsHeld, SparesOthers, StaysOpen}
use Rattle.plan_state.specs.Runners.{Meaning}
use Rattle.plan_state.specs.declared.stage.Stage.{Stage}
use Rattle.plan_state.specs.declared.stage.Stage.TheVariants.{Ready}
use Rattle.plan_state.proofs.Keeping.{keeps_same}
use Rattle.plan_state.proofs.Sparing.{spares_as, spares_both, submitted_spares}
use Rattle.sftp_fs.specs.PathStarts.{PathPlan, StartsFrom}
use Rattle.sftp_client.specs.Calls.{CallsOnPath, IfIdLeft, IsCallable, IsUnstarted, IsUsable, IsUsableAfter, MayStartOr, OnCore, RunsCall, RunsInOne, StartsThenRuns}
use Rattle.sftp_client.specs.Sessions.{SftpValue, with_core}
use Rattle.sftp_client.specs.Waits.{HasFinished, IsReadyOr, KeepsFaults}
use Rattle.sftp_client.proofs.Faults.{faults_as, faults_kept, still_alive}
use Rattle.sftp_client.proofs.KeptFaults.{cancelled_fault}

-- ---- what others hold

pub all_kept : (old new : Core) → SparesOthers old new (λ id. Unit {0}) (λ id. Unit {0}) → KeepsHeld old new
all_kept old new h =
    record {
      holds = λ ticket kind held. (h.tickets ticket kind tt held).0;
      grants = record {
        grants = λ id handle users here. (h.grants id handle users tt here).0;
        opened = h.opened;
      };
    }

-- a call that was started has no number that was in use
pub started_apart : {W M V : Type 0} (s : Meaning W M V) (w : W) (plan : Plan) (answers : Answers) (old new : Core)
    (q : CallValue M)
    → AsksAndAwaits s w plan answers old new q ⊎ (IsLeft s w plan answers q × (q.stage ≡ Ready) × (new ≡ old))
    → KeepsHeld old new → SparesOthers old new (λ id. Unit {0}) (IsNoneOfCall q.stage)
started_apart s w plan answers old new q (inl asks) keeps =
    spares_as old new (λ id. Unit {0}) (λ id. Unit {0} × IsNoneOfCall q.stage id) (IsNoneOfCall q.stage) (λ id h. h.1)
    (submitted_spares old new asks.asking asks.ticket (λ id. Unit {0}) q.stage asks.submitted asks.awaits)
started_apart s w plan answers old new q (inr ready) keeps =
    let none : (id : ℕ) → IsNoneOfCall q.stage id = λ id. subst (λ (x : Stage). IsNoneOfCall x id) (sym ready.1) tt in
    record {
      grants = λ id handle users theirs here. (keeps.grants.grants id handle users here, none id);
      tickets = λ ticket kind theirs held. (keeps.holds ticket kind held, none ticket);
      opened = keeps.grants.opened;
    }

-- ---- the session afterwards

pub callable_of : {L S : Type 0} (state : L → LinkView S) (s : SftpValue L) → IsUsable state s → IsCallable state s
callable_of state s usable = record { opened = usable.opened; alive = λ none. usable.count }

-- whatever the result
pub callable_after : {L S V : Type 0} (state : L → LinkView S) (new : SftpValue L) (result : Result V Error)
    → IsUsableAfter state new result → IsCallable state new
callable_after state new (Ok value) usable = callable_of state new usable
callable_after state new (Err e) callable = callable

-- without a kept fault
pub usable_of : {L S : Type 0} (state : L → LinkView S) (s : SftpValue L) → IsCallable state s → s.core.fault ≡ None
    → IsUsable state s
usable_of state s callable none = record { opened = callable.opened; count = callable.alive none }

pub usable_after : {L S V : Type 0} (state : L → LinkView S) (old new : SftpValue L) (result : Result V Error)
    → IsUsable state old → StaysOpen old.core new.core
    → KeepsFaults (state old.link).faults (state new.link).faults new.core.fault result
    → IsUsableAfter state new result
usable_after state old new (Ok value) usable stays same =
    record {
      opened = stays usable.opened;
      count = subst (λ (n : ℕ). n < 2 ^ 64 - 1) (sym same) usable.count;
    }
usable_after {V = V} state old new (Err e) usable stays faults =
    record {
      opened = stays usable.opened;
      alive = still_alive V (state old.link).faults (state new.link).faults new.core.fault e faults usable.count;
    }

-- after an error
pub callable_since : {L S : Type 0} (V : Type 0) (state : L → LinkView S) (old new : SftpValue L) (e : Error)
    → IsUsable state old → StaysOpen old.core new.core
    → KeepsFaults {V = V} (state old.link).faults (state new.link).faults new.core.fault (Err e)
    → IsCallable state new
callable_since V state old new e usable stays faults =
    usable_after {V = V} state old new (Err e) usable stays faults

-- another core with the same fault
pub callable_with : {L S : Type 0} (state : L → LinkView S) (old new : SftpValue L) → IsCallable state old
    → StaysOpen old.core new.core → new.core.fault ≡ old.core.fault → new.link ≡ old.link → IsCallable state new
callable_with state old new callable stays kept same =
    record {
      opened = stays callable.opened;
      alive = λ none. subst (λ l. (state l).faults < 2 ^ 64 - 1) (sym same) (callable.alive (sym kept ∙ none));
    }

-- the count of faults from a start to the end of what was run after it
pub faults_since : {L S V : Type 0} (state : L → LinkView S) (old started mid new : SftpValue L)
    (result : Result V Error) → started.link ≡ old.link → new.link ≡ mid.link → new.core.fault ≡ mid.core.fault
    → KeepsFaults (state started.link).faults (state mid.link).faults mid.core.fault result
    → KeepsFaults (state old.link).faults (state new.link).faults new.core.fault result
faults_since state old started mid new result same left kept faults =
    faults_as result (state old.link).faults (state new.link).faults mid.core.fault new.core.fault kept
    (subst (λ l. KeepsFaults (state old.link).faults (state l).faults mid.core.fault result) (sym left)
    (subst (λ l. KeepsFaults (state l).faults (state mid.link).faults mid.core.fault result) same faults))

pub finish_faults : {W M V L S : Type 0} (s : Meaning W M V) (state : L → LinkView S) (old started new : SftpValue L)
    (p : CallValue M) (result : Result V Error) → started.link ≡ old.link → HasFinished s state started new p result
    → KeepsFaults (state old.link).faults (state new.link).faults new.core.fault result
finish_faults s state old started new p result same h =
    faults_since state old started h.mid new result same (ap (λ (x : SftpValue _). x.link) h.left)
    (cancelled_fault h.mid.core new.core h.last.stage h.given_up) h.waited.faults

-- ---- the ways of a call

as_run : {L C V : Type 0} (Starts : SftpValue L → SftpValue L → Result C Error → Type 0)
    (Runs : SftpValue L → SftpValue L → C → Result V Error → Type 0) (old new : SftpValue L) (result : Result V Error)
    → StartsThenRuns Starts Runs old new result → RunsInOne Starts Runs old new result
as_run Starts Runs old new (Ok value) h = h
as_run Starts Runs old new (Err e) h = inr h

pub refused : {L S C V : Type 0} (Starts : SftpValue L → SftpValue L → Result C Error → Type 0)
    (Runs : SftpValue L → SftpValue L → C → Result V Error → Type 0) (state : L → LinkView S) (old new : SftpValue L)
    (e : Error) → IsUsable state old → Starts old new (Err e) → KeepsHeld old.core new.core → new.link ≡ old.link
    → RunsCall Starts Runs state old new (Err e)
refused {V = V} Starts Runs state old new e usable h keeps same =
    record {
      runs = inl h;
      keeps = keeps;
      usable = usable_after {V = V} state old new (Err e) usable keeps.grants.opened
          (faults_kept {V = V} (Err e) _ _ new.core.fault (ap (λ l. (state l).faults) same));
    }

-- a call may be started, or all ids are in use
pub may_start : {L S : Type 0} (state : L → LinkView S) (s : SftpValue L) (result : Result (Unit {0}) Error)
    → IsCallable state s → s.core.fault ≡ None → IsReadyOr s.core result → MayStartOr state s result
may_start state s (Ok u) callable none ready = record { usable = usable_of state s callable none; ready = ready }
may_start state s (Err e) callable none h = inl (record { all = h.1; error = h.0; unchanged = refl })

pub unstarted : {L S C V : Type 0} (Starts : SftpValue L → SftpValue L → Result C Error → Type 0)
    (Runs : SftpValue L → SftpValue L → C → Result V Error → Type 0) (state : L → LinkView S) (old : SftpValue L)
    (e : Error) → IsCallable state old → Starts old old (Err e) → RunsCall Starts Runs state old old (Err e)
unstarted Starts Runs state old e callable h =
    record { runs = inl h; keeps = keeps_same old.core; usable = callable }

pub no_id : {L S C V : Type 0} (Starts : SftpValue L → SftpValue L → Result C Error → Type 0)
    (Runs : SftpValue L → SftpValue L → C → Result V Error → Type 0) (state : L → LinkView S) (old : SftpValue L)
    (e : Error) → IsCallable state old → IsUnstarted old old e
    → RunsCall (IfIdLeft Starts) Runs state old old (Err e)
no_id Starts Runs state old e callable h = unstarted (IfIdLeft Starts) Runs state old e callable (inl h)

pub ran : {L S C V : Type 0} (Starts : SftpValue L → SftpValue L → Result C Error → Type 0)
    (Runs : SftpValue L → SftpValue L → C → Result V Error → Type 0) (state : L → LinkView S)
    (old started new : SftpValue L) (call : C) (result : Result V Error) → IsUsable state old
    → Starts old started (Ok call) → Runs started new call result
    → SparesOthers old.core new.core (λ id. Unit {0}) (λ id. Unit {0})
    → KeepsFaults (state old.link).faults (state new.link).faults new.core.fault result
    → RunsCall Starts Runs state old new result
ran Starts Runs state old started new call result usable starts runs spares faults =
    let keeps = all_kept old.core new.core spares in
    record {
      runs = as_run Starts Runs old new result (record {
        started = started;
        call = call;
        starts = starts;
        runs = runs;
      });
      keeps = keeps;
      usable = usable_after state old new result usable spares.opened faults;
    }

-- ---- a call that is finished

pub finish_all : {W M V L S : Type 0} (s : Meaning W M V) (state : L → LinkView S) (old started new : SftpValue L)
    (call : CallValue M) (result : Result V Error)
    → SparesOthers old.core started.core (λ id. Unit {0}) (IsNoneOfCall call.stage)
    → HasFinished s state started new call result → SparesOthers old.core new.core (λ id. Unit {0}) (λ id. Unit {0})
finish_all s state old started new call result apart h =
    spares_both old.core started.core new.core (λ id. Unit {0}) (IsNoneOfCall call.stage) (λ id. Unit {0}) apart
    h.spares

pub called : {W M V L S : Type 0} (Starts : SftpValue L → SftpValue L → Result (CallValue M) Error → Type 0)
    (s : Meaning W M V) (state : L → LinkView S) (old started new : SftpValue L) (call : CallValue M)
    (result : Result V Error) → IsUsable state old → Starts old started (Ok call) → started.link ≡ old.link
    → SparesOthers old.core started.core (λ id. Unit {0}) (IsNoneOfCall call.stage)
    → HasFinished s state started new call result
    → RunsCall (IfIdLeft Starts) (HasFinished s state) state old new result
called Starts s state old started new call result usable starts same apart h =
    ran (IfIdLeft Starts) (HasFinished s state) state old started new call result usable starts h
    (finish_all s state old started new call result apart h)
    (finish_faults s state old started new call result same h)

-- ---- calls on paths

-- a lane in which nothing is open
abbrev pub nowhere : Site
nowhere = record { slots = []; directory = [] }

pub path_no_id : {M V L S : Type 0} (s : Meaning Site M V) (plan : PathPlan) (state : L → LinkView S)
    (old : SftpValue L)
    (e : Error) → IsUnstarted old old e → IsCallable state old → CallsOnPath s plan state old old (Err e)
path_no_id s plan state old e h callable =
    no_id (OnCore (StartsFrom s plan [])) (HasFinished s state) state old e callable h

path_refused_at : {M V L S : Type 0} (s : Meaning Site M V) (plan : PathPlan) (state : L → LinkView S)
    (old new : SftpValue L) (e : Error) → StartsFrom s plan [] old.core new.core (Err e) → new ≡ with_core old new.core
    → IsUsable state old → CallsOnPath s plan state old new (Err e)
path_refused_at s plan state old new e h left usable =
    refused (IfIdLeft (OnCore (StartsFrom s plan []))) (HasFinished s state) state old new e usable (inr (h, left))
    h.keeps (ap (λ (x : SftpValue _). x.link) left)

path_called_at : {M V L S : Type 0} (s : Meaning Site M V) (plan : PathPlan) (state : L → LinkView S)
    (old started new : SftpValue L) (call : CallValue M) (result : Result V Error) → IsUsable state old
    → StartsFrom s plan [] old.core started.core (Ok call) → started ≡ with_core old started.core
    → HasFinished s state started new call result → CallsOnPath s plan state old new result
path_called_at s plan state old started new call result usable starts left h =
    called (OnCore (StartsFrom s plan [])) s state old started new call result usable (starts, left)
    (ap (λ (x : SftpValue _). x.link) left)
    (started_apart s nowhere _ (λ place. None) old.core started.core call
    (starts.starts nowhere (λ place. None) refl) starts.keeps) h

-- ---- the same for a session whose fields were taken apart before the start

pub path_refused : {M V L S : Type 0} (s : Meaning Site M V) (plan : PathPlan) (state : L → LinkView S)
    (old inside new : SftpValue L) (e : Error) → inside ≡ old → StartsFrom s plan [] inside.core new.core (Err e)
    → new ≡ with_core inside new.core → IsUsable state old → CallsOnPath s plan state old new (Err e)
path_refused s plan state old inside new e same h left usable =
    subst (λ (x : SftpValue _). CallsOnPath s plan state x new (Err e)) same
    (path_refused_at s plan state inside new e h left
    (subst (λ (x : SftpValue _). IsUsable state x) (sym same) usable))

pub path_called : {M V L S : Type 0} (s : Meaning Site M V) (plan : PathPlan) (state : L → LinkView S)
    (old inside started new : SftpValue L) (call : CallValue M) (result : Result V Error) → IsUsable state old
    → inside ≡ old → StartsFrom s plan [] inside.core started.core (Ok call) → started ≡ with_core inside started.core
    → HasFinished s state started new call result → CallsOnPath s plan state old new result
path_called s plan state old inside started new call result usable same starts left h =
    subst (λ (x : SftpValue _). CallsOnPath s plan state x new result) same
    (path_called_at s plan state inside started new call result
    (subst (λ (x : SftpValue _). IsUsable state x) (sym same) usable) starts left h)
