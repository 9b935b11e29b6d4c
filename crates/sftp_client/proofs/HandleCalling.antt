-- What opens and closes that are run in one leave to others.
use Rattle.std.proofs.Common.{◌≡◌, ◌≢◌, ◌-◌, ◌==◌, ◌∙◌, ℕ, zero, suc, List, [], Bool, true, false, ap, refl, sym, subst, arith, inl, inr}
use Rattle.std.specs.Prelude.{Option, None, Some, Result, Ok, Err, IsSome, IfOk, if◌then◌else◌}
use Rattle.sftp_model.specs.declared.error.Error.{Error}
use Rattle.sftp_model.specs.declared.error.Error.TheVariants as error
use Rattle.sftp_model.specs.declared.error.Fault.{Fault}
use Rattle.sftp_model.specs.declared.open_options.OpenOptions.{OpenOptions}
use Rattle.sftp_model.specs.OpenOptions.{flags_of}
use Rattle.sftp_model.specs.declared.request.Request.TheVariants as request
use Rattle.sftp_model.specs.declared.outcome.Outcome.TheVariants as outcome
use Rattle.sftp_model.specs.declared.slot.Move.TheVariants.{Done}
use Rattle.sftp_core.specs.Core.{Core, IsGrant, core_after_release, queued_last, record_at, release_gives, users_of, with_record}
use Rattle.sftp_core.specs.Grant.{GrantValue}
use Rattle.sftp_core.specs.Info.{info_of}
use Rattle.sftp_core.specs.declared.id_record.IdRecord.TheVariants.{Granted}
use Rattle.sftp_core.proofs.Elsewhere.{release_elsewhere}
use Rattle.sftp_link.specs.Views.{LinkView}
use Rattle.plan_state.specs.Calls.{CallValue, CancelsAwaited, CountsGrant, IsNoneOfCall}
use Rattle.plan_state.specs.Keeping.{KeepsHeld, SparesOthers}
use Rattle.plan_state.specs.Runners.{Meaning}
use Rattle.plan_state.specs.declared.poll.Poll.{Poll}
use Rattle.plan_state.specs.declared.poll.Poll.TheVariants as poll
use Rattle.plan_state.specs.declared.stage.Stage.{Stage}
use Rattle.plan_state.proofs.OthersKept.{grant_at, keeps_unchanged, released_holds}
use Rattle.plan_state.proofs.Sparing.{cancelled_spares, given_spares, spares_both, spares_kept, spares_same, stepped_spares}
use Rattle.sftp_file.specs.Closes.{ReleasesFile, stage_of_close}
use Rattle.sftp_file.specs.Files.{FileValue, facts_of}
use Rattle.sftp_file.specs.Opens.{OpenStarts, open_meaning}
use Rattle.sftp_file.specs.Settles.{settle_meaning}
use Rattle.sftp_file.specs.declared.opens.Opening.{Opening}
use Rattle.sftp_file.specs.declared.short_calls.Settling.{Settling}
use Rattle.sftp_fs.specs.Directories.{OpensFrom, opening_dir}
use Rattle.sftp_fs.specs.declared.directory.OpeningDir.{OpeningDir}
use Rattle.sftp_client.specs.Calls.{ClosesHandle, EndsClose, FinishesClose, IfIdLeft, IsCallable, IsNoneOfFile, IsUnstarted, IsUsable, OnCore, OpensDirectory, OpensHandle, OpensPath, ReleasesHandle}
use Rattle.sftp_client.specs.Opening.{OpensFile, OpensUnless}
use Rattle.sftp_client.specs.Sessions.{SftpValue, with_core}
use Rattle.sftp_client.specs.Waits.{ArePollRounds, HasFinished, PolledIn, WaitStops, WaitsIn}
use Rattle.sftp_client.proofs.Calling.{callable_with, called, finish_faults, no_id, nowhere, refused, started_apart, usable_after}
use Rattle.sftp_client.proofs.KeptFaults.{cancelled_fault, core_fault, release_fault}
use Rattle.sftp_client.proofs.Waiting.{ended_by, nothing_left, round_stays}

-- ---- the grant that a call returns is none that others have

polled_spares : {W M V L : Type 0} (s : Meaning W M V) (old new : SftpValue L) (p q : CallValue M)
    (result : Poll (Result V Error)) → PolledIn s old new p q result
    → SparesOthers old.core new.core (IsNoneOfCall p.stage) (IsNoneOfCall q.stage)
polled_spares s old new p q result (inl h) = stepped_spares s old.core new.core p q result h.0
polled_spares s old new p q result (inr h) =
    let same = spares_kept old.core new.core (IsNoneOfCall p.stage)
    (keeps_unchanged old.core new.core (ap (λ (x : SftpValue _). x.core) h.1.1.0)) in
    subst (λ (x : CallValue _). SparesOthers old.core new.core (IsNoneOfCall p.stage) (IsNoneOfCall x.stage))
    (sym h.1.1.1) same

rounds_spare : {W M V L S : Type 0} (s : Meaning W M V) (state : L → LinkView S) (count : ℕ) (old new : SftpValue L)
    (p q : CallValue M) → IsSome (info_of old.core.phase) → ArePollRounds (WaitsIn s) state count old new p q
    → SparesOthers old.core new.core (IsNoneOfCall p.stage) (IsNoneOfCall q.stage)
rounds_spare s state zero old new p q opened h =
    let same = spares_kept old.core new.core (IsNoneOfCall p.stage)
    (keeps_unchanged old.core new.core (ap (λ (x : SftpValue _). x.core) h.0)) in
    subst (λ (x : CallValue _). SparesOthers old.core new.core (IsNoneOfCall p.stage) (IsNoneOfCall x.stage))
    (sym h.1) same
rounds_spare s state (suc n) old new p q opened h =
    let before = rounds_spare s state n old h.0 p h.1.0 opened h.1.1.0 in
    let round = h.1.1.1 in
    let polls = polled_spares s h.0 round.mid h.1.0 q poll.Pending round.waits in
    let stays = round_stays state round.mid new (polls.opened (before.opened opened)) round.round in
    spares_both old.core h.0.core new.core (IsNoneOfCall p.stage) (IsNoneOfCall h.1.0.stage) (IsNoneOfCall q.stage)
    before
    (spares_both h.0.core round.mid.core new.core (IsNoneOfCall h.1.0.stage) (IsNoneOfCall q.stage)
    (IsNoneOfCall q.stage) polls (spares_kept round.mid.core new.core (IsNoneOfCall q.stage) stays))

ended_gives : {W M V L S : Type 0} (s : Meaning W M V) (state : L → LinkView S) (count : ℕ) (old new : SftpValue L)
    (p q : CallValue M) (value : V) (g : GrantValue) → s.grant value ≡ Some g
    → WaitStops s state count old new p q (Ok value)
    → SparesOthers old.core new.core (IsNoneOfCall p.stage) (λ id. id ≢ g.id)
ended_gives s state count old new p q value g is (inl (inl (inl h))) =
    given_spares s old.core new.core p q value g is h.0
ended_gives s state count old new p q value g is (inl (inl (inr h))) = absurd cc
ended_gives s state count old new p q value g is (inl (inr h)) = absurd cc
ended_gives s state count old new p q value g is (inr h) = absurd cc

pub finish_gives : {W M V L S : Type 0} (s : Meaning W M V) (state : L → LinkView S) (old new : SftpValue L)
    (p : CallValue M) (value : V) (g : GrantValue) → s.grant value ≡ Some g → IsSome (info_of old.core.phase)
    → HasFinished s state old new p (Ok value)
    → SparesOthers old.core new.core (IsNoneOfCall p.stage) (λ id. id ≢ g.id)
finish_gives s state old new p value g is opened h =
    let w = h.waited in
    let before = rounds_spare s state w.count old w.mid p w.call opened w.rounds in
    let last = ended_gives s state w.count w.mid h.mid w.call h.last value g is w.ends in
    let over = ended_by s state w.count w.mid h.mid w.call h.last value w.ends in
    spares_same old.core h.mid.core new.core (IsNoneOfCall p.stage) (λ id. id ≢ g.id)
    (h.given_up.core ∙ nothing_left h.mid.core h.last.stage over)
    (spares_both old.core w.mid.core h.mid.core (IsNoneOfCall p.stage) (IsNoneOfCall w.call.stage) (λ id. id ≢ g.id)
    before last)

-- ---- opens

opens_by : {L : Type 0} (f : Option Fault) (options : OpenOptions) (path : List ℕ) (old new : SftpValue L)
    (call : CallValue Opening) → OpensUnless f options path old new (Ok call)
    → OpenStarts (flags_of options) path old.core new.core (Ok call) × (new ≡ with_core old new.core)
opens_by (Some fault) options path old new call h = absurd cc
opens_by None options path old new call h = h

refused_keeps : {L : Type 0} (f : Option Fault) (options : OpenOptions) (path : List ℕ) (old new : SftpValue L)
    (e : Error) → OpensUnless f options path old new (Err e) → KeepsHeld old.core new.core
refused_keeps (Some fault) options path old new e h =
    keeps_unchanged old.core new.core (ap (λ (x : SftpValue _). x.core) h.1)
refused_keeps None options path old new e h = h.0.keeps

refused_link : {L : Type 0} (f : Option Fault) (options : OpenOptions) (path : List ℕ) (old new : SftpValue L)
    (e : Error) → OpensUnless f options path old new (Err e) → new.link ≡ old.link
refused_link (Some fault) options path old new e h = ap (λ (x : SftpValue _). x.link) h.1
refused_link None options path old new e h = ap (λ (x : SftpValue _). x.link) h.1

pub open_no_id : {W M V L S : Type 0} (Starts : SftpValue L → SftpValue L → Result (CallValue M) Error → Type 0)
    (s : Meaning W M V) (grant : V → GrantValue) (state : L → LinkView S) (old : SftpValue L) (e : Error)
    → IsUnstarted old old e → IsCallable state old → OpensHandle Starts s grant state old old (Err e)
open_no_id Starts s grant state old e h callable =
    record {
      calls = no_id Starts (HasFinished s state) state old e callable h;
      held = tt;
      apart = tt;
    }

pub open_refused : {W M V L S : Type 0} (Starts : SftpValue L → SftpValue L → Result (CallValue M) Error → Type 0)
    (s : Meaning W M V) (grant : V → GrantValue) (state : L → LinkView S) (old new : SftpValue L) (e : Error)
    → Starts old new (Err e) → KeepsHeld old.core new.core → new.link ≡ old.link → IsUsable state old
    → OpensHandle Starts s grant state old new (Err e)
open_refused Starts s grant state old new e h keeps same usable =
    record {
      calls = refused (IfIdLeft Starts) (HasFinished s state) state old new e usable (inr h) keeps same;
      held = tt;
      apart = tt;
    }

opened_held : {W M V L S : Type 0} (s : Meaning W M V) (grant : V → GrantValue) (state : L → LinkView S)
    (old new : SftpValue L) (call : CallValue M) (result : Result V Error)
    → ((value : V) → s.grant value ≡ Some (grant value)) → HasFinished s state old new call result
    → IfOk result (λ value. IsGrant new.core (grant value))
opened_held s grant state old new call (Ok value) is h =
    grant_at new.core (grant value) 1 (subst (λ (g : Option GrantValue). CountsGrant new.core g) (is value) h.holds)
    (omega arith)
opened_held s grant state old new call (Err e) is h = tt

opened_apart : {W M V L S : Type 0} (s : Meaning W M V) (grant : V → GrantValue) (state : L → LinkView S)
    (old started new : SftpValue L) (call : CallValue M) (result : Result V Error)
    → ((value : V) → s.grant value ≡ Some (grant value)) → IsSome (info_of started.core.phase)
    → SparesOthers old.core started.core (λ id. Unit {0}) (IsNoneOfCall call.stage)
    → HasFinished s state started new call result
    → IfOk result (λ value. SparesOthers old.core new.core (λ id. Unit {0}) (λ id. id ≢ (grant value).id))
opened_apart s grant state old started new call (Ok value) is opened apart h =
    spares_both old.core started.core new.core (λ id. Unit {0}) (IsNoneOfCall call.stage) (λ id. id ≢ (grant value).id)
    apart (finish_gives s state started new call value (grant value) (is value) opened h)
opened_apart s grant state old started new call (Err e) is opened apart h = tt

opened : {W M V L S : Type 0} (Starts : SftpValue L → SftpValue L → Result (CallValue M) Error → Type 0)
    (s : Meaning W M V) (grant : V → GrantValue) (state : L → LinkView S) (old started new : SftpValue L)
    (call : CallValue M) (result : Result V Error) → ((value : V) → s.grant value ≡ Some (grant value))
    → IsUsable state old → Starts old started (Ok call) → started.link ≡ old.link
    → SparesOthers old.core started.core (λ id. Unit {0}) (IsNoneOfCall call.stage)
    → HasFinished s state started new call result → OpensHandle Starts s grant state old new result
opened Starts s grant state old started new call result is usable starts same apart h =
    record {
      calls = called Starts s state old started new call result usable starts same apart h;
      held = opened_held s grant state started new call result is h;
      apart = opened_apart s grant state old started new call result is (apart.opened usable.opened) apart h;
    }

pub file_unopened : {L S : Type 0} (options : OpenOptions) (path : List ℕ) (state : L → LinkView S)
    (old new : SftpValue L) (e : Error) → OpensFile options path old new (Err e)
    → IsUsable state old → OpensPath options path state old new (Err e)
file_unopened options path state old new e h usable =
    open_refused (OpensFile options path) open_meaning (λ file. file.grant) state old new e h
    (refused_keeps old.core.fault options path old new e h) (refused_link old.core.fault options path old new e h)
    usable

pub file_opened : {L S : Type 0} (options : OpenOptions) (path : List ℕ) (state : L → LinkView S)
    (old started new : SftpValue L) (call : CallValue Opening) (result : Result FileValue Error) → IsUsable state old
    → OpensFile options path old started (Ok call) → HasFinished open_meaning state started new call result
    → OpensPath options path state old new result
file_opened options path state old started new call result usable starts h =
    let by = opens_by old.core.fault options path old started call starts in
    let apart = started_apart open_meaning (0, nowhere) _ (λ place. None) old.core started.core call
    (by.0.starts 0 nowhere (facts_of old.core) (λ place. None)) by.0.keeps in
    opened (OpensFile options path) open_meaning (λ file. file.grant) state old started new call result (λ file. refl)
    usable starts (ap (λ (x : SftpValue _). x.link) by.1) apart h

dir_unopened_at : {L S : Type 0} (path : List ℕ) (state : L → LinkView S) (old new : SftpValue L) (e : Error)
    → OpensFrom path [] old.core new.core (Err e) → new ≡ with_core old new.core
    → IsUsable state old → OpensDirectory path state old new (Err e)
dir_unopened_at path state old new e h left usable =
    open_refused (OnCore (OpensFrom path [])) opening_dir (λ dir. dir) state old new e (h, left) h.keeps
    (ap (λ (x : SftpValue _). x.link) left) usable

dir_opened_at : {L S : Type 0} (path : List ℕ) (state : L → LinkView S) (old started new : SftpValue L)
    (call : CallValue OpeningDir) (result : Result GrantValue Error) → IsUsable state old
    → OpensFrom path [] old.core started.core (Ok call) → started ≡ with_core old started.core
    → HasFinished opening_dir state started new call result → OpensDirectory path state old new result
dir_opened_at path state old started new call result usable starts left h =
    let apart = started_apart opening_dir (nowhere, λ handle later. Done outcome.Done nowhere) _ (λ place. None)
    old.core started.core call
    (starts.starts nowhere (λ handle later answers. Done outcome.Done nowhere) (λ place. None) refl) starts.keeps in
    opened (OnCore (OpensFrom path [])) opening_dir (λ dir. dir) state old started new call result (λ dir. refl)
    usable (starts, left) (ap (λ (x : SftpValue _). x.link) left) apart h

-- ---- closes

close_apart : (b : Bool) (grant : GrantValue) (id : ℕ) → id ≢ grant.id
    → IsNoneOfCall (stage_of_close (if b then Some grant.id else None)) id
close_apart true grant id apart = apart
close_apart false grant id apart = tt

release_opened : (b : Bool) (core other : Core) (id : ℕ) (handle : List ℕ) → other.phase ≡ core.phase
    → IsSome (info_of core.phase) → IsSome (info_of (if b then queued_last core id (request.Close handle) true else
    other).phase)
release_opened true core other id handle same opened = opened
release_opened false core other id handle same opened = subst (λ p. IsSome (info_of p)) (sym same) opened

pub release_spares : (core : Core) (grant : GrantValue) (stage : Stage) → IsGrant core grant
    → stage ≡ stage_of_close (release_gives grant (users_of (record_at core grant.id)))
    → SparesOthers core (core_after_release core grant) (λ id. id ≢ grant.id) (IsNoneOfCall stage)
release_spares core grant stage granted is =
    let users = users_of (record_at core grant.id) in
    let none : (id : ℕ) → id ≢ grant.id → IsNoneOfCall stage id = λ id apart.
    subst (λ (x : Stage). IsNoneOfCall x id) (sym is) (close_apart (users == 1) grant id apart) in
    record {
      grants = λ id handle count theirs here. (release_elsewhere core grant users id theirs ∙ here, none id theirs);
      tickets = λ ticket kind theirs held. (
        released_holds core grant ticket kind granted held,
        none ticket theirs,
      );
      opened = λ opened. release_opened (users == 1) core (with_record core grant.id
          (Granted grant.handle (users - 1))) grant.id grant.handle refl opened;
    }

pub close_first : (old core : Core) (grant : GrantValue) (call : CallValue Settling) → IsGrant old grant
    → call.stage ≡ stage_of_close (release_gives grant (users_of (record_at old grant.id)))
    → core ≡ core_after_release old grant
    → SparesOthers old core (λ id. id ≢ grant.id) (IsNoneOfCall call.stage)
close_first old core grant call held awaits is =
    spares_same old (core_after_release old grant) core (λ id. id ≢ grant.id) (IsNoneOfCall call.stage) is
    (release_spares old grant call.stage held awaits)

-- a close that is run to its end, if no fault is kept
pub close_finished : {L S : Type 0} (state : L → LinkView S) (old new : SftpValue L) (call : CallValue Settling)
    (result : Result (Unit {0}) Error) → IsUsable state old → HasFinished settle_meaning state old new call result
    → FinishesClose state old new call result
close_finished state old new call result usable h =
    record {
      runs = by_result result h;
      spares = h.spares;
      usable = usable_after state old new result usable h.spares.opened
          (finish_faults settle_meaning state old old new call result refl h);
    }
  where
    by_result : (r : Result (Unit {0}) Error) → HasFinished settle_meaning state old new call r
        → EndsClose state old new call r
    by_result (Ok u) h = h
    by_result (Err e) h = inl h

-- or given up otherwise
pub close_given_up : {L S : Type 0} (state : L → LinkView S) (old inside new : SftpValue L) (call : CallValue Settling)
    (fault : Fault) → IsCallable state old → inside ≡ old → old.core.fault ≡ Some fault
    → CancelsAwaited inside.core new.core call.stage → new ≡ with_core inside new.core
    → FinishesClose state old new call (Err (error.BackgroundTaskFailure fault))
close_given_up {L = L} state old inside new call fault callable same kept cancels left =
    let cancelled = subst (λ (x : SftpValue L). CancelsAwaited x.core new.core call.stage) same cancels in
    let rest = subst (λ (x : SftpValue L). new ≡ with_core x new.core) same left in
    record {
      runs = inr (record { fault = fault; kept = kept; is = refl; given_up = cancelled; left = rest });
      spares = cancelled_spares old.core new.core call.stage cancelled;
      usable = callable_with state old new callable cancelled.opened
          (cancelled_fault old.core new.core call.stage cancelled) (ap (λ (x : SftpValue L). x.link) rest);
    }

pub closed : {L S : Type 0} (Ends : Core → Core → CallValue Settling → Type 0) (P : ℕ → Type 0) (state : L → LinkView S)
    (old new : SftpValue L) (core : Core) (call : CallValue Settling) (result : Result (Unit {0}) Error)
    → Ends old.core core call → SparesOthers old.core core P (IsNoneOfCall call.stage)
    → FinishesClose state (with_core old core) new call result
    → ClosesHandle Ends P state old new result
closed Ends P state old new core call result releases first h =
    record {
      core = core;
      call = call;
      releases = releases;
      runs = h.runs;
      spares = spares_both old.core core new.core P (IsNoneOfCall call.stage) (λ id. Unit {0}) first h.spares;
      usable = h.usable;
    }

pub let_off : {L : Type 0} (Ends : Core → Core → CallValue Settling → Type 0) (P : ℕ → Type 0) (old new : SftpValue L)
    (core : Core) (call : CallValue Settling) → Ends old.core core call
    → SparesOthers old.core core P (IsNoneOfCall call.stage) → core.fault ≡ old.core.fault
    → CancelsAwaited core new.core call.stage → new ≡ with_core old new.core → ReleasesHandle Ends P old new
let_off Ends P old new core call releases first kept cancels left =
    record {
      core = core;
      call = call;
      releases = releases;
      given_up = cancels;
      left = left;
      spares = spares_both old.core core new.core P (IsNoneOfCall call.stage) (λ id. Unit {0}) first
          (cancelled_spares core new.core call.stage cancels);
      fault = cancelled_fault core new.core call.stage cancels ∙ kept;
    }

file_fault : (file : FileValue) (old core : Core) (call : CallValue Settling) → ReleasesFile file old core call
    → core.fault ≡ old.fault
file_fault file old core call releases =
    core_fault (core_after_release old file.grant) core releases.core ∙ release_fault old file.grant

file_closed_at : {L S : Type 0} (file : FileValue) (state : L → LinkView S) (old new : SftpValue L) (core : Core)
    (call : CallValue Settling) (result : Result (Unit {0}) Error) → IsGrant old.core file.grant
    → ReleasesFile file old.core core call → FinishesClose state (with_core old core) new call result
    → ClosesHandle (ReleasesFile file) (IsNoneOfFile file) state old new result
file_closed_at file state old new core call result held releases h =
    closed (ReleasesFile file) (IsNoneOfFile file) state old new core call result releases
    (close_first old.core core file.grant call held releases.awaits releases.core) h

file_let_off_at : {L : Type 0} (file : FileValue) (old new : SftpValue L) (core : Core) (call : CallValue Settling)
    → IsGrant old.core file.grant → ReleasesFile file old.core core call
    → CancelsAwaited core new.core call.stage → new ≡ with_core old new.core
    → ReleasesHandle (ReleasesFile file) (IsNoneOfFile file) old new
file_let_off_at file old new core call held releases cancels left =
    let_off (ReleasesFile file) (IsNoneOfFile file) old new core call releases
    (close_first old.core core file.grant call held releases.awaits releases.core)
    (file_fault file old.core core call releases) cancels left

-- ---- the same for a session whose fields were taken apart before the start

pub usable_inside : {L S : Type 0} (state : L → LinkView S) (old inside : SftpValue L) → inside ≡ old
    → IsUsable state old
    → IsUsable state inside
usable_inside state old inside same usable = subst (λ (x : SftpValue _). IsUsable state x) (sym same) usable

pub held_inside : {L : Type 0} (old inside : SftpValue L) (grant : GrantValue) → inside ≡ old → IsGrant old.core grant
    → IsGrant inside.core grant
held_inside old inside grant same held = subst (λ (x : SftpValue _). IsGrant x.core grant) (sym same) held

pub dir_unopened : {L S : Type 0} (path : List ℕ) (state : L → LinkView S) (old inside new : SftpValue L) (e : Error)
    → inside ≡ old → OpensFrom path [] inside.core new.core (Err e) → new ≡ with_core inside new.core
    → IsUsable state old → OpensDirectory path state old new (Err e)
dir_unopened path state old inside new e same h left usable =
    subst (λ (x : SftpValue _). OpensDirectory path state x new (Err e)) same
    (dir_unopened_at path state inside new e h left (usable_inside state old inside same usable))

pub dir_opened : {L S : Type 0} (path : List ℕ) (state : L → LinkView S) (old inside started new : SftpValue L)
    (call : CallValue OpeningDir) (result : Result GrantValue Error) → IsUsable state old → inside ≡ old
    → OpensFrom path [] inside.core started.core (Ok call) → started ≡ with_core inside started.core
    → HasFinished opening_dir state started new call result → OpensDirectory path state old new result
dir_opened path state old inside started new call result usable same starts left h =
    subst (λ (x : SftpValue _). OpensDirectory path state x new result) same
    (dir_opened_at path state inside started new call result (usable_inside state old inside same usable) starts left h)

pub callable_inside : {L S : Type 0} (state : L → LinkView S) (old inside : SftpValue L) → inside ≡ old
    → IsCallable state old → IsCallable state inside
callable_inside state old inside same callable =
    subst (λ (x : SftpValue _). IsCallable state x) (sym same) callable

-- once the file was released, the close may be run
pub file_callable : {L S : Type 0} (file : FileValue) (state : L → LinkView S) (old inside : SftpValue L) (core : Core)
    (call : CallValue Settling) → IsCallable state old → IsGrant old.core file.grant → inside ≡ old
    → ReleasesFile file inside.core core call → IsCallable state (with_core inside core)
file_callable file state old inside core call callable held same releases =
    let granted = held_inside old inside file.grant same held in
    callable_with state inside (with_core inside core) (callable_inside state old inside same callable)
    (close_first inside.core core file.grant call granted releases.awaits releases.core).opened
    (file_fault file inside.core core call releases) refl

pub file_closed : {L S : Type 0} (file : FileValue) (state : L → LinkView S) (old inside new : SftpValue L)
    (core : Core) (call : CallValue Settling) (result : Result (Unit {0}) Error)
    → IsGrant old.core file.grant → inside ≡ old → ReleasesFile file inside.core core call
    → FinishesClose state (with_core inside core) new call result
    → ClosesHandle (ReleasesFile file) (IsNoneOfFile file) state old new result
file_closed file state old inside new core call result held same releases h =
    subst (λ (x : SftpValue _). ClosesHandle (ReleasesFile file) (IsNoneOfFile file) state x new result) same
    (file_closed_at file state inside new core call result (held_inside old inside file.grant same held) releases h)

pub file_let_off : {L : Type 0} (file : FileValue) (old inside new : SftpValue L) (core : Core)
    (call : CallValue Settling) → IsGrant old.core file.grant → inside ≡ old → ReleasesFile file inside.core core call
    → CancelsAwaited core new.core call.stage → new ≡ with_core inside new.core
    → ReleasesHandle (ReleasesFile file) (IsNoneOfFile file) old new
file_let_off file old inside new core call held same releases cancels left =
    subst (λ (x : SftpValue _). ReleasesHandle (ReleasesFile file) (IsNoneOfFile file) x new) same
    (file_let_off_at file inside new core call (held_inside old inside file.grant same held) releases cancels left)
