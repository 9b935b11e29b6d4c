-- What the steps of a listing leave to others, and the kept fault over them.
use Rattle.std.proofs.Common.{◌≡◌, ◌≢◌, ◌-◌, ◌==◌, ◌∙◌, ℕ, zero, suc, Bool, true, false, cond, List, [], ◌∷◌, refl, sym, ap, subst, inl, inr, Option, Some, None}
use Rattle.std.specs.Prelude.{Result, Ok, Err, IsSome, if◌then◌else◌}
use Rattle.sftp_model.specs.Numbers.{SSH_FX_EOF}
use Rattle.sftp_model.specs.declared.error.Error.{Error}
use Rattle.sftp_model.specs.declared.error.Error.TheVariants as error
use Rattle.sftp_model.specs.declared.error.Fault.{Fault}
use Rattle.sftp_model.specs.declared.reply.NameEntry.{NameEntry}
use Rattle.sftp_model.specs.declared.reply.Reply.{Reply}
use Rattle.sftp_model.specs.declared.reply.Reply.TheVariants as reply
use Rattle.sftp_model.specs.declared.request.Request.TheVariants.{Close}
use Rattle.sftp_model.specs.declared.slot.Move.TheVariants.{Wait}
use Rattle.sftp_core.specs.declared.handshake.Handshake.{Handshake}
use Rattle.sftp_core.specs.Core.{Core, IsGrant, after_poll, core_after_abandon, core_after_release, queued_last, record_at, release_gives, release_leaves, reply_in, users_of, with_record}
use Rattle.sftp_core.specs.Info.{info_of}
use Rattle.sftp_core.proofs.Elsewhere.{release_elsewhere, release_phase}
use Rattle.sftp_core.specs.Grant.{GrantValue}
use Rattle.sftp_core.specs.declared.id_record.IdRecord.TheVariants.{Granted}
use Rattle.plan_model.specs.Moves.{Answers, Plan}
use Rattle.plan_state.specs.Calls.{CallValue, CancelsAwaited, IsHeld as IsCallHeld, IsHeldAt, IsNoneOfCall, MayPoll, MovesByPlan, PollsByPlan, StepsByPlan, core_after_cancel, is_ended, polled_core}
use Rattle.plan_state.specs.Keeping.{SparesOthers}
use Rattle.plan_state.specs.Runners.{Meaning}
use Rattle.plan_state.specs.declared.poll.Poll.{Poll}
use Rattle.plan_state.specs.declared.poll.Poll.TheVariants.{Pending, Ready}
use Rattle.plan_state.specs.declared.stage.Stage.{Stage as CallStage}
use Rattle.plan_state.specs.declared.stage.Stage.TheVariants as call_stage
use Rattle.plan_state.specs.declared.told.Told.TheVariants as told
use Rattle.plan_state.proofs.Keeping.{keeps_same}
use Rattle.plan_state.proofs.OthersKept.{cancelled_keeps_grants, grant_kept, released_holds}
use Rattle.plan_state.proofs.Sparing.{abandoned_spares, cancelled_spares, given_spares, spares_also, spares_as, spares_both, spares_from, spares_kept, spares_same, stepped_spares}
use Rattle.sftp_file.specs.Closes.{stage_of_close}
use Rattle.sftp_file.specs.declared.short_calls.Settling.{Settling}
use Rattle.sftp_fs.specs.Directories.{WithHandle, opening_dir}
use Rattle.sftp_fs.specs.Listings.{GivesAt, HearsOf, IsAwaiting, IsListing, IsNoneAsked, ListingAnswer, ListingValue, PollsEntries, at_listing_end, fresh_listing, given_up, left_by}
use Rattle.sftp_fs.specs.declared.directory.OpeningDir.{OpeningDir}
use Rattle.sftp_fs.proofs.CallSteps.{dir_granted, ended_leaves, fresh_is_listing}
use Rattle.sftp_streams.proofs.PartLaws.{abandon_fault, fault_queued, poll_fault}
use Rattle.sftp_client.specs.DirCalls.{ClosesListing, IsNoneOfListing}
use Rattle.transfer_remote.specs.Failures.{remote_of}
use Rattle.transfer_remote.specs.ListingSteps.{DropsListing, IsHeld, IsNoneOf, IsOver, LeavesStage, ListingOn, MayStep, OpensAs, RunsListing, StepsGiven, StepsOpen, StepsRead, StepsStage, TakesSteps, listing_on}
use Rattle.transfer_remote.specs.declared.listing_stage.Stage.{Stage}
use Rattle.transfer_remote.specs.declared.listing_stage.Stage.TheVariants as stage
use Rattle.transfer_remote.specs.declared.remote_error.RemoteError.{RemoteError}
use Rattle.transfer_remote.specs.declared.listing_stage.Listing.{Listing}

-- ---- the kept fault

core_fault : (old new : Core) → new ≡ old → new.fault ≡ old.fault
core_fault old new same = ap (λ (c : Core). c.fault) same

-- over a poll of an open of a directory
polled_fault : (core : Core) (s : CallStage) → (polled_core core s).fault ≡ core.fault
polled_fault core (call_stage.Asked t) = poll_fault core t core.fault (record_at core t)
polled_fault core call_stage.Ended = refl
polled_fault core call_stage.Ready = refl
polled_fault core (call_stage.Unsent asking) = refl
polled_fault core (call_stage.Came told) = refl

moved_fault : {W M V : Type 0} (s : Meaning W M V) (w : W) (plan : Plan) (answers : Answers) (old new : Core)
    (q : CallValue M) (result : Poll (Result V Error)) → MovesByPlan s w plan answers old new q result
    → new.fault ≡ old.fault
moved_fault s w plan answers old new q Pending went = fault_queued old new went.asking went.ticket went.submitted
moved_fault s w plan answers old new q (Ready (Ok value)) went = core_fault old new went.2
moved_fault s w plan answers old new q (Ready (Err error.OutOfMemory)) went = core_fault old new went.1
moved_fault s w plan answers old new q (Ready (Err (error.BackgroundTaskFailure fault))) went =
    core_fault old new went.3
moved_fault s w plan answers old new q (Ready (Err error.LinkFault)) went = core_fault old new went.2
moved_fault s w plan answers old new q (Ready (Err error.LinkEnded)) went = core_fault old new went.2
moved_fault s w plan answers old new q (Ready (Err (error.UnsupportedSftpProtocol version))) went =
    core_fault old new went.2
moved_fault s w plan answers old new q (Ready (Err (error.FormatError kind))) went = core_fault old new went.2
moved_fault s w plan answers old new q (Ready (Err (error.HandleTooLong len))) went = core_fault old new went.2
moved_fault s w plan answers old new q (Ready (Err (error.InvalidResponseId id))) went = core_fault old new went.2
moved_fault s w plan answers old new q (Ready (Err (error.InvalidResponse id))) went = core_fault old new went.2
moved_fault s w plan answers old new q (Ready (Err (error.SftpError code message language))) went =
    core_fault old new went.2
moved_fault s w plan answers old new q (Ready (Err (error.UnsupportedExtension extensions))) went =
    core_fault old new went.2
moved_fault s w plan answers old new q (Ready (Err (error.IOError kind))) went = core_fault old new went.2

by_plan_fault : {W M V : Type 0} (s : Meaning W M V) (w : W) (plan : Plan) (answers : Answers) (old new : Core)
    (p q : CallValue M) (result : Poll (Result V Error)) → PollsByPlan s w plan answers old new p q result
    → new.fault ≡ old.fault
by_plan_fault s w plan answers old new p q result (inl waits) = core_fault old new waits.core
by_plan_fault s w plan answers old new p q result (inr went) =
    moved_fault s w plan answers (polled_core old p.stage) new q result went ∙ polled_fault old p.stage

any_world : WithHandle
any_world = (record { slots = []; directory = [] }, λ handle later. Wait 1)

open_fault : (old new : Core) (p q : CallValue OpeningDir) (answer : Poll (Result GrantValue Error)) (ticket : ℕ)
    → p.stage ≡ call_stage.Asked ticket → StepsByPlan opening_dir old new p q answer → new.fault ≡ old.fault
open_fault old new p q answer ticket is stepped =
    by_plan_fault opening_dir any_world plan_left replies old new p q answer
    (stepped.polled any_world plan_left replies (rw is (tt, λ later. refl)) (rw is refl))
  where
    replies : Answers
    replies = λ place. reply_in (record_at old ticket)

    plan_left : Plan
    plan_left later answers = opening_dir.left any_world p.runner later answers

-- over a close
released_fault : (core : Core) (grant : GrantValue) (users : ℕ) → (release_leaves core grant users).fault ≡ core.fault
released_fault core grant users = by_test (users == 1)
  where
    by_test : (b : Bool) → (cond b (queued_last core grant.id (Close grant.handle) true)
        (with_record core grant.id (Granted grant.handle (users - 1)))).fault ≡ core.fault
    by_test true = refl
    by_test false = refl

release_fault : (core : Core) (grant : GrantValue) → (core_after_release core grant).fault ≡ core.fault
release_fault core grant = released_fault core grant (users_of (record_at core grant.id))

drop_fault : (core : Core) (ticket : ℕ) → (core_after_abandon core ticket).fault ≡ core.fault
drop_fault core ticket = abandon_fault core ticket (record_at core ticket)

given_up_fault : (core : Core) (asked : Option ℕ) → (given_up core asked).fault ≡ core.fault
given_up_fault core None = refl
given_up_fault core (Some ticket) = drop_fault core ticket

pub cancel_fault : (core : Core) (s : CallStage) → (core_after_cancel core s).fault ≡ core.fault
cancel_fault core call_stage.Ended = refl
cancel_fault core call_stage.Ready = refl
cancel_fault core (call_stage.Unsent asking) = refl
cancel_fault core (call_stage.Asked t) = drop_fault core t
cancel_fault core (call_stage.Came (told.Reply r)) = refl
cancel_fault core (call_stage.Came (told.Granted g)) =
    drop_fault (core_after_release core g) g.id ∙ release_fault core g

cancelled_fault : (old new : Core) (s : CallStage) → CancelsAwaited old new s → new.fault ≡ old.fault
cancelled_fault old new s cancels = core_fault (core_after_cancel old s) new cancels.core ∙ cancel_fault old s

-- ---- a directory is closed

-- a READDIR that is given up
drop_spares : (core : Core) (asked : Option ℕ) → IsAwaiting core asked
    → SparesOthers core (given_up core asked) (IsNoneAsked asked) (λ id. Unit {0})
drop_spares core None h = spares_kept core core (λ id. Unit {0}) (keeps_same core)
drop_spares core (Some ticket) h = abandoned_spares core ticket h.counted

drop_held : (core : Core) (asked : Option ℕ) (grant : GrantValue) → IsAwaiting core asked → IsGrant core grant
    → IsGrant (given_up core asked) grant
drop_held core None grant h held = held
drop_held core (Some ticket) grant h held =
    grant_kept core (core_after_abandon core ticket) grant (cancelled_keeps_grants core ticket h.counted) held

close_apart : (b : Bool) (grant : GrantValue) (id : ℕ) → id ≢ grant.id
    → IsNoneOfCall (stage_of_close (if b then Some grant.id else None)) id
close_apart true grant id apart = apart
close_apart false grant id apart = tt

release_spares : (core : Core) (grant : GrantValue) (s : CallStage) → IsGrant core grant
    → s ≡ stage_of_close (release_gives grant (users_of (record_at core grant.id)))
    → SparesOthers core (core_after_release core grant) (λ id. id ≢ grant.id) (IsNoneOfCall s)
release_spares core grant s granted is =
    let users = users_of (record_at core grant.id) in
    let none : (id : ℕ) → id ≢ grant.id → IsNoneOfCall s id = λ id apart.
    subst (λ (x : CallStage). IsNoneOfCall x id) (sym is) (close_apart (users == 1) grant id apart) in
    record {
      grants = λ id handle count theirs here. (release_elsewhere core grant users id theirs ∙ here, none id theirs);
      tickets = λ ticket kind theirs held. (
        released_holds core grant ticket kind granted held,
        none ticket theirs,
      );
      opened = λ opened. subst (λ (p : Handshake). IsSome (info_of p)) (sym (release_phase core grant users)) opened;
    }

close_spares : (dir : ListingValue) (old core : Core) (call : CallValue Settling) → IsListing old dir
    → ClosesListing dir old core call → SparesOthers old core (IsNoneOfListing dir) (IsNoneOfCall call.stage)
close_spares dir old core call held closes =
    let mid = given_up old dir.asked in
    let first = spares_also old mid (λ id. id ≢ dir.grant.id) (IsNoneAsked dir.asked) (λ id. Unit {0})
    (drop_spares old dir.asked held.awaits) in
    let last = spares_from mid core (λ id. (id ≢ dir.grant.id) × Unit {0}) (λ id. id ≢ dir.grant.id)
    (IsNoneOfCall call.stage) (λ id h. h.0)
    (spares_same mid (core_after_release mid dir.grant) core (λ id. id ≢ dir.grant.id) (IsNoneOfCall call.stage)
    closes.core (release_spares mid dir.grant call.stage (drop_held old dir.asked dir.grant held.awaits held.granted)
    closes.awaits)) in
    spares_both old mid core (IsNoneOfListing dir) (λ id. (id ≢ dir.grant.id) × Unit {0}) (IsNoneOfCall call.stage)
    first last

pub drops : (dir : ListingValue) (old core new : Core) (call : CallValue Settling) → IsListing old dir
    → ClosesListing dir old core call → CancelsAwaited core new call.stage → DropsListing dir old new
drops dir old core new call held closes cancels = record {
  core = core;
  call = call;
  closes = closes;
  cancels = cancels;
  spares = spares_both old core new (IsNoneOfListing dir) (IsNoneOfCall call.stage) (λ id. Unit {0})
      (close_spares dir old core call held closes) (cancelled_spares core new call.stage cancels);
  fault = cancelled_fault core new call.stage cancels
      ∙ core_fault (core_after_release (given_up old dir.asked) dir.grant) core closes.core
      ∙ release_fault (given_up old dir.asked) dir.grant
      ∙ given_up_fault old dir.asked;
}

-- ---- what is left, composed

pub leaves_both : (a b c : Core) (x y z : Stage) → LeavesStage a x b y → LeavesStage b y c z → LeavesStage a x c z
leaves_both a b c x y z first later = record {
  held = later.held;
  spares = spares_both a b c (IsNoneOf x) (IsNoneOf y) (IsNoneOf z) first.spares later.spares;
  fault = later.fault ∙ first.fault;
}

pub leaves_same : (core : Core) (x : Stage) → IsHeld core x → LeavesStage core x core x
leaves_same core x held = record {
  held = held;
  spares = spares_kept core core (IsNoneOf x) (keeps_same core);
  fault = refl;
}

pub leaves_as : (old new : Core) (x y z : Stage) → z ≡ y → LeavesStage old x new y → LeavesStage old x new z
leaves_as old new x y z same h = subst (λ (s : Stage). LeavesStage old x new s) (sym same) h

-- ---- an open

pub open_waits : (old new : Core) (p q : CallValue OpeningDir) → IsHeld old (stage.Opening p)
    → StepsByPlan opening_dir old new p q Pending → LeavesStage old (stage.Opening p) new (stage.Opening q)
open_waits old new p q held polls =
    let ticket = polls.awaits.0 in
    let is : q.stage ≡ call_stage.Asked ticket = polls.awaits.1.0 in
    record {
      held = (ticket, is, subst (λ (x : CallStage). IsHeldAt opening_dir new q.runner x) is polls.held);
      spares = stepped_spares opening_dir old new p q Pending polls;
      fault = open_fault old new p q Pending held.0 held.1 polls;
    }

open_opens : (old mid new : Core) (p q : CallValue OpeningDir) (dir : GrantValue) → IsHeld old (stage.Opening p)
    → StepsByPlan opening_dir old mid p q (Ready (Ok dir)) → CancelsAwaited mid new q.stage
    → LeavesStage old (stage.Opening p) new (stage.Reading (fresh_listing dir))
open_opens old mid new p q dir held polls cancels =
    let same : new ≡ mid = cancels.core ∙ ended_leaves mid q.stage polls.over in
    subst (λ (c : Core). LeavesStage old (stage.Opening p) c (stage.Reading (fresh_listing dir))) (sym same) (record {
      held = fresh_is_listing mid dir (dir_granted mid dir polls.holds);
      spares = spares_as old mid (IsNoneOfCall p.stage) (λ id. id ≢ dir.id) (IsNoneOfListing (fresh_listing dir))
          (λ id apart. (apart, tt)) (given_spares opening_dir old mid p q dir dir refl polls);
      fault = open_fault old mid p q (Ready (Ok dir)) held.0 held.1 polls;
    })

open_fails : (old mid new : Core) (p q : CallValue OpeningDir) (e : Error) (why : RemoteError)
    → IsHeld old (stage.Opening p) → StepsByPlan opening_dir old mid p q (Ready (Err e))
    → CancelsAwaited mid new q.stage → LeavesStage old (stage.Opening p) new (stage.Failed why)
open_fails old mid new p q e why held polls cancels = record {
  held = tt;
  spares = spares_both old mid new (IsNoneOfCall p.stage) (IsNoneOfCall q.stage) (λ id. Unit {0})
      (stepped_spares opening_dir old mid p q (Ready (Err e)) polls) (cancelled_spares mid new q.stage cancels);
  fault = cancelled_fault mid new q.stage cancels ∙ open_fault old mid p q (Ready (Err e)) held.0 held.1 polls;
}

open_leaves : (old mid new : Core) (p q : CallValue OpeningDir) (answer : Result GrantValue Error) (after : Stage)
    (moved : Bool) → IsHeld old (stage.Opening p) → StepsByPlan opening_dir old mid p q (Ready answer)
    → OpensAs mid q (Ready answer) new after moved → LeavesStage old (stage.Opening p) new after
open_leaves old mid new p q (Ok dir) after moved held polls opens =
    leaves_as old new (stage.Opening p) (stage.Reading (fresh_listing dir)) after opens.1
    (open_opens old mid new p q dir held polls opens.0)
open_leaves old mid new p q (Err e) after moved held polls opens =
    leaves_as old new (stage.Opening p) (stage.Failed (remote_of e)) after opens.1
    (open_fails old mid new p q e (remote_of e) held polls opens.0)

-- a listing whose OPENDIR is in flight may be polled
pub open_may : (core : Core) (call : CallValue OpeningDir) → IsHeld core (stage.Opening call)
    → MayPoll opening_dir core call
open_may core call held = record {
  under_way = record {
    over = subst (λ (x : CallStage). is_ended x ≡ false) (sym held.1) refl;
    held = subst (λ (x : CallStage). IsHeldAt opening_dir core call.runner x) (sym held.1) held.2;
  };
  ready = λ again. absurd cc;
}

pub open_pending : (old new : Core) (p q : CallValue OpeningDir) → IsHeld old (stage.Opening p)
    → StepsByPlan opening_dir old new p q Pending → StepsOpen old p new (stage.Opening q) false
open_pending old new p q held polls = record {
  mid = new;
  polled = q;
  answer = Pending;
  polls = polls;
  is = (refl, refl, refl);
  leaves = open_waits old new p q held polls;
}

pub open_ready : (old mid new : Core) (p q : CallValue OpeningDir) (answer : Result GrantValue Error) (after : Stage)
    (moved : Bool) → IsHeld old (stage.Opening p) → StepsByPlan opening_dir old mid p q (Ready answer)
    → OpensAs mid q (Ready answer) new after moved → StepsOpen old p new after moved
open_ready old mid new p q answer after moved held polls opens = record {
  mid = mid;
  polled = q;
  answer = Ready answer;
  polls = polls;
  is = opens;
  leaves = open_leaves old mid new p q answer after moved held polls opens;
}

-- ---- a poll of an open directory

-- the directory is the same, and so is the kept fault
record IsSameDir (old new : Core) (p q : ListingValue) : Type 0 where
  pub grant : q.grant ≡ p.grant
  pub fault : new.fault ≡ old.fault

left_grant : (p : ListingValue) (r : Reply) → (left_by p r).grant ≡ p.grant
left_grant p (reply.Names []) = refl
left_grant p (reply.Names (entry ∷ entries)) = refl
left_grant p (reply.Status code message language) = by_test (code == SSH_FX_EOF)
  where
    by_test : (b : Bool) → (if b then at_listing_end p else record p { asked = None }).grant ≡ p.grant
    by_test true = refl
    by_test false = refl
left_grant p other = refl

after_fault : (old new : Core) (ticket : ℕ) → new ≡ after_poll old ticket → new.fault ≡ old.fault
after_fault old new ticket is =
    core_fault (after_poll old ticket) new is ∙ poll_fault old ticket old.fault (record_at old ticket)

heard_same : (old new : Core) (p q : ListingValue) (result : ListingAnswer) (ticket : ℕ) (r : Option Reply)
    (fault : Option Fault) → HearsOf old new p q result ticket r fault → IsSameDir old new p q
heard_same old new p q result ticket (Some r) fault h = record {
  grant = ap (λ (x : ListingValue). x.grant) h.1 ∙ left_grant p r;
  fault = after_fault old new ticket h.2;
}
heard_same old new p q result ticket None (Some fault) h = record {
  grant = ap (λ (x : ListingValue). x.grant) h.1;
  fault = after_fault old new ticket h.2;
}
heard_same old new p q result ticket None None h = record {
  grant = ap (λ (x : ListingValue). x.grant) h.1;
  fault = core_fault old new h.2;
}

asked_same : (old new : Core) (p q : ListingValue) (result : ListingAnswer)
    → GivesAt old new p q result false [] None → IsSameDir old new p q
asked_same old new p q Pending h = record {
  grant = ap (λ (x : ListingValue). x.grant) h.awaits;
  fault = fault_queued old new _ h.ticket h.submitted;
}
asked_same old new p q (Ready (Some (Err error.OutOfMemory))) h = record {
  grant = ap (λ (x : ListingValue). x.grant) h.0;
  fault = core_fault old new h.1;
}
asked_same old new p q (Ready (Some (Err (error.BackgroundTaskFailure fault)))) h = record {
  grant = ap (λ (x : ListingValue). x.grant) h.1;
  fault = core_fault old new h.2;
}
asked_same old new p q (Ready None) h = absurd h
asked_same old new p q (Ready (Some (Ok entry))) h = absurd h
asked_same old new p q (Ready (Some (Err error.LinkFault))) h = absurd h
asked_same old new p q (Ready (Some (Err error.LinkEnded))) h = absurd h
asked_same old new p q (Ready (Some (Err (error.UnsupportedSftpProtocol version)))) h = absurd h
asked_same old new p q (Ready (Some (Err (error.FormatError kind)))) h = absurd h
asked_same old new p q (Ready (Some (Err (error.HandleTooLong len)))) h = absurd h
asked_same old new p q (Ready (Some (Err (error.InvalidResponseId id)))) h = absurd h
asked_same old new p q (Ready (Some (Err (error.InvalidResponse id)))) h = absurd h
asked_same old new p q (Ready (Some (Err (error.SftpError code message language)))) h = absurd h
asked_same old new p q (Ready (Some (Err (error.UnsupportedExtension extension)))) h = absurd h
asked_same old new p q (Ready (Some (Err (error.IOError kind)))) h = absurd h

given_same : (old new : Core) (p q : ListingValue) (result : ListingAnswer) (ended : Bool) (entries : List NameEntry)
    (asked : Option ℕ) → GivesAt old new p q result ended entries asked → IsSameDir old new p q
given_same old new p q result true entries asked h = record {
  grant = ap (λ (x : ListingValue). x.grant) h.1;
  fault = core_fault old new h.2;
}
given_same old new p q result false (entry ∷ entries) asked h = record {
  grant = ap (λ (x : ListingValue). x.grant) h.1;
  fault = core_fault old new h.2;
}
given_same old new p q result false [] None h = asked_same old new p q result h
given_same old new p q result false [] (Some ticket) h =
    heard_same old new p q result ticket (reply_in (record_at old ticket)) old.fault h

pub poll_leaves : (old new : Core) (p q : ListingValue) (result : ListingAnswer) → PollsEntries old new p q result
    → LeavesStage old (stage.Reading p) new (stage.Reading q)
poll_leaves old new p q result polls =
    let same = given_same old new p q result p.ended p.entries p.asked polls.gives in
    record {
      held = polls.listing;
      spares = subst (λ (g : GrantValue). SparesOthers old new (IsNoneOfListing p) (λ id. (id ≢ g.id)
          × IsNoneAsked q.asked id)) (sym same.grant)
          (spares_also old new (λ id. id ≢ p.grant.id) (IsNoneAsked p.asked) (IsNoneAsked q.asked) polls.spares);
      fault = same.fault;
    }

-- a listing whose directory is open
pub read_pending : (old new : Core) (p q : ListingValue) (entries : List NameEntry) → PollsEntries old new p q Pending
    → StepsRead old p entries new (stage.Reading q) entries false
read_pending old new p q entries polls = record {
  did = inl (record { mid = new; polled = q; given = Pending; polls = polls; is = (refl, refl, refl, refl) });
  leaves = poll_leaves old new p q Pending polls;
}

pub read_given : (old mid new : Core) (p q : ListingValue) (given : Option (Result NameEntry Error))
    (entries items : List NameEntry) (after : Stage) (moved : Bool) → PollsEntries old mid p q (Ready given)
    → StepsGiven mid q (Ready given) entries new after items moved → StepsRead old p entries new after items moved
read_given old mid new p q given entries items after moved polls steps = record {
  did = inl (record { mid = mid; polled = q; given = Ready given; polls = polls; is = steps.is });
  leaves = leaves_both old mid new (stage.Reading p) (stage.Reading q) after
      (poll_leaves old mid p q (Ready given) polls) steps.leaves;
}

-- ---- a listing is given up

pub dropped : (dir : ListingValue) (old new : Core) (s : Stage) → IsOver s → DropsListing dir old new
    → LeavesStage old (stage.Reading dir) new s
dropped dir old new stage.Complete over d = record { held = tt; spares = d.spares; fault = d.fault }
dropped dir old new (stage.Failed why) over d = record { held = tt; spares = d.spares; fault = d.fault }
dropped dir old new (stage.Opening call) over d = absurd over
dropped dir old new (stage.Reading other) over d = absurd over

pub open_cancelled : (old new : Core) (p : CallValue OpeningDir) → CancelsAwaited old new p.stage
    → LeavesStage old (stage.Opening p) new stage.Complete
open_cancelled old new p cancels = record {
  held = tt;
  spares = cancelled_spares old new p.stage cancels;
  fault = cancelled_fault old new p.stage cancels;
}

-- a listing that was opened may be cancelled
pub open_held : (core : Core) (call : CallValue OpeningDir) → IsHeld core (stage.Opening call)
    → IsCallHeld opening_dir core call
open_held core call held = subst (λ (x : CallStage). IsHeldAt opening_dir core call.runner x) (sym held.1) held.2

-- ---- one step

pub step_leaves : (old new : Core) (s after : Stage) (entries items : List NameEntry) (moved : Bool) → IsHeld old s
    → StepsStage old s entries new after items moved → LeavesStage old s new after
step_leaves old new (stage.Opening call) after entries items moved held steps = steps.0.leaves
step_leaves old new (stage.Reading dir) after entries items moved held steps = steps.leaves
step_leaves old new stage.Complete after entries items moved held steps =
    leaves_as old new stage.Complete stage.Complete after steps.1
    (subst (λ (c : Core). LeavesStage old stage.Complete c stage.Complete) (sym steps.0)
    (leaves_same old stage.Complete tt))
step_leaves old new (stage.Failed why) after entries items moved held steps =
    leaves_as old new (stage.Failed why) (stage.Failed why) after steps.1
    (subst (λ (c : Core). LeavesStage old (stage.Failed why) c (stage.Failed why)) (sym steps.0)
    (leaves_same old (stage.Failed why) tt))

-- ---- steps of one listing

pub record RunsOn (old now : ListingOn) : Type 0 where
  pub count : ℕ
  pub steps : TakesSteps count old now
  pub leaves : LeavesStage old.core old.stage now.core now.stage
  pub opened : IsSome (info_of now.core.phase)

pub runs_first : (old : ListingOn) → MayStep old.core old.stage → RunsOn old old
runs_first old may = record {
  count = zero;
  steps = refl;
  leaves = leaves_same old.core old.stage may.held;
  opened = may.opened;
}

pub runs_may : (old now : ListingOn) → RunsOn old now → MayStep now.core now.stage
runs_may old now r = record { opened = r.opened; held = r.leaves.held }

pub runs_next : (old mid now : ListingOn) (moved : Bool) → RunsOn old mid
    → StepsStage mid.core mid.stage mid.entries now.core now.stage now.entries moved → RunsOn old now
runs_next old mid now moved r steps =
    let leaves = step_leaves mid.core now.core mid.stage now.stage mid.entries now.entries moved r.leaves.held steps in
    record {
      count = suc r.count;
      steps = (mid, moved, r.steps, steps);
      leaves = leaves_both old.core mid.core now.core old.stage mid.stage now.stage r.leaves leaves;
      opened = leaves.spares.opened r.opened;
    }

pub runs_out : (old now : ListingOn) → RunsOn old now → RunsListing old now
runs_out old now r = record { count = r.count; steps = r.steps; leaves = r.leaves }

-- A listing that takes no step.
pub runs_none : (core : Core) (x : Listing) → MayStep core x.stage
    → RunsListing (listing_on core x) (listing_on core x)
runs_none core x may = runs_out (listing_on core x) (listing_on core x) (runs_first (listing_on core x) may)
