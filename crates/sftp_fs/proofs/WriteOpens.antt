-- Whole writes from their OPEN to the HANDLE.
use Rattle.std.proofs.Common.{
  ◌≡◌,
  ◌∙◌,
  refl,
  sym,
  ap,
  subst,
  ℕ,
  true,
  false,
  List,
  [],
  Option,
  Some,
  None,
  Result,
  Ok,
  Err,
  inl,
  inr,
}
use Rattle.sftp_model.specs.declared.error.Error.{Error}
use Rattle.sftp_model.specs.declared.error.Error.TheVariants as error
use Rattle.sftp_model.specs.declared.outcome.Outcome.TheVariants as outcome
use Rattle.sftp_model.specs.declared.reply.Reply.{Reply}
use Rattle.sftp_model.specs.declared.reply.Reply.TheVariants as reply
use Rattle.sftp_model.specs.declared.request.Request.{Request}
use Rattle.sftp_model.specs.declared.slot.Facts.{Facts}
use Rattle.sftp_model.specs.declared.slot.Move.TheVariants.{Ask, Done, Wait}
use Rattle.sftp_model.specs.declared.slot.Site.{Site}
use Rattle.plan_model.specs.Moves.{Answers, Own, Plan, handle_of, on_handle, once_answered}
use Rattle.sftp_core.specs.Core.{Core}
use Rattle.plan_state.proofs.Grants.{ended_brings}
use Rattle.plan_state.proofs.Sparing.{spares_as, spares_same, stepped_spares}
use Rattle.plan_state.specs.declared.told.Told.TheVariants as told
use Rattle.sftp_core.specs.Grant.{GrantValue}
use Rattle.plan_state.specs.declared.poll.Poll.{Poll}
use Rattle.plan_state.specs.declared.poll.Poll.TheVariants.{Pending, Ready}
use Rattle.plan_state.specs.declared.stage.Stage.{Stage}
use Rattle.plan_state.specs.declared.stage.Stage.TheVariants as stage
use Rattle.plan_state.specs.Asked.{request_of}
use Rattle.plan_state.specs.Calls.{
  CallValue,
  CanContinue,
  core_after_cancel,
  grant_brought,
  is_ended,
  IfOutOfMemory,
  IsHeldAt,
  IsLeft,
  IsLeftAt,
  IsNoneOfCall,
  IsOver,
  IsUnderWay,
  PollsByPlan,
  polled_core,
  StepsByPlan,
  TellsReply,
}
use Rattle.sftp_fs.specs.Directories.{WithHandle, granted_left}
use Rattle.sftp_fs.specs.Grants.{grant_meaning}
use Rattle.sftp_fs.specs.WholeWrites.{
  closed_if,
  IsOverBy,
  IsWriteLeft,
  write_answer_of,
  writes_content,
  PollsWholeWrite,
  WroteOn,
}
use Rattle.sftp_fs.specs.declared.fs_write.Writing.TheVariants as writing
use Rattle.sftp_fs.specs.declared.grants.Granting.{Granting}
use Rattle.sftp_fs.proofs.CallSteps.{ended_leaves}

-- a runner that awaits a HANDLE is what is left of such a plan, whatever is done with the handle
pub left_any : (core : Core) (call : CallValue Granting) (w : WithHandle) (answers : Answers)
    → IsUnderWay grant_meaning core call
    → IsLeft grant_meaning w (granted_left w) answers call
left_any core call w answers h = left_at call.stage h.over h.held
  where
    left_at : (s : Stage) → is_ended s ≡ false → IsHeldAt grant_meaning core call.runner s
        → IsLeftAt grant_meaning w (granted_left w) answers call.runner s
    left_at stage.Ended over held = tt
    left_at stage.Ready over held = absurd held
    left_at (stage.Unsent asking) over held = absurd (let clash : false ≡ true = held.1 in cc)
    left_at (stage.Asked ticket) over held = (tt, λ later. refl)
    left_at (stage.Came told) over held = (tt, λ later. refl)

-- from a plan at some of its own requests
pub left_later : (core : Core) (call : CallValue Granting) (w : WithHandle) (plan : Plan) (answers : Answers)
    (later : Own) → IsUnderWay grant_meaning core call
    → IsLeft grant_meaning w plan answers call
    → IsLeft grant_meaning (w.0, λ handle own. w.1 handle later) (λ own a. plan later a) answers call
left_later core call w plan answers later h left = left_at call.stage h.held left
  where
    left_at : (s : Stage) → IsHeldAt grant_meaning core call.runner s
        → IsLeftAt grant_meaning w plan answers call.runner s
        → IsLeftAt grant_meaning (w.0, λ handle own. w.1 handle later) (λ own a. plan later a) answers call.runner s
    left_at stage.Ended held l = tt
    left_at stage.Ready held l = absurd held
    left_at (stage.Unsent asking) held l = absurd (let clash : false ≡ true = held.1 in cc)
    left_at (stage.Asked ticket) held l = (tt, λ own. l.1 later)
    left_at (stage.Came told) held l = (tt, λ own. l.1 later)

-- what a HANDLE leads to
pub granted_goes : (w : WithHandle) (plan : Plan) (answers : Answers) (old mid : Core) (call next : CallValue Granting)
    (grant : GrantValue)
    → PollsByPlan grant_meaning w plan answers old mid call next (Ready (Ok grant)) → plan [] answers
    ≡ w.1 grant.handle []
granted_goes w plan answers old mid call next grant (inl h) =
    absurd (let clash : ◌≡◌ {A = Poll (Result GrantValue Error)} (Ready (Ok grant)) Pending = h.pending in cc)
granted_goes w plan answers old mid call next grant (inr h) = h.0

pub granted_same : (w : WithHandle) (plan : Plan) (answers : Answers) (old mid : Core) (call next : CallValue Granting)
    (grant : GrantValue)
    → PollsByPlan grant_meaning w plan answers old mid call next (Ready (Ok grant)) → mid ≡ polled_core old call.stage
granted_same w plan answers old mid call next grant (inl h) =
    absurd (let clash : ◌≡◌ {A = Poll (Result GrantValue Error)} (Ready (Ok grant)) Pending = h.pending in cc)
granted_same w plan answers old mid call next grant (inr h) = h.2

-- the handle is the one that was told
pub same_handle : (site : Site) (there : Option Reply) (handle : List ℕ)
    → once_answered 1 there (λ r. on_handle r site (λ h. Done (outcome.Bytes h) site))
    ≡ Done (outcome.Bytes handle) site → handle_of there ≡ handle
same_handle site None handle e = absurd cc
same_handle site (Some (reply.Handle h)) handle e = cc
same_handle site (Some (reply.Version version extensions)) handle e = absurd cc
same_handle site (Some (reply.Status code message language)) handle e = absurd cc
same_handle site (Some (reply.Content bytes)) handle e = absurd cc
same_handle site (Some (reply.Names entries)) handle e = absurd cc
same_handle site (Some (reply.Attrs attrs)) handle e = absurd cc
same_handle site (Some (reply.Extended content)) handle e = absurd cc

-- no further request is asked by an OPEN
never_asks : (site : Site) (there : Option Reply) (r : Request)
    → once_answered 1 there (λ r. on_handle r site (λ h. Done outcome.Done site)) ≡ Ask r → ⊥
never_asks site None r e = cc
never_asks site (Some (reply.Handle h)) r e = cc
never_asks site (Some (reply.Version version extensions)) r e = cc
never_asks site (Some (reply.Status code message language)) r e = cc
never_asks site (Some (reply.Content bytes)) r e = cc
never_asks site (Some (reply.Names entries)) r e = cc
never_asks site (Some (reply.Attrs attrs)) r e = cc
never_asks site (Some (reply.Extended content)) r e = cc

waits_alone : (site : Site) (there : Option Reply) (place : ℕ)
    → once_answered 1 there (λ r. on_handle r site (λ h. Done outcome.Done site)) ≡ Wait place → there ≡ None
waits_alone site None place e = refl
waits_alone site (Some (reply.Handle h)) place e = absurd cc
waits_alone site (Some (reply.Version version extensions)) place e = absurd cc
waits_alone site (Some (reply.Status code message language)) place e = absurd cc
waits_alone site (Some (reply.Content bytes)) place e = absurd cc
waits_alone site (Some (reply.Names entries)) place e = absurd cc
waits_alone site (Some (reply.Attrs attrs)) place e = absurd cc
waits_alone site (Some (reply.Extended content)) place e = absurd cc

-- an OPEN that is under way still has no reply
pub record IsStill (old mid : Core) (call next : CallValue Granting) (answers : Answers) : Type 0 where
  pub core : mid ≡ old
  pub unfailed : old.fault ≡ None
  pub same : next ≡ call
  pub missing : answers 1 ≡ None

pub still : (site : Site) (answers : Answers) (old mid : Core) (call next : CallValue Granting)
    → IsUnderWay grant_meaning old call
    → TellsReply grant_meaning old call answers → StepsByPlan {V = GrantValue} grant_meaning old mid call next Pending
    → IsStill old mid call next answers
still site answers old mid call next held tells h =
    waits (h.polled (site, λ handle later. Done outcome.Done site)
    (granted_left (site, λ handle later. Done outcome.Done site)) answers
    (left_any old call (site, λ handle later. Done outcome.Done site) answers held) tells)
  where
    waits : PollsByPlan {V = GrantValue} grant_meaning (site, λ handle later. Done outcome.Done site)
        (granted_left (site, λ handle later. Done outcome.Done site)) answers old mid call next Pending
        → IsStill old mid call next answers
    waits (inl w) = record {
      core = w.core;
      unfailed = w.unfailed;
      same = w.same;
      missing =
          waits_alone site (answers 1) 1 w.waits;
    }
    waits (inr w) = absurd (never_asks site (answers 1) (request_of w.asking) w.behind.asks)

pub left_now : (core : Core) (call : CallValue Granting) (w : WithHandle) (plan : Plan) (answers : Answers)
    → IsUnderWay grant_meaning core call
    → IsLeft grant_meaning w plan answers call → plan [] answers ≡ granted_left w [] answers
left_now core call w plan answers h left = now_at call.stage h.over h.held left
  where
    now_at : (s : Stage) → is_ended s ≡ false → IsHeldAt grant_meaning core call.runner s
        → IsLeftAt grant_meaning w plan answers call.runner s
        → plan [] answers ≡ granted_left w [] answers
    now_at stage.Ended over held l = absurd (let clash : true ≡ false = over in cc)
    now_at stage.Ready over held l = absurd held
    now_at (stage.Unsent asking) over held l = absurd (let clash : false ≡ true = held.1 in cc)
    now_at (stage.Asked ticket) over held l = l.1 []
    now_at (stage.Came told) over held l = l.1 []

open_wrote : (facts : Facts) (old new : Core) (call next : CallValue Granting) (content : List ℕ)
    (told : Poll (Result GrantValue Error))
    (site : Site) (plan : Plan) (answers : Answers) → IsUnderWay grant_meaning old call
    → StepsByPlan grant_meaning old new call next told
    → is_ended next.stage ≡ false → IsOver next.stage told → IsWriteLeft site facts plan answers
    (writing.Opening call content)
    → TellsReply grant_meaning old call answers
    → PollsWholeWrite site facts plan answers old new (writing.Opening call content) (writing.Opening next content)
    (write_answer_of told)
open_wrote facts old new call next content Pending site plan answers held h on over left tells =
    let s = still site answers old new call next held tells h in
    inl (record {
      place = 1;
      waits = left_now old call (writes_content content site facts answers) plan answers held left
          ∙ rw s.missing refl;
      unfailed = s.unfailed;
      core = s.core;
      same = ap (λ (x : CallValue Granting). writing.Opening x content) s.same;
    })
open_wrote facts old new call next content (Ready (Err error.OutOfMemory)) site plan answers held h on over left tells =
    went (h.polled (writes_content content site facts answers) plan answers left tells)
  where
    went : PollsByPlan grant_meaning (writes_content content site facts answers) plan answers old new call next
        (Ready (Err error.OutOfMemory))
        → PollsWholeWrite site facts plan answers old new (writing.Opening call content) (writing.Opening next content)
        (Ready (Err error.OutOfMemory))
    went (inl w) = absurd (let clash : ◌≡◌ {A = Poll (Result GrantValue Error)} (Ready (Err error.OutOfMemory)) Pending
        = w.pending in cc)
    went (inr w) = w
open_wrote facts old new call next content (Ready (Ok grant)) site plan answers held h on over left tells =
    absurd (let clash : true ≡ false = sym over ∙ on in cc)
open_wrote facts old new call next content (Ready (Err e)) site plan answers held h on over left tells =
    absurd (let clash : true ≡ false = sym over ∙ on in cc)

open_over : (s : Stage) (next : CallValue Granting) (content : List ℕ) (told : Poll (Result GrantValue Error))
    → is_ended s ≡ false
    → IsOver s told → IsOverBy (writing.Opening next content) (write_answer_of told)
open_over s next content Pending on over = refl
open_over s next content (Ready (Err error.OutOfMemory)) on over = refl
open_over s next content (Ready (Ok grant)) on over = absurd (let clash : true ≡ false = sym over ∙ on in cc)
open_over s next content (Ready (Err e)) on over = absurd (let clash : true ≡ false = sym over ∙ on in cc)

-- an OPEN takes no memory
open_short : (told : Poll (Result GrantValue Error)) (P Q : Type 0) → IfOutOfMemory told ((false ≡ true) × P)
    → IfOutOfMemory (write_answer_of told) Q
open_short Pending P Q h = tt
open_short (Ready (Ok grant)) P Q h = tt
open_short (Ready (Err error.OutOfMemory)) P Q h = absurd (let clash : false ≡ true = h.0 in cc)
open_short (Ready (Err other)) P Q h = tt

failed_short : (e : Error) (P Q : Type 0) → IfOutOfMemory {V = GrantValue} (Ready (Err e)) ((false ≡ true) × P)
    → IfOutOfMemory {V = Unit {0}} (Ready (Err e)) Q
failed_short e P Q h = open_short (Ready (Err e)) P Q h

pub open_on : (facts : Facts) (old new : Core) (call next : CallValue Granting) (content : List ℕ)
    (told : Poll (Result GrantValue Error))
    → IsUnderWay grant_meaning old call → StepsByPlan grant_meaning old new call next told → is_ended next.stage ≡ false
    → WroteOn facts old new (writing.Opening call content) (writing.Opening next content) (write_answer_of told)
open_on facts old new call next content told held h on =
    record {
      polled = λ site plan answers left tells. open_wrote facts old new call next content told site plan answers held h
          on h.over left tells;
      held = record { over = on; held = h.held };
      over = open_over next.stage next content told on h.over;
      spares = stepped_spares grant_meaning old new call next told h;
      memory = open_short told (CanContinue old call.stage) (CanContinue old call.stage) h.memory;
    }

-- refused by the server or by a fault
open_failed : (facts : Facts) (old mid : Core) (call next : CallValue Granting) (content : List ℕ) (e : Error)
    (site : Site) (plan : Plan) (answers : Answers) → is_ended next.stage ≡ true
    → IsOver {V = GrantValue} next.stage (Ready (Err e))
    → grant_brought old call.stage ≡ None
    → PollsByPlan {V = GrantValue} grant_meaning (writes_content content site facts answers) plan answers old mid call
    next (Ready (Err e))
    → PollsWholeWrite site facts plan answers old mid (writing.Opening call content) writing.Ended (Ready (Err e))
open_failed facts old mid call next content error.OutOfMemory site plan answers ended over none h =
    absurd (let clash : true ≡ false = sym ended ∙ over in cc)
open_failed facts old mid call next content (error.BackgroundTaskFailure fault) site plan answers ended over none
    (inl h) =
    absurd (let clash : ◌≡◌ {A = Poll (Result GrantValue Error)} (Ready (Err (error.BackgroundTaskFailure fault)))
    Pending = h.pending in cc)
open_failed facts old mid call next content (error.BackgroundTaskFailure fault) site plan answers ended over none
    (inr h) =
    (h.0, h.2, h.3 ∙ sym (ap (closed_if (polled_core old call.stage)) none))
open_failed facts old mid call next content e site plan answers ended over none (inl h) =
    absurd (let clash : ◌≡◌ {A = Poll (Result GrantValue Error)} (Ready (Err e)) Pending = h.pending in cc)
open_failed facts old mid call next content e site plan answers ended over none (inr h) =
    (h.0, h.2 ∙ sym (ap (closed_if (polled_core old call.stage)) none))

failed_over : (s : Stage) (e : Error) → is_ended s ≡ true → IsOver {V = GrantValue} s (Ready (Err e))
    → IsOverBy writing.Ended (Ready (Err e))
failed_over s error.OutOfMemory ended over = absurd (let clash : true ≡ false = sym ended ∙ over in cc)
failed_over s e ended over = refl

pub open_end : (facts : Facts) (old mid new : Core) (call next : CallValue Granting) (content : List ℕ) (e : Error)
    → StepsByPlan {V = GrantValue} grant_meaning old mid call next (Ready (Err e)) → is_ended next.stage ≡ true → new
    ≡ core_after_cancel mid next.stage
    → WroteOn facts old new (writing.Opening call content) writing.Ended (Ready (Err e))
open_end facts old mid new call next content e h ended left =
    let same : mid ≡ new = sym (left ∙ ended_leaves mid next.stage ended) in
    record {
      polled = λ site plan answers here tells.
          subst (λ (x : Core). PollsWholeWrite site facts plan answers old x (writing.Opening call content)
          writing.Ended (Ready (Err e))) same
          (open_failed facts old mid call next content e site plan answers ended h.over
          (sym h.brings ∙ ended_brings mid next.stage ended)
          (h.polled (writes_content content site facts answers) plan answers here tells));
      held = tt;
      over = failed_over next.stage e ended h.over;
      spares = spares_same old mid new (IsNoneOfCall call.stage) (λ id. Unit {0}) (sym same)
          (spares_as old mid (IsNoneOfCall call.stage) (IsNoneOfCall next.stage) (λ id. Unit {0}) (λ id x. tt)
          (stepped_spares grant_meaning old mid call next (Ready (Err e)) h));
      memory = failed_short e (CanContinue old call.stage) (CanContinue old call.stage) h.memory;
    }
