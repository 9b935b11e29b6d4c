-- Whole writes after the HANDLE, left alone by others, and given up.
use Rattle.std.proofs.Common.{
  ◌≡◌,
  ◌≢◌,
  ◌∙◌,
  arith,
  refl,
  sym,
  ap,
  subst,
  ℕ,
  true,
  List,
  [],
  Option,
  Some,
  None,
  Ok,
  Err,
  inr,
  IsSome,
}
use Rattle.sftp_model.specs.declared.error.Error.TheVariants as error
use Rattle.sftp_model.specs.declared.error.Fault.{Fault}
use Rattle.sftp_model.specs.declared.outcome.Outcome.TheVariants as outcome
use Rattle.sftp_model.specs.declared.reply.Reply.TheVariants as reply
use Rattle.sftp_model.specs.declared.slot.Facts.{Facts}
use Rattle.sftp_model.specs.declared.slot.Move.TheVariants.{Done}
use Rattle.sftp_model.specs.declared.slot.Site.{Site}
use Rattle.plan_model.specs.Moves.{Answers, Own, Plan, handle_of}
use Rattle.sftp_core.specs.Core.{Core, record_at, poll_leaves, reply_in}
use Rattle.sftp_core.specs.Info.{info_of}
use Rattle.sftp_core.specs.declared.handshake.Handshake.{Handshake}
use Rattle.sftp_core.specs.declared.id_record.IdRecord.{IdRecord}
use Rattle.sftp_core.specs.declared.id_record.IdRecord.TheVariants.{Answered, Granted, Waiting}
use Rattle.plan_state.proofs.Going.{short_any}
use Rattle.plan_state.proofs.Grants.{brought_continues}
use Rattle.plan_state.proofs.OthersKept.{still_under_way}
use Rattle.plan_state.proofs.Sparing.{cancelled_spares, given_spares, spares_also, spares_as, spares_both, spares_same}
use Rattle.plan_state.specs.declared.told.Told.TheVariants as told
use Rattle.plan_state.proofs.Polling.{polls_few}
use Rattle.plan_state.specs.Told.{reply_of}
use Rattle.sftp_core.specs.Grant.{GrantValue}
use Rattle.plan_state.specs.declared.poll.Poll.TheVariants.{Pending, Ready}
use Rattle.plan_state.specs.declared.stage.Stage.{Stage}
use Rattle.plan_state.specs.declared.stage.Stage.TheVariants as stage
use Rattle.plan_state.specs.Asked.{IsReady}
use Rattle.plan_state.specs.Keeping.{KeepsHeld}
use Rattle.sftp_file.proofs.Steps.{cancelled_keeps}
use Rattle.plan_state.specs.Calls.{
  CallValue,
  CanContinue,
  core_after_cancel,
  CancelsAwaited,
  grant_brought,
  is_ended,
  IsNoneOfCall,
  IsUnderWay,
  polled_core,
  StepsByPlan,
  TellsAt,
}
use Rattle.sftp_fs.specs.Directories.{WithHandle, granted_left}
use Rattle.sftp_fs.specs.Grants.{grant_meaning}
use Rattle.sftp_fs.specs.Parts.{PartValue, rest_from, writing_parts}
use Rattle.sftp_fs.specs.WholeWrites.{
  AsksPart,
  BeginsWholeWrite,
  BeganWrite,
  CancelsWrite,
  core_after_close,
  closed_if,
  IsNoneOfWrite,
  IsOwned,
  IsWriteHeld,
  WriteAnswer,
  writes_content,
  PollsWholeWrite,
  WroteOn,
}
use Rattle.sftp_fs.specs.declared.fs_write.Writing.{Writing}
use Rattle.sftp_fs.specs.declared.fs_write.Writing.TheVariants as writing
use Rattle.sftp_fs.specs.declared.grants.Granting.{Granting}
use Rattle.sftp_fs.proofs.CallSteps.{ended_leaves}
use Rattle.sftp_fs.proofs.WriteSteps.{closes_last, closes_only, spares_unchanged}
use Rattle.sftp_fs.proofs.WriteOpens.{left_any, left_later, granted_goes, granted_same, same_handle}

-- ---- behind the HANDLE

closes_brought : (old late : Core) (call : CallValue Granting) (grant : GrantValue) → late ≡ polled_core old call.stage
    → grant_brought old call.stage ≡ Some grant
    → core_after_close late grant ≡ closed_if (polled_core old call.stage) (grant_brought old call.stage)
closes_brought old late call grant is brings = ap (λ (x : Core). core_after_close x grant) is
    ∙ sym (ap (closed_if (polled_core old call.stage)) brings)

began_opening : (site : Site) (facts : Facts) (plan : Plan) (answers : Answers) (old late new : Core)
    (call : CallValue Granting)
    (content : List ℕ) (grant : GrantValue) (q : Writing) (result : WriteAnswer) → late ≡ polled_core old call.stage
    → grant_brought old call.stage ≡ Some grant → BeginsWholeWrite site facts plan answers late new grant q result
    → PollsWholeWrite site facts plan answers old new (writing.Opening call content) q result
began_opening site facts plan answers old late new call content grant q Pending is brings h =
    inr (subst (λ (x : Core). AsksPart site plan answers x new q) is h)
began_opening site facts plan answers old late new call content grant q (Ready (Err error.OutOfMemory)) is brings h =
    (h.0, h.1 ∙ is, h.2)
began_opening site facts plan answers old late new call content grant q
    (Ready (Err (error.BackgroundTaskFailure fault))) is brings h =
    (subst (λ (x : Core). x.fault ≡ Some fault) is h.0, h.1, h.2 ∙ closes_brought old late call grant is brings)
began_opening site facts plan answers old late new call content grant q (Ready (Ok u)) is brings h =
    (h.0, h.1 ∙ closes_brought old late call grant is brings)
began_opening site facts plan answers old late new call content grant q (Ready (Err e)) is brings h =
    (h.0, h.1 ∙ closes_brought old late call grant is brings)

pub open_begun : (facts : Facts) (old mid late new : Core) (call next : CallValue Granting) (content : List ℕ)
    (grant : GrantValue)
    (q : Writing) (result : WriteAnswer) → IsUnderWay grant_meaning old call
    → StepsByPlan grant_meaning old mid call next (Ready (Ok grant))
    → is_ended next.stage ≡ true → late ≡ core_after_cancel mid next.stage
    → BeganWrite facts late new grant content q result
    → WroteOn facts old new (writing.Opening call content) q result
open_begun facts old mid late new call next content grant q result held h ended left begun =
    record {
      polled = λ site plan answers here tells.
          (let w : WithHandle = writes_content content site facts answers in
          let told : WithHandle = (site, λ handle later. Done (outcome.Bytes handle) site) in
          let same : late ≡ polled_core old call.stage = left ∙ (ended_leaves mid next.stage ended
          ∙ granted_same w plan answers old mid call next grant (h.polled w plan answers here tells)) in
          let bears : handle_of (answers 1) ≡ grant.handle = same_handle site (answers 1) grant.handle
          (granted_goes told (granted_left told) answers old mid call next grant
          (h.polled told (granted_left told) answers (left_any old call told answers held) tells)) in
          let goes : (later : Own) → plan later answers ≡ rest_from 0 content site facts later answers = λ later.
          granted_goes (site, λ handle own. rest_from 0 content site facts later answers) (λ own a. plan later a)
          answers old mid call next grant
          (h.polled (site, λ handle own. rest_from 0 content site facts later answers) (λ own a. plan later a) answers
          (left_later old call w plan answers later held here) tells) in
          began_opening site facts plan answers old late new call content grant q result same (sym h.brings)
          (begun.polled site plan answers (bears, goes)));
      held = begun.held;
      over = begun.over;
      spares = spares_both old late new (IsNoneOfCall call.stage) (λ id. id ≢ grant.id) (IsNoneOfWrite q)
          (spares_same old mid late (IsNoneOfCall call.stage) (λ id. id ≢ grant.id)
          (left ∙ ended_leaves mid next.stage ended)
          (given_spares grant_meaning old mid call next grant grant refl h)) begun.spares;
      memory = short_any result (CanContinue old call.stage)
          (brought_continues old call.stage grant (sym h.brings));
    }

began_opened : (site : Site) (facts : Facts) (plan : Plan) (answers : Answers) (old new : Core) (grant : GrantValue)
    (content : List ℕ)
    (q : Writing) (result : WriteAnswer) → BeginsWholeWrite site facts plan answers old new grant q result
    → PollsWholeWrite site facts plan answers old new (writing.Opened grant content) q result
began_opened site facts plan answers old new grant content q Pending h = inr h
began_opened site facts plan answers old new grant content q (Ready (Err error.OutOfMemory)) h = h
began_opened site facts plan answers old new grant content q (Ready (Err (error.BackgroundTaskFailure fault))) h = h
began_opened site facts plan answers old new grant content q (Ready (Ok u)) h = h
began_opened site facts plan answers old new grant content q (Ready (Err e)) h = h

pub opened_on : (facts : Facts) (old new : Core) (grant : GrantValue) (content : List ℕ) (q : Writing)
    (result : WriteAnswer)
    → BeganWrite facts old new grant content q result → WroteOn facts old new (writing.Opened grant content) q result
opened_on facts old new grant content q result h =
    record {
      polled = λ site plan answers left tells. began_opened site facts plan answers old new grant content q result
          (h.polled site plan answers left);
      held = h.held;
      over = h.over;
      spares = h.spares;
      memory = short_any result (Unit {0}) tt;
    }

-- ---- a core behind the poll of an OPEN

phase_left : (core : Core) (ticket : ℕ) (fault : Option Fault) (p : Option IdRecord)
    → (poll_leaves core ticket fault p).phase ≡ core.phase
phase_left core ticket fault (Some (Answered expected (reply.Handle handle))) = refl
phase_left core ticket fault (Some (Answered expected (reply.Version version extensions))) = refl
phase_left core ticket fault (Some (Answered expected (reply.Status code message language))) = refl
phase_left core ticket fault (Some (Answered expected (reply.Content bytes))) = refl
phase_left core ticket fault (Some (Answered expected (reply.Names entries))) = refl
phase_left core ticket fault (Some (Answered expected (reply.Attrs attrs))) = refl
phase_left core ticket fault (Some (Answered expected (reply.Extended content))) = refl
phase_left core ticket (Some f) (Some (Waiting expected sent wanted)) = refl
phase_left core ticket None (Some (Waiting expected sent wanted)) = refl
phase_left core ticket fault (Some (Granted handle users)) = refl
phase_left core ticket fault None = refl

pub ready_polled : (core : Core) (s : Stage) → IsReady core → IsReady (polled_core core s)
ready_polled core (stage.Asked ticket) h =
    record {
      opened = subst (λ (p : Handshake). IsSome (info_of p)) (sym
          (phase_left core ticket core.fault (record_at core ticket))) h.opened;
      few = omega (arith, polls_few core ticket, h.few);
    }
ready_polled core stage.Ended h = h
ready_polled core stage.Ready h = h
ready_polled core (stage.Unsent asking) h = h
ready_polled core (stage.Came told) h = h

pub told_at : (core : Core) (m : Granting) (s : Stage) → (answers : Answers) × TellsAt grant_meaning core m s answers
told_at core m (stage.Asked ticket) = (λ place. reply_in (record_at core ticket), refl)
told_at core m (stage.Came told) = (λ place. Some (reply_of told), refl)
told_at core m stage.Ended = (λ place. None, tt)
told_at core m stage.Ready = (λ place. None, tt)
told_at core m (stage.Unsent asking) = (λ place. None, tt)

pub ready_behind : (old mid late : Core) (call next : CallValue Granting) (grant : GrantValue) → IsReady old
    → IsUnderWay grant_meaning old call
    → StepsByPlan grant_meaning old mid call next (Ready (Ok grant)) → is_ended next.stage ≡ true → late
    ≡ core_after_cancel mid next.stage → IsReady late
ready_behind old mid late call next grant ready held h ended left =
    let w : WithHandle = (
      record { slots = []; directory = [] },
      λ handle later. Done outcome.Done (record { slots = []; directory = [] }),
    ) in
    let told = told_at old call.runner call.stage in
    let same : late ≡ polled_core old call.stage = left ∙ (ended_leaves mid next.stage ended
    ∙ granted_same w (granted_left w) told.0 old mid call next grant
    (h.polled w (granted_left w) told.0 (left_any old call w told.0 held) told.1)) in
    subst (λ (x : Core). IsReady x) (sym same) (ready_polled old call.stage ready)

-- ---- others leave a write

pub write_still : (old new : Core) (p : Writing) → KeepsHeld old new → IsWriteHeld old p → IsWriteHeld new p
write_still old new writing.Ended k h = tt
write_still old new (writing.Opening call content) k h = still_under_way grant_meaning old new call k h
write_still old new (writing.Opened grant content) k h = k.grants.grants grant.id grant.handle 1 h
write_still old new (writing.Parts grant call) k h =
    (k.grants.grants grant.id grant.handle 1 h.0, still_under_way writing_parts old new call k h.1, h.2)

-- ---- a write is given up

pub drops_opened : (old new : Core) (grant : GrantValue) (content : List ℕ) → IsOwned old grant → new
    ≡ core_after_close old grant
    → CancelsWrite old new (writing.Opened grant content)
drops_opened old new grant content owned close = record { core = close; spares = closes_only old new grant owned close }

pub drops_opening : (old new : Core) (call : CallValue Granting) (content : List ℕ) → CancelsAwaited old new call.stage
    → CancelsWrite old new (writing.Opening call content)
drops_opening old new call content cancels = record {
  core = cancels.core;
  spares =
      cancelled_spares old new call.stage cancels;
}

pub drops_nothing : (core : Core) → CancelsWrite core core writing.Ended
drops_nothing core = record { core = refl; spares = spares_unchanged core core (λ id. Unit {0}) refl }

pub drops_parts : (old mid new : Core) (grant : GrantValue) (call : CallValue PartValue) → IsOwned old grant
    → IsUnderWay writing_parts old call
    → CancelsAwaited old mid call.stage → new ≡ core_after_close mid grant
    → CancelsWrite old new (writing.Parts grant call)
drops_parts old mid new grant call owned h cancels close =
    record {
      core = close ∙ ap (λ (x : Core). core_after_close x grant) cancels.core;
      spares = closes_last old mid new grant (λ id. (id ≢ grant.id) × IsNoneOfCall call.stage id)
          (spares_as old mid (λ id. (id ≢ grant.id) × IsNoneOfCall call.stage id) (λ id. (id ≢ grant.id) × Unit {0})
          (λ id. id ≢ grant.id)
          (λ id both. both.0)
          (spares_also old mid (λ id. id ≢ grant.id) (IsNoneOfCall call.stage) (λ id. Unit {0})
          (cancelled_spares old mid call.stage cancels)))
          ((cancelled_keeps writing_parts old mid call refl h.held cancels).grants grant.id grant.handle 1 owned) close;
    }
