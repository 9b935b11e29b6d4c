-- How whole writes go on.
use Rattle.std.proofs.Common.{
  ◌≡◌,
  ◌≢◌,
  ◌==◌,
  ◌∙◌,
  arith,
  refl,
  sym,
  ap,
  subst,
  ℕ,
  true,
  false,
  List,
  [],
  ◌∷◌,
  length,
  Option,
  Some,
  None,
  Ok,
  Err,
  inl,
  inr,
}
use Rattle.std.proofs.lemmas.Bool.Decides.{nat_tests}
use Rattle.sftp_model.specs.declared.error.Error.{Error}
use Rattle.sftp_model.specs.declared.error.Error.TheVariants as error
use Rattle.sftp_model.specs.declared.error.Fault.{Fault}
use Rattle.sftp_model.specs.declared.outcome.Outcome.TheVariants as outcome
use Rattle.sftp_model.specs.declared.reply.Reply.TheVariants as reply
use Rattle.sftp_model.specs.declared.request.Request.TheVariants as request
use Rattle.sftp_model.specs.declared.slot.Facts.{Facts}
use Rattle.sftp_model.specs.declared.slot.Move.TheVariants.{Ask, Done}
use Rattle.sftp_model.specs.declared.slot.Site.{Site}
use Rattle.plan_model.specs.Moves.{Answers, Own, Plan, handle_of, overflows}
use Rattle.plan_model.specs.TransferPlans.{next_part, part_len}
use Rattle.sftp_core.specs.Core.{Core}
use Rattle.plan_state.proofs.Going.{short_then}
use Rattle.plan_state.proofs.OthersKept.{keeps_unchanged}
use Rattle.plan_state.proofs.Sparing.{closed_spares, spares_also, spares_as, spares_both, spares_kept, stepped_spares, submitted_spares}
use Rattle.sftp_core.specs.Grant.{GrantValue}
use Rattle.plan_state.specs.declared.submission.Asking.{Asking}
use Rattle.plan_state.specs.declared.poll.Poll.TheVariants.{Pending, Ready}
use Rattle.plan_state.specs.declared.stage.Stage.{Stage}
use Rattle.plan_state.specs.declared.stage.Stage.TheVariants as stage
use Rattle.plan_state.specs.Asked.{request_of}
use Rattle.plan_state.specs.Keeping.{KeepsHeld, SparesOthers}
use Rattle.sftp_file.proofs.Starting.{StartsAny}
use Rattle.plan_state.specs.Calls.{
  AsksAndAwaits,
  BeginsCall,
  CallValue,
  CanContinue,
  core_after_cancel,
  is_ended,
  IsNoneOfCall,
  IsOver,
  PollsByPlan,
  StartsByPlan,
  StepsByPlan,
}
use Rattle.plan_state.specs.Runners.{GoesBehind}
use Rattle.sftp_fs.specs.Parts.{IsPart, PartValue, first_part, rest_from, writing_parts}
use Rattle.sftp_fs.specs.WholeWrites.{
  BeginsWholeWrite,
  BeganWrite,
  core_after_close,
  fault_told,
  IsNoneOfWrite,
  IsOverBy,
  IsOwned,
  IsUnbegun,
  IsUnbegunBy,
  IsWriteHeld,
  IsWriteLeft,
  WriteAnswer,
  WriteTells,
  PollsWholeWrite,
  WroteOn,
}
use Rattle.sftp_fs.specs.declared.fs_write.Writing.{Writing}
use Rattle.sftp_fs.specs.declared.fs_write.Writing.TheVariants as writing
use Rattle.sftp_fs.proofs.CallSteps.{ended_leaves}
use Rattle.sftp_fs.proofs.PartLaws.{one_joined, part_length}

-- ---- a grant is closed

pub closes_last : (old mid new : Core) (grant : GrantValue) (P : ℕ → Type 0)
    → SparesOthers old mid P (λ id. id ≢ grant.id) → IsOwned mid grant
    → new ≡ core_after_close mid grant → SparesOthers old new P (λ id. Unit {0})
closes_last old mid new grant P spares owned close =
    spares_both old mid new P (λ id. id ≢ grant.id) (λ id. Unit {0}) spares (closed_spares mid new grant owned close)

pub closes_only : (old new : Core) (grant : GrantValue) → IsOwned old grant → new ≡ core_after_close old grant
    → SparesOthers old new (λ id. id ≢ grant.id) (λ id. Unit {0})
closes_only old new grant owned close = closed_spares old new grant owned close

pub spares_unchanged : (old new : Core) (P : ℕ → Type 0) → new ≡ old → SparesOthers old new P P
spares_unchanged old new P same = spares_kept old new P (keeps_unchanged old new same)

-- ---- the WRITE of a part

pub asks_part : (m : PartValue) (asking : Asking) (site : Site) (answers : Answers) → IsPart m asking
    → handle_of (answers 1) ≡ m.handle → rest_from m.done m.rest site m.facts [] answers ≡ Ask (request_of asking)
asks_part m asking site answers h bears =
    let some : (length m.rest == 0) ≡ false = grind (arith, nat_tests, h.some) in
    let len : length (next_part m.facts m.rest) ≡ part_len m.facts m.rest = part_length m.facts m.rest in
    let below : overflows m.done (length (next_part m.facts m.rest)) ≡ false = grind (arith, nat_tests, h.room, len) in
    rw (some, below, bears)
    (ap (λ (bytes : List ℕ). Ask (request.Write m.handle m.done bytes)) (sym (one_joined (next_part m.facts m.rest)))
    ∙ ap (λ (a : Asking). Ask (request_of a)) (sym h.asks))

pub first_behind : (handle content : List ℕ) (facts : Facts) (m : PartValue) (asking : Asking) (site : Site)
    (plan : Plan) (answers : Answers)
    → m ≡ first_part handle facts content → IsPart m asking → handle_of (answers 1) ≡ handle
    → ((later : Own) → plan later answers ≡ rest_from 0 content site facts later answers)
    → GoesBehind writing_parts site plan answers asking m
first_behind handle content facts m asking site plan answers is h bears goes =
    let known : handle_of (answers 1) ≡ m.handle = bears ∙ ap (λ (x : PartValue). x.handle) (sym is) in
    let same : (later : Own) → plan later answers ≡ rest_from m.done m.rest site m.facts later answers =
    λ later. goes later ∙ ap (λ (x : PartValue). rest_from x.done x.rest site x.facts later answers) (sym is) in
    record {
      asks = same [] ∙ asks_part m asking site answers h known;
      rest = λ later. same ((m.place, request_of asking) ∷ later);
      knows = known;
    }

-- ---- a part under way

parts_wrote : (facts : Facts) (old new : Core) (grant : GrantValue) (call next : CallValue PartValue)
    (told : WriteAnswer)
    (site : Site) (plan : Plan) (answers : Answers) → is_ended next.stage ≡ false → IsOver next.stage told
    → PollsByPlan writing_parts site plan answers old new call next told
    → PollsWholeWrite site facts plan answers old new (writing.Parts grant call) (writing.Parts grant next) told
parts_wrote facts old new grant call next Pending site plan answers on over (inl h) =
    inl (record {
      place = call.runner.place;
      waits = h.waits;
      unfailed = h.unfailed;
      core = h.core;
      same = ap (λ (x : CallValue PartValue). writing.Parts grant x) h.same;
    })
parts_wrote facts old new grant call next Pending site plan answers on over (inr h) = inr h
parts_wrote facts old new grant call next (Ready (Err error.OutOfMemory)) site plan answers on over (inl h) =
    absurd (let clash : ◌≡◌ {A = WriteAnswer} (Ready (Err error.OutOfMemory)) Pending = h.pending in cc)
parts_wrote facts old new grant call next (Ready (Err error.OutOfMemory)) site plan answers on over (inr h) = h
parts_wrote facts old new grant call next (Ready (Ok u)) site plan answers on over h =
    absurd (let clash : true ≡ false = sym over ∙ on in cc)
parts_wrote facts old new grant call next (Ready (Err e)) site plan answers on over h =
    absurd (let clash : true ≡ false = sym over ∙ on in cc)

parts_over : (stage : Stage) (grant : GrantValue) (next : CallValue PartValue) (told : WriteAnswer) → is_ended stage
    ≡ false → IsOver stage told
    → IsOverBy (writing.Parts grant next) told
parts_over stage grant next Pending on over = refl
parts_over stage grant next (Ready (Err error.OutOfMemory)) on over = refl
parts_over stage grant next (Ready (Ok u)) on over = absurd (let clash : true ≡ false = sym over ∙ on in cc)
parts_over stage grant next (Ready (Err e)) on over = absurd (let clash : true ≡ false = sym over ∙ on in cc)

parts_spare : (old new : Core) (grant : GrantValue) (call next : CallValue PartValue) (told : WriteAnswer)
    → StepsByPlan writing_parts old new call next told
    → SparesOthers old new (λ id. (id ≢ grant.id) × IsNoneOfCall call.stage id)
    (λ id. (id ≢ grant.id) × IsNoneOfCall next.stage id)
parts_spare old new grant call next told h =
    spares_also old new (λ id. id ≢ grant.id) (IsNoneOfCall call.stage) (IsNoneOfCall next.stage)
    (stepped_spares writing_parts old new call next told h)

pub parts_on : (facts : Facts) (old new : Core) (grant : GrantValue) (call next : CallValue PartValue)
    (told : WriteAnswer)
    → IsOwned old grant → call.runner.handle ≡ grant.handle → StepsByPlan writing_parts old new call next told
    → is_ended next.stage ≡ false
    → WroteOn facts old new (writing.Parts grant call) (writing.Parts grant next) told
parts_on facts old new grant call next told owned bears h on =
    record {
      polled = λ site plan answers left tells. parts_wrote facts old new grant call next told site plan answers on
          h.over
          (h.polled site plan answers left tells);
      held = (h.grants.grants grant.id grant.handle 1 owned, record { over = on; held = h.held }, h.stays ∙ bears);
      over = parts_over next.stage grant next told on h.over;
      spares = parts_spare old new grant call next told h;
      memory = short_then told ((true ≡ true) × CanContinue old call.stage) (CanContinue old call.stage)
          (λ both. both.1) h.memory;
    }

parts_finished : (facts : Facts) (old mid new : Core) (grant : GrantValue) (call next : CallValue PartValue)
    (told : WriteAnswer)
    (site : Site) (plan : Plan) (answers : Answers) → is_ended next.stage ≡ true → IsOver next.stage told → new
    ≡ core_after_close mid grant
    → PollsByPlan writing_parts site plan answers old mid call next told
    → PollsWholeWrite site facts plan answers old new (writing.Parts grant call) writing.Ended told
parts_finished facts old mid new grant call next Pending site plan answers ended over close h =
    absurd (let clash : true ≡ false = sym ended ∙ over in cc)
parts_finished facts old mid new grant call next (Ready (Err error.OutOfMemory)) site plan answers ended over close h =
    absurd (let clash : true ≡ false = sym ended ∙ over in cc)
parts_finished facts old mid new grant call next (Ready (Err (error.BackgroundTaskFailure fault))) site plan answers
    ended over close (inl h) =
    absurd (let clash : ◌≡◌ {A = WriteAnswer} (Ready (Err (error.BackgroundTaskFailure fault))) Pending = h.pending in
    cc)
parts_finished facts old mid new grant call next (Ready (Err (error.BackgroundTaskFailure fault))) site plan answers
    ended over close (inr h) =
    (h.0, h.2, close ∙ ap (λ (x : Core). core_after_close x grant) h.3)
parts_finished facts old mid new grant call next (Ready (Ok u)) site plan answers ended over close (inl h) =
    absurd (let clash : ◌≡◌ {A = WriteAnswer} (Ready (Ok u)) Pending = h.pending in cc)
parts_finished facts old mid new grant call next (Ready (Ok u)) site plan answers ended over close (inr h) =
    (h.0, close ∙ ap (λ (x : Core). core_after_close x grant) h.2)
parts_finished facts old mid new grant call next (Ready (Err e)) site plan answers ended over close (inl h) =
    absurd (let clash : ◌≡◌ {A = WriteAnswer} (Ready (Err e)) Pending = h.pending in cc)
parts_finished facts old mid new grant call next (Ready (Err e)) site plan answers ended over close (inr h) =
    (h.0, close ∙ ap (λ (x : Core). core_after_close x grant) h.2)

finished_over : (stage : Stage) (told : WriteAnswer) → is_ended stage ≡ true → IsOver stage told
    → IsOverBy writing.Ended told
finished_over stage Pending ended over = absurd (let clash : true ≡ false = sym ended ∙ over in cc)
finished_over stage (Ready (Err error.OutOfMemory)) ended over =
    absurd (let clash : true ≡ false = sym ended ∙ over in cc)
finished_over stage (Ready (Ok u)) ended over = refl
finished_over stage (Ready (Err e)) ended over = refl

pub parts_end : (facts : Facts) (old mid late new : Core) (grant : GrantValue) (call next : CallValue PartValue)
    (told : WriteAnswer)
    → IsOwned old grant → StepsByPlan writing_parts old mid call next told → is_ended next.stage ≡ true → late
    ≡ core_after_cancel mid next.stage
    → new ≡ core_after_close late grant → WroteOn facts old new (writing.Parts grant call) writing.Ended told
parts_end facts old mid late new grant call next told owned h ended left close =
    let same : new ≡ core_after_close mid grant = close ∙ ap (λ (x : Core). core_after_close x grant)
    (left ∙ ended_leaves mid next.stage ended) in
    record {
      polled = λ site plan answers here tells. parts_finished facts old mid new grant call next told site plan answers
          ended h.over same
          (h.polled site plan answers here tells);
      held = tt;
      over = finished_over next.stage told ended h.over;
      spares = closes_last old mid new grant (λ id. (id ≢ grant.id) × IsNoneOfCall call.stage id)
          (spares_as old mid (λ id. (id ≢ grant.id) × IsNoneOfCall call.stage id)
          (λ id. (id ≢ grant.id) × IsNoneOfCall next.stage id)
          (λ id. id ≢ grant.id) (λ id both. both.0) (parts_spare old mid grant call next told h))
          (h.grants.grants grant.id grant.handle 1 owned) same;
      memory = short_then told ((true ≡ true) × CanContinue old call.stage) (CanContinue old call.stage)
          (λ both. both.1) h.memory;
    }

-- ---- the first part

start_asks : (s : Stage) (ticket : ℕ) → s ≡ stage.Asked ticket → s ≡ stage.Ready → ⊥
start_asks s ticket asked ready = let clash : ◌≡◌ {A = Stage} (stage.Asked ticket) stage.Ready = sym asked ∙ ready in cc

-- it was asked for
pub begun_asking : (facts : Facts) (old new : Core) (grant : GrantValue) (content : List ℕ) (m : PartValue)
    (asking : Asking)
    (call : CallValue PartValue) → m ≡ first_part grant.handle facts content → IsPart m asking → IsOwned old grant
    → StartsAny writing_parts asking m old new (Ok call) → BeginsCall writing_parts asking m old new call
    → KeepsHeld old new
    → BeganWrite facts old new grant content (writing.Parts grant call) Pending
begun_asking facts old new grant content m asking call is part owned started begins keeps =
    record {
      polled = λ site plan answers left. asks_of
          (started site (λ e. Done (outcome.Refused e) site) plan answers
          (first_behind grant.handle content facts m asking site plan answers is part left.0 left.1));
      held = (
        keeps.grants.grants grant.id grant.handle 1 owned,
        begins.under_way,
        ap (λ (x : PartValue). x.handle) begins.runner ∙ ap (λ (x : PartValue). x.handle) is,
      );
      over = refl;
      spares = submitted_spares old new asking begins.ticket (λ id. id ≢ grant.id) call.stage begins.submitted
          begins.awaits;
    }
  where
    asks_of : {site : Site} {plan : Plan} {answers : Answers} →
        StartsByPlan writing_parts site (λ e. Done (outcome.Refused e) site) plan answers old new (Ok call)
        → AsksAndAwaits writing_parts site plan answers old new call
    asks_of (inl h) = h
    asks_of (inr h) = absurd (start_asks call.stage begins.ticket begins.awaits h.1)

-- there was none
pub begun_empty : (facts : Facts) (old new : Core) (grant : GrantValue) (content : List ℕ) → IsOwned old grant → content
    ≡ [] → new ≡ core_after_close old grant
    → BeganWrite facts old new grant content writing.Ended (Ready (Ok tt))
begun_empty facts old new grant content owned empty close =
    record {
      polled = λ site plan answers left. (
        left.1 [] ∙ ap (λ (bytes : List ℕ). rest_from 0 bytes site facts [] answers)
            empty,
        close,
      );
      held = tt;
      over = refl;
      spares = closes_only old new grant owned close;
    }

-- it was not
unbegun_by : (facts : Facts) (old new : Core) (grant : GrantValue) (content : List ℕ) (e : Error)
    (result : WriteAnswer × Writing)
    (site : Site) (plan : Plan) (answers : Answers) → IsUnbegun old new grant content e result
    → IsWriteLeft site facts plan answers (writing.Opened grant content)
    → StartsByPlan writing_parts site (λ e. Done (outcome.Refused e) site) plan answers old old (Err e)
    → BeginsWholeWrite site facts plan answers old new grant result.1 result.0
unbegun_by facts old new grant content (error.BackgroundTaskFailure fault) result site plan answers h left started =
    subst (λ (r : WriteAnswer). BeginsWholeWrite site facts plan answers old new grant result.1 r) (sym h.0)
    (started.0, started.2, h.2)
unbegun_by facts old new grant content error.OutOfMemory result site plan answers h left started =
    subst (λ (r : WriteAnswer). BeginsWholeWrite site facts plan answers old new grant result.1 r) (sym h.0) (
      subst (λ (q : Writing). IsWriteLeft site facts plan answers q) (sym h.1) left,
      h.2,
      subst (λ (q : Writing). WriteTells new answers q) (sym h.1) tt,
    )
unbegun_by facts old new grant content e result site plan answers h left started =
    subst (λ (r : WriteAnswer). BeginsWholeWrite site facts plan answers old new grant result.1 r) (sym h.0) (
      subst (λ (q : Writing). IsWriteLeft site facts plan answers q) (sym h.1) left,
      h.2,
      subst (λ (q : Writing). WriteTells new answers q) (sym h.1) tt,
    )

-- a start that was refused left the core
refused_same : (site : Site) (plan : Plan) (answers : Answers) (old mid : Core) (e : Error)
    → StartsByPlan {V = Unit {0}} writing_parts site (λ e. Done (outcome.Refused e) site) plan answers old mid (Err e)
    → mid ≡ old
refused_same site plan answers old mid error.OutOfMemory h = h
refused_same site plan answers old mid (error.BackgroundTaskFailure fault) h = h.1
refused_same site plan answers old mid e h = h.1

unbegun_spares : (old new : Core) (grant : GrantValue) (content : List ℕ) (f : Option Fault)
    (result : WriteAnswer × Writing)
    → IsOwned old grant → IsUnbegunBy old new grant content f result
    → SparesOthers old new (λ id. id ≢ grant.id) (IsNoneOfWrite result.1)
unbegun_spares old new grant content (Some fault) result owned h =
    subst (λ (q : Writing). SparesOthers old new (λ id. id ≢ grant.id) (IsNoneOfWrite q)) (sym h.1)
    (closes_only old new grant owned h.2)
unbegun_spares old new grant content None result owned h =
    subst (λ (q : Writing). SparesOthers old new (λ id. id ≢ grant.id) (IsNoneOfWrite q)) (sym h.1)
    (spares_unchanged old new (λ id. id ≢ grant.id) h.2)

unbegun_held : (old new : Core) (grant : GrantValue) (content : List ℕ) (f : Option Fault)
    (result : WriteAnswer × Writing)
    → IsOwned old grant → IsUnbegunBy old new grant content f result → IsWriteHeld new result.1
    × IsOverBy result.1 result.0
unbegun_held old new grant content (Some fault) result owned h = (
  subst (λ (q : Writing). IsWriteHeld new q) (sym h.1) tt,
  subst (λ (q : Writing). IsOverBy q result.0) (sym h.1) (subst (λ (r : WriteAnswer). IsOverBy writing.Ended r)
      (sym h.0) refl),
)
unbegun_held old new grant content None result owned h = (
  subst (λ (q : Writing). IsWriteHeld new q) (sym h.1) (subst (λ (x : Core). IsOwned x grant) (sym h.2) owned),
  subst (λ (q : Writing). IsOverBy q result.0) (sym h.1)
      (subst (λ (r : WriteAnswer). IsOverBy (writing.Opened grant content) r) (sym h.0) refl),
)

pub begun_refused : (facts : Facts) (old mid new : Core) (grant : GrantValue) (content : List ℕ) (m : PartValue)
    (asking : Asking)
    (e : Error) (result : WriteAnswer × Writing) → m ≡ first_part grant.handle facts content → IsPart m asking
    → IsOwned old grant
    → StartsAny writing_parts asking m old mid (Err e) → IsUnbegun mid new grant content e result
    → BeganWrite facts old new grant content result.1 result.0
begun_refused facts old mid new grant content m asking e result is part owned started h =
    let nowhere_left : Site = record { slots = []; directory = [] } in
    let granted : Answers = λ place. Some (reply.Handle grant.handle) in
    let same : mid ≡ old = refused_same nowhere_left (rest_from 0 content nowhere_left facts) granted old mid e
    (started nowhere_left (λ e. Done (outcome.Refused e) nowhere_left) (rest_from 0 content nowhere_left facts) granted
    (first_behind grant.handle content facts m asking nowhere_left (rest_from 0 content nowhere_left facts) granted is
    part refl
    (λ later. refl))) in
    let here : IsUnbegun old new grant content e result = subst (λ (x : Core). IsUnbegun x new grant content e result)
    same h in
    let stands = unbegun_held old new grant content (fault_told e) result owned here in
    record {
      polled = λ site plan answers left. unbegun_by facts old new grant content e result site plan answers here left
          (subst (λ (x : Core). StartsByPlan {V = Unit {0}} writing_parts site (λ e. Done (outcome.Refused e) site) plan
          answers old x (Err e)) same
          (started site (λ e. Done (outcome.Refused e) site) plan answers
          (first_behind grant.handle content facts m asking site plan answers is part left.0 left.1)));
      held = stands.0;
      over = stands.1;
      spares = unbegun_spares old new grant content (fault_told e) result owned here;
    }
