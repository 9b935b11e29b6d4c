-- How the calls of a file begin, by their plans.
use Rattle.std.proofs.Common.{◌≡◌, ◌==◌, ◌∙◌, refl, sym, ap, subst, ℕ, Bool, true, false, List, [], Result, Ok, Err, inr, if◌then◌else◌, IfOk}
use Rattle.std.specs.Prelude.{min, not}
use Rattle.sftp_model.specs.declared.error.Error.{Error}
use Rattle.sftp_model.specs.declared.error.Error.TheVariants as error
use Rattle.sftp_model.specs.declared.error.IoKind.{IoKind}
use Rattle.sftp_model.specs.declared.error.IoKind.TheVariants as kind
use Rattle.sftp_model.specs.declared.file_attrs.FileAttrs.{FileAttrs}
use Rattle.sftp_model.specs.declared.outcome.Outcome.TheVariants as outcome
use Rattle.sftp_model.specs.declared.request.Request.TheVariants as request
use Rattle.sftp_model.specs.declared.slot.Facts.{Facts}
use Rattle.sftp_model.specs.declared.slot.FileAt.{FileAt}
use Rattle.sftp_model.specs.declared.slot.Move.{Move}
use Rattle.sftp_model.specs.declared.slot.Move.TheVariants.{Ask, Done}
use Rattle.plan_model.specs.FilePlans.{meta_next, set_next, sync_next}
use Rattle.plan_model.specs.Moves.{Answers, Plan, ask_read, handle_of, offers, refuse_locally, refuses_extension}
use Rattle.sftp_model.specs.Numbers.{FSYNC}
use Rattle.plan_model.specs.TransferPlans.{read_next}
use Rattle.sftp_core.specs.Core.{Core}
use Rattle.plan_state.specs.declared.submission.Asking.{Asking}
use Rattle.plan_state.specs.declared.submission.Asking.TheVariants.{Whole}
use Rattle.plan_state.specs.declared.stage.Stage.TheVariants.{Ready}
use Rattle.plan_state.specs.Calls.{BeginsCall, CallValue, IsUnderWay, StartsByPlan}
use Rattle.plan_state.specs.Keeping.{KeepsHeld}
use Rattle.plan_state.specs.Runners.{GoesBehind, Meaning}
use Rattle.plan_state.proofs.Keeping.{keeps_same}
use Rattle.sftp_file.specs.Files.{IsHandleOfFile, FilePlan, FileValue, StartsOnFile, alone, facts_of, file_at}
use Rattle.sftp_file.specs.Outcomes.{checked_move}
use Rattle.sftp_file.specs.Reads.{read_meaning}
use Rattle.sftp_file.specs.Settles.{settle_meaning}
use Rattle.sftp_file.specs.Tells.{attrs_meaning}
use Rattle.sftp_file.specs.declared.short_calls.Settling.{Settling}
use Rattle.sftp_file.specs.declared.short_calls.Telling.{Telling}

-- what `PendingCall::ask` ensures for every plan
abbrev pub StartsAny : {W M V : Type 0} → Meaning W M V → Asking → M → Core → Core → Result (CallValue M) Error → Type 0
StartsAny {W} s asking m old new result =
    (w : W) (refused : Error → Move) (plan : Plan) (answers : Answers) → GoesBehind s w plan answers asking m
    → StartsByPlan s w refused plan answers old new result

begun_under_way : {W M V : Type 0} (s : Meaning W M V) (asking : Asking) (m : M) (old new : Core)
    (result : Result (CallValue M) Error)
    → IfOk result (BeginsCall s asking m old new) → IfOk result (IsUnderWay s new)
begun_under_way s asking m old new (Ok call) h = h.under_way
begun_under_way s asking m old new (Err e) h = tt

-- a start that asks
pub starts_asking : {W M V : Type 0} (s : Meaning W M V) (w : W) (plan : FilePlan) (f : FileValue) (asking : Asking)
    (m : M) (old new : Core) (result : Result (CallValue M) Error)
    → ((answers : Answers) → IsHandleOfFile f answers → GoesBehind s w (plan (alone f) (facts_of old)) answers asking m)
    → StartsAny s asking m old new result → IfOk result (BeginsCall s asking m old new) → KeepsHeld old new
    → StartsOnFile s w plan f old new result
starts_asking s w plan f asking m old new result behind started begins keeps =
    record {
      starts = λ answers brought. started w (λ e. Done (outcome.Refused e) (alone f)) (plan (alone f) (facts_of old))
          answers (behind answers brought);
      under_way = begun_under_way s asking m old new result begins;
      keeps = keeps;
    }

-- a start that needs no request
pub starts_ready : {W M V : Type 0} (s : Meaning W M V) (w : W) (plan : FilePlan) (f : FileValue) (m : M) (core : Core)
    → ((answers : Answers) → IsHandleOfFile f answers → plan (alone f) (facts_of core) [] answers ≡ s.first w m)
    → s.ready m
    → StartsOnFile s w plan f core core (Ok (record { stage = Ready; runner = m }))
starts_ready s w plan f m core first may =
    record {
      starts = λ answers brought. inr (first answers brought, refl, refl);
      under_way = record { over = refl; held = may };
      keeps = keeps_same core;
    }

-- a start that is refused
pub starts_refused : {W M V : Type 0} (s : Meaning W M V) (w : W) (plan : FilePlan) (f : FileValue) (core : Core)
    (why : IoKind)
    → ((answers : Answers) → IsHandleOfFile f answers → plan (alone f) (facts_of core) [] answers
    ≡ refuse_locally why (alone f))
    → StartsOnFile s w plan f core core (Err (error.IOError why))
starts_refused s w plan f core why refuses =
    record { starts = λ answers brought. (refuses answers brought, refl); under_way = tt; keeps = keeps_same core }

-- a start that asks this
pub starts_with : {W M V : Type 0} (s : Meaning W M V) (w : W) (plan : FilePlan) (f : FileValue) (asking asked : Asking)
    (m : M) (old new : Core) (result : Result (CallValue M) Error)
    → asking ≡ asked → ((answers : Answers) → IsHandleOfFile f answers
    → GoesBehind s w (plan (alone f) (facts_of old)) answers asked m)
    → StartsAny s asking m old new result → IfOk result (BeginsCall s asking m old new) → KeepsHeld old new
    → StartsOnFile s w plan f old new result
starts_with s w plan f asking asked m old new result is behind started begins keeps =
    starts_asking s w plan f asking m old new result
    (λ answers brought. subst (λ x. GoesBehind s w (plan (alone f) (facts_of old)) answers x m) (sym is)
    (behind answers brought)) started begins keeps

pub skip : (b : Bool) (x y : Move) → b ≡ true → (if not b then x else y) ≡ y
skip true x y e = refl
skip false x y e = absurd cc

-- ---- read

-- a read of some bytes looks at its file
some_read : (f : FileValue) (n : ℕ) (facts : Facts) (answers : Answers) → (n == 0) ≡ false
    → read_next 0 n (alone f) facts [] answers ≡ ask_read (file_at f) (min n facts.read_len) (alone f) answers
some_read f n facts answers some = rw some refl

-- and asks for them
pub read_behind : (f : FileValue) (file : FileAt) (n len : ℕ) (facts : Facts) (answers : Answers)
    (result : Result (Unit {0}) IoKind) (u : Unit {0}) → file ≡ file_at f → (n == 0) ≡ false → len
    ≡ min n facts.read_len → IsHandleOfFile f answers
    → ask_read file len (alone f) answers ≡ checked_move result (alone f)
    (Ask (request.Read (handle_of (answers file.grant)) file.offset len)) → result ≡ Ok u
    → GoesBehind read_meaning tt (read_next 0 n (alone f) facts) answers
    (Whole (request.Read f.grant.handle f.offset len)) (record { file = file; len = len })
read_behind f file n len facts answers result u at some is brought looks good =
    let seen : ask_read (file_at f) len (alone f) answers ≡ checked_move result (alone f)
    (Ask (request.Read (handle_of (answers 0)) f.offset len)) =
    subst (λ (x : FileAt). ask_read x len (alone f) answers ≡ checked_move result (alone f)
    (Ask (request.Read (handle_of (answers x.grant)) x.offset len))) at looks in
    record {
      asks = some_read f n facts answers some ∙ (ap (λ (k : ℕ). ask_read (file_at f) k (alone f) answers) (sym is)
          ∙ (seen ∙ (ap (λ (r : Result (Unit {0}) IoKind). checked_move r (alone f)
          (Ask (request.Read (handle_of (answers 0)) f.offset len))) good
          ∙ ap (λ (h : List ℕ). Ask (request.Read h f.offset len)) brought)));
      rest = λ later. rw at refl;
      knows = tt;
    }

-- ---- calls whose reply ends them

pub meta_behind : (f : FileValue) (facts : Facts) (answers : Answers) (m : Telling) → f.readable ≡ true
    → IsHandleOfFile f answers
    → GoesBehind attrs_meaning (alone f) (meta_next 0 (alone f) facts) answers (Whole (request.Fstat f.grant.handle)) m
meta_behind f facts answers m may brought =
    record {
      asks = skip f.readable (refuse_locally kind.NotReadable (alone f)) (Ask (request.Fstat (handle_of (answers 0))))
          may
          ∙ ap (λ (h : List ℕ). Ask (request.Fstat h)) brought;
      rest = λ later. refl;
      knows = tt;
    }

pub set_behind : (f : FileValue) (attrs : FileAttrs) (facts : Facts) (answers : Answers) (m : Settling) → f.writable
    ≡ true → IsHandleOfFile f answers
    → GoesBehind settle_meaning (alone f) (set_next 0 attrs (alone f) facts) answers
    (Whole (request.Fsetstat f.grant.handle attrs)) m
set_behind f attrs facts answers m may brought =
    record {
      asks = skip f.writable (refuse_locally kind.NotWritable (alone f))
          (Ask (request.Fsetstat (handle_of (answers 0)) attrs))
          may ∙ ap (λ (h : List ℕ). Ask (request.Fsetstat h attrs)) brought;
      rest = λ later. refl;
      knows = tt;
    }

pub sync_behind : (f : FileValue) (facts : Facts) (answers : Answers) (m : Settling) → offers facts FSYNC ≡ true
    → f.writable ≡ true → IsHandleOfFile f answers
    → GoesBehind settle_meaning (alone f) (sync_next 0 (alone f) facts) answers (Whole (request.Fsync f.grant.handle)) m
sync_behind f facts answers m offered may brought =
    let go : Move = Ask (request.Fsync (handle_of (answers 0))) in
    record {
      asks = skip (offers facts FSYNC) (refuses_extension FSYNC (alone f))
          (if not f.writable then refuse_locally kind.NotWritable (alone f) else go) offered
          ∙ (skip f.writable (refuse_locally kind.NotWritable (alone f)) go may
          ∙ ap (λ (h : List ℕ). Ask (request.Fsync h)) brought);
      rest = λ later. refl;
      knows = tt;
    }
