-- How a copy begins.
use Rattle.std.proofs.Common.{◌≡◌, ◌∙◌, refl, sym, ap, subst, ℕ, Bool, true, false, Result, Ok, Err, IfOk, if◌then◌else◌}
use Rattle.std.specs.Prelude.{not}
use Rattle.sftp_model.specs.Numbers.{COPY_DATA}
use Rattle.sftp_model.specs.declared.error.Error.{Error}
use Rattle.sftp_model.specs.declared.error.Error.TheVariants as error
use Rattle.sftp_model.specs.declared.error.IoKind.TheVariants as kind
use Rattle.sftp_model.specs.declared.outcome.Outcome.TheVariants as outcome
use Rattle.sftp_model.specs.declared.request.Request.TheVariants as request
use Rattle.sftp_model.specs.declared.slot.Facts.{Facts}
use Rattle.sftp_model.specs.declared.slot.FileAt.{FileAt}
use Rattle.sftp_model.specs.declared.slot.Move.{Move}
use Rattle.sftp_model.specs.declared.slot.Move.TheVariants.{Ask, Done}
use Rattle.plan_model.specs.FilePlans.{copy_next}
use Rattle.plan_model.specs.Moves.{Answers, handle_of, offers, overflows, refuse_locally, refuses_extension}
use Rattle.sftp_core.specs.Core.{Core}
use Rattle.plan_state.specs.declared.submission.Asking.{Asking}
use Rattle.plan_state.specs.declared.submission.Asking.TheVariants.{Whole}
use Rattle.plan_state.specs.Calls.{BeginsCall, CallValue, IsUnderWay}
use Rattle.plan_state.specs.Keeping.{KeepsHeld}
use Rattle.plan_state.specs.Runners.{GoesBehind}
use Rattle.plan_state.proofs.Keeping.{keeps_same}
use Rattle.sftp_file.specs.Copies.{CopyStarts, CopyValue, both, copy_left, copy_meaning}
use Rattle.sftp_file.specs.Files.{FileValue, facts_of, file_in}
use Rattle.sftp_file.proofs.Starting.{StartsAny, skip}

no : (b : Bool) (x y : Move) → b ≡ false → (if b then x else y) ≡ y
no false x y e = refl
no true x y e = absurd cc

-- without the extension nothing is asked
pub copy_unoffered : (f g : FileValue) (n : ℕ) (core : Core) → offers (facts_of core) COPY_DATA ≡ false
    → CopyStarts f g n core core (Err (error.UnsupportedExtension (record { 0 = 16 })))
copy_unoffered f g n core none =
    record {
      starts = λ answers brought other. (rw none refl, refl);
      under_way = tt;
      files = tt;
      keeps = keeps_same core;
    }

copy_behind : (f g : FileValue) (source target : FileAt) (n : ℕ) (facts : Facts) (answers : Answers) → source
    ≡ file_in 0 f → target ≡ file_in 1 g
    → offers facts COPY_DATA ≡ true → g.writable ≡ true → f.readable ≡ true → overflows f.offset n ≡ false
    → overflows g.offset n ≡ false
    → handle_of (answers 0) ≡ f.grant.handle → handle_of (answers 1) ≡ g.grant.handle
    → GoesBehind copy_meaning tt (copy_next 0 1 n (both f g) facts) answers
    (Whole (request.CopyData f.grant.handle f.offset n g.grant.handle g.offset))
    (record { source = source; target = target; len = n })
copy_behind f g source target n facts answers from to offered may reads below behind brought other =
    let go : Move = Ask (request.CopyData (handle_of (answers 0)) f.offset n (handle_of (answers 1)) g.offset) in
    let over : Move = refuse_locally kind.OffsetOverflow (both f g) in
    let fourth : Move = if overflows g.offset n then over else go in
    let third : Move = if overflows f.offset n then over else fourth in
    let second : Move = if not f.readable then refuse_locally kind.NotReadable (both f g) else third in
    let first : Move = if not g.writable then refuse_locally kind.NotWritable (both f g) else second in
    record {
      asks = skip (offers facts COPY_DATA) (refuses_extension COPY_DATA (both f g)) first offered
          ∙ (skip g.writable (refuse_locally kind.NotWritable (both f g)) second may
          ∙ (skip f.readable (refuse_locally kind.NotReadable (both f g)) third reads
          ∙ (no (overflows f.offset n) over fourth below
          ∙ (no (overflows g.offset n) over go behind
          ∙ (λ i. Ask (request.CopyData (brought i) f.offset n (other i) g.offset))))));
      rest = λ later i. copy_left (record { source = sym from i; target = sym to i; len = n }) later answers;
      knows = tt;
    }

under_way_by : (asking : Asking) (m : CopyValue) (old new : Core) (result : Result (CallValue CopyValue) Error)
    → IfOk result (BeginsCall copy_meaning asking m old new) → IfOk result (IsUnderWay copy_meaning new)
under_way_by asking m old new (Ok call) h = h.under_way
under_way_by asking m old new (Err e) h = tt

files_by : (f g : FileValue) (asking : Asking) (m : CopyValue) (old new : Core)
    (result : Result (CallValue CopyValue) Error) → m.source ≡ file_in 0 f → m.target ≡ file_in 1 g
    → IfOk result (BeginsCall copy_meaning asking m old new)
    → IfOk result (λ (call : CallValue CopyValue). (call.runner.source ≡ file_in 0 f)
    × (call.runner.target ≡ file_in 1 g))
files_by f g asking m old new (Ok call) from to h = (
  ap (λ (x : CopyValue). x.source) h.runner ∙ from,
  ap (λ (x : CopyValue). x.target) h.runner ∙ to,
)
files_by f g asking m old new (Err e) from to h = tt

pub copy_starts : (f g : FileValue) (source target : FileAt) (n : ℕ) (asking : Asking) (old new : Core)
    (result : Result (CallValue CopyValue) Error) → source ≡ file_in 0 f → target ≡ file_in 1 g
    → offers (facts_of old) COPY_DATA ≡ true → g.writable ≡ true → f.readable ≡ true → overflows f.offset n ≡ false
    → overflows g.offset n ≡ false
    → asking ≡ Whole (request.CopyData f.grant.handle f.offset n g.grant.handle g.offset)
    → StartsAny copy_meaning asking (record { source = source; target = target; len = n }) old new result
    → IfOk result (BeginsCall copy_meaning asking (record { source = source; target = target; len = n }) old new)
    → KeepsHeld old new → CopyStarts f g n old new result
copy_starts f g source target n asking old new result from to offered may reads below behind is started begins keeps =
    let m : CopyValue = record { source = source; target = target; len = n } in
    record {
      starts = λ answers brought other. started tt (λ e. Done (outcome.Refused e) (both f g))
          (copy_next 0 1 n (both f g) (facts_of old)) answers
          (subst (λ (x : Asking). GoesBehind copy_meaning tt (copy_next 0 1 n (both f g) (facts_of old)) answers x m)
          (sym is)
          (copy_behind f g source target n (facts_of old) answers from to offered may reads below behind brought
          other));
      under_way = under_way_by asking m old new result begins;
      files = files_by f g asking m old new result from to begins;
      keeps = keeps;
    }
