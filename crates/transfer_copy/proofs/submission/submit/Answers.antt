use Rattle.std.proofs.Common.{◌≡◌, inl, inr, Bool, true, false, refl, sym, subst, Option, Some, None}
use Rattle.sftp_model.specs.Frames.{is_too_long}
use Rattle.sftp_model.specs.declared.error.Fault.{Fault}
use Rattle.sftp_model.specs.declared.request.Request.{Request}
use Rattle.sftp_core.specs.Core.{Core, IsSubmitError, refusal_of, submit_refusal}
use Rattle.sftp_core.specs.declared.errors.SubmitError.{SubmitError}
use Rattle.sftp_core.specs.declared.errors.SubmitError.TheVariants as submit
use Rattle.transfer_copy.specs.declared.copy_error.CopyError.{CopyError}
use Rattle.transfer_copy.specs.Refusals.{IsUnasked, unsubmitted_by}
use Rattle.transfer_copy.proofs.submission.submit.Goals as goal

is_kept : (kept : Option Fault) (long : Bool) (fault : Fault) → refusal_of kept long ≡ Some (submit.Failed fault)
    → kept ≡ Some fault
is_kept (Some other) long fault e = cc
is_kept None true fault e = absurd (let bad : (◌≡◌ {A = Option SubmitError} (Some submit.TooLong)
    (Some (submit.Failed fault))) = e in cc)
is_kept None false fault e = absurd (let bad : (◌≡◌ {A = Option SubmitError} None
    (Some (submit.Failed fault))) = e in cc)

is_long : (kept : Option Fault) (long : Bool) → refusal_of kept long ≡ Some submit.TooLong → long ≡ true
is_long (Some other) long e = absurd (let bad : (◌≡◌ {A = Option SubmitError} (Some (submit.Failed other))
    (Some submit.TooLong)) = e in cc)
is_long None true e = refl
is_long None false e = absurd (let bad : (◌≡◌ {A = Option SubmitError} None (Some submit.TooLong)) = e in cc)

unasked : (core : Core) (asked : Request) (e : SubmitError) → IsSubmitError e (submit_refusal core asked)
    → IsUnasked core asked (unsubmitted_by e)
unasked core asked submit.OutOfMemory is = inl refl
unasked core asked submit.TooLong is = inr (inr (is_long core.fault (is_too_long asked) is, refl))
unasked core asked (submit.Failed fault) is =
    inr (inl (fault, is_kept core.fault (is_too_long asked) fault is, refl))

pub returns-in-Err-clause-refused : goal.returns-in-Err-clause-refused
returns-in-Err-clause-refused c =
    subst (λ (e : CopyError). IsUnasked c.args.core.now c.args.request.now e) (sym c.unsubmitted.ensures)
    (unasked c.args.core.now c.args.request.now c.in-Err.e c.in-Err.ensures.refused)
