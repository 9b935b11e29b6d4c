-- What was read of a body stands for the body, unless memory ran out.
use Rattle.std.proofs.Common.{◌≡◌, ℕ, List, Option, Some, None, Ok, Err, refl, ap, sym, ◌∙◌, subst, inl, inr}
use Rattle.std.specs.Prelude.{Result}
use Rattle.sftp_model.specs.ReplyReadings.{reply_at}
use Rattle.sftp_model.specs.declared.error.Fault.{Fault}
use Rattle.sftp_model.specs.declared.frame_error.FrameError.{FrameError}
use Rattle.sftp_core.specs.Core.{Core}
use Rattle.sftp_core.specs.declared.errors.TakeError.{TakeError}
use Rattle.sftp_core.specs.declared.errors.TakeError.TheVariants as take
use Rattle.sftp_core.specs.declared.tokens.Taken.{Taken}
use Rattle.sftp_core.specs.Take.{IsTakeError, Read, RefusesReply, TakenFrom, fault_of, take_refusal}
use Rattle.sftp_wire.specs.Reading.{GivesBody}

-- what was taken as it was read is taken from the body
pub taken_from_body : (read : Result Read FrameError) (body : List ℕ) (told : Taken) (old new : Core)
    → GivesBody read (reply_at body) → TakenFrom read told old new → TakenFrom (reply_at body) told old new
taken_from_body (Ok v) body told old new gives taken =
    record { reading = taken.reading; reads = gives ∙ taken.reads; tells = taken.tells; leaves = taken.leaves }
taken_from_body (Err e) body told old new gives taken = absurd cc

-- nothing is wrong with the body either
pub body_unrefused : (read : Result Read FrameError) (body : List ℕ) (old : Core) → GivesBody read (reply_at body)
    → take_refusal old read ≡ None → take_refusal old (reply_at body) ≡ None
body_unrefused (Ok v) body old gives none = ap (take_refusal old) gives ∙ none
body_unrefused (Err e) body old gives none = absurd cc

out_of_memory : (e : TakeError) (kept : Option Fault) (refusal : Option TakeError) (old new : Core)
    → fault_of e ≡ kept → RefusesReply e kept (Some take.OutOfMemory) old new → RefusesReply e kept refusal old new
out_of_memory e None refusal old new is same = same
out_of_memory e (Some kept) refusal old new is refuses =
    let memory : take.OutOfMemory ≡ e = cc refuses.0 in
    let none : None ≡ Some kept = ap fault_of memory ∙ is in
    absurd cc

-- what refuses that which was read refuses the body
pub body_refused : (read : Result Read FrameError) (body : List ℕ) (e : TakeError) (old new : Core)
    → GivesBody read (reply_at body) → IsTakeError e (take_refusal old read) old new
    → IsTakeError e (take_refusal old (reply_at body)) old new
body_refused (Ok v) body e old new gives refuses =
    subst (λ r. IsTakeError e (take_refusal old r) old new) (sym gives) refuses
body_refused (Err why) body e old new (inl memory) refuses =
    out_of_memory e (fault_of e) (take_refusal old (reply_at body)) old new refl
    (subst (λ w. IsTakeError e (take_refusal old (Err w)) old new) memory refuses)
body_refused (Err why) body e old new (inr gives) refuses =
    subst (λ r. IsTakeError e (take_refusal old r) old new) (sym gives) refuses
