-- What was read of a frame is the reading of its bytes, unless memory ran out: it is taken and refused as that is.
use Rattle.std.proofs.Common.{◌≡◌, ℕ, List, Option, Some, None, inl, inr, refl, sym, subst}
use Rattle.std.specs.Prelude.{Ok, Err}
use Rattle.sftp_core.specs.declared.errors.TakeError.{TakeError}
use Rattle.sftp_core.specs.declared.errors.TakeError.TheVariants as take
use Rattle.sftp_core.specs.Take.{IsFirst}
use Rattle.sftp_model.specs.declared.frame_error.FrameError.{FrameError}
use Rattle.sftp_model.specs.declared.frame_error.FrameError.TheVariants as frame
use Rattle.sftp_model.specs.declared.reply.Reply.{Reply}
use Rattle.session_driver.specs.declared.session.Phase.{Phase}
use Rattle.session_driver.specs.declared.session.Phase.TheVariants.{Fresh, Greeted, Asking, Queried, Open, Failed}
use Rattle.session_driver.specs.Refusals.{refuses, refuses_hello}
use Rattle.session_model.specs.declared.entry.Entry.{Entry}
use Rattle.session_model.specs.Settings.{version_reply_of}
use Rattle.sftp_wire.specs.Reading.{GivesBody}
use Rattle.sftp_lanes.specs.Events.{FrameRead, TakesIn, first_wrong}
use Rattle.sftp_lanes.specs.Seen.{SessionValue}

-- ---- A frame that was read

pub same_read : (read bytes : FrameRead) → GivesBody read bytes → (v : Option ℕ × Reply) → read ≡ Ok v → bytes ≡ read
same_read (Ok w) bytes gives v is = gives
same_read (Err e) bytes gives v is = absurd (cc is)

taken_read : (p : Phase) (read : FrameRead) (old new : SessionValue) → TakesIn p read old new
    → (v : Option ℕ × Reply) × (read ≡ Ok v)
taken_read Fresh read old new h = absurd h
taken_read Greeted read old new h = ((None, version_reply_of h.1.extensions), h.1.reads)
taken_read Asking read old new h = absurd h
taken_read Queried read old new h = ((Some h.limited.tells.0, h.limited.tells.1.0), h.limited.tells.1.1.0)
taken_read Open read old new h = ((Some h.did.takes.0, h.did.takes.1.0), h.did.takes.1.1.0)
taken_read Failed read old new h = absurd h

pub taken_as_read : (p : Phase) (read bytes : FrameRead) (old new : SessionValue) → GivesBody read bytes
    → TakesIn p read old new → TakesIn p bytes old new
taken_as_read p read bytes old new gives h =
    let v = taken_read p read old new h in
    subst (λ (b : FrameRead). TakesIn p b old new) (sym (same_read read bytes gives v.0 v.1)) h

-- ---- A frame that was refused

memory_first : (e : TakeError) (refusal : Option TakeError) → IsFirst e (Some take.OutOfMemory) → IsFirst e refusal
memory_first take.OutOfMemory refusal h = tt
memory_first (take.Format kind) refusal h = absurd (cc h)
memory_first other refusal h = absurd (cc h)

-- where the first thing that is wrong with a frame that could not be read is that
pub first_as_read : (refusal : FrameRead → Option TakeError) → refusal (Err frame.OutOfMemory) ≡ Some take.OutOfMemory
    → (e : TakeError) (read bytes : FrameRead) → GivesBody read bytes → IsFirst e (refusal read)
    → IsFirst e (refusal bytes)
first_as_read refusal memory e (Ok w) bytes gives h =
    subst (λ (b : FrameRead). IsFirst e (refusal b)) (sym gives) h
first_as_read refusal memory e (Err x) bytes (inl gone) h =
    memory_first e (refusal bytes)
    (subst (IsFirst e) memory (subst (λ (y : FrameError). IsFirst e (refusal (Err y))) gone h))
first_as_read refusal memory e (Err x) bytes (inr gives) h =
    subst (λ (b : FrameRead). IsFirst e (refusal b)) (sym gives) h

pub wrong_as_read : (p : Phase) (past : List Entry) (e : TakeError) (read bytes : FrameRead) → GivesBody read bytes
    → IsFirst e (first_wrong p past read) → IsFirst e (first_wrong p past bytes)
wrong_as_read Fresh past e read bytes gives h = first_as_read (refuses past) refl e read bytes gives h
wrong_as_read Greeted past e read bytes gives h = first_as_read refuses_hello refl e read bytes gives h
wrong_as_read Failed past e read bytes gives h = h
wrong_as_read other past e read bytes gives h = first_as_read (refuses past) refl e read bytes gives h
