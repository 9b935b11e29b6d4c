-- A frame that stops a run by `InvalidResponseId` has an id that no sent, unanswered request has.
use Rattle.std.proofs.Common.{◌≡◌, ◌∙◌, ℕ, Bool, true, false, List, refl, sym, ap, subst, Ok, Err, Some, None}
use Rattle.std.specs.Prelude.{Option, Result, if◌then◌else◌}
use Rattle.session_driver.specs.Refusals.{awaited_at, refuses, refuses_limits, refuses_reply}
use Rattle.session_model.specs.declared.entry.Entry.{Entry}
use Rattle.session_model.specs.Readings.{AskedRequest}
use Rattle.sftp_core.specs.declared.errors.TakeError.{TakeError}
use Rattle.sftp_core.specs.declared.errors.TakeError.TheVariants as take
use Rattle.sftp_core.specs.Errors.{error_of}
use Rattle.sftp_core.specs.Take.{unread, wrong_content, wrong_limits}
use Rattle.sftp_lanes.specs.Events.{FrameRead}
use Rattle.sftp_model.specs.Answers.{expected_of, may_answer}
use Rattle.sftp_model.specs.declared.answers.Expected.{Expected}
use Rattle.sftp_model.specs.declared.answers.Expected.TheVariants as expected
use Rattle.sftp_model.specs.declared.config.Limits.{Limits}
use Rattle.sftp_model.specs.declared.error.Error.TheVariants as error
use Rattle.sftp_model.specs.declared.frame_error.FrameError.{FrameError}
use Rattle.sftp_model.specs.declared.frame_error.FrameError.TheVariants as frame
use Rattle.sftp_model.specs.declared.reply.Reply.{Reply}
use Rattle.sftp_model.specs.declared.reply.Reply.TheVariants as reply
use Rattle.sftp_model.specs.ReplyReadings.{limits_at, reply_at}
use Rattle.session_threads.specs.Failures.{IsWrongFrame}

-- the id that a refusal says no request has
abbrev id_in : Option TakeError → Option ℕ
id_in (Some (take.InvalidResponseId id)) = Some id
id_in (Some other) = None
id_in None = None

same_id : (e : TakeError) (id : ℕ) → error.InvalidResponseId id ≡ error_of e → id_in (Some e) ≡ Some id
same_id (take.InvalidResponseId k) id is = cc is
same_id take.OutOfMemory id is = absurd (cc is)
same_id (take.Format kind) id is = absurd (cc is)
same_id (take.HandleTooLong len) id is = absurd (cc is)
same_id (take.InvalidResponse k) id is = absurd (cc is)
same_id (take.LimitsRefused code message language) id is = absurd (cc is)
same_id (take.Protocol version) id is = absurd (cc is)

unread_none : (e : FrameError) → id_in (Some (unread e)) ≡ None
unread_none frame.OutOfMemory = refl
unread_none (frame.Format kind) = refl
unread_none (frame.HandleTooLong len) = refl

content_none : (r : Result Limits FrameError) → id_in (wrong_content r) ≡ None
content_none (Ok limits) = refl
content_none (Err e) = unread_none e

limits_none : (r : Reply) → id_in (wrong_limits r) ≡ None
limits_none (reply.Status code message language) = refl
limits_none (reply.Extended content) = content_none (limits_at content)
limits_none other = refl

refused_none : (x : Expected) (r : Reply) → id_in (refuses_limits x r) ≡ None
refused_none expected.Limits r = limits_none r
refused_none other r = refl

reply_none : (k : ℕ) (r : Reply) (a : AskedRequest) → id_in (refuses_reply k r (Some a)) ≡ None
reply_none k r a = by_answer (may_answer a.request r)
  where
    by_answer : (b : Bool)
        → id_in (if b then refuses_limits (expected_of a.request) r else Some (take.InvalidResponse (Some k))) ≡ None
    by_answer true = refused_none (expected_of a.request) r
    by_answer false = refl

none-some : {A : Type 0} (o : Option A) (x : A) → o ≡ None → o ≡ Some x → ⊥
none-some o x none some = cc (sym none ∙ some)

awaited_none : (k id : ℕ) (r : Reply) (o : Option AskedRequest) → id_in (refuses_reply k r o) ≡ Some id
    → (o ≡ None) × (k ≡ id)
awaited_none k id r None h = (refl, cc h)
awaited_none k id r (Some a) h = absurd (none-some _ id (reply_none k r a) h)

read_none : (past : List Entry) (id : ℕ) (read : FrameRead) → id_in (refuses past read) ≡ Some id
    → awaited_at past id ≡ None
read_none past id (Err e) h = absurd (none-some _ id (unread_none e) h)
read_none past id (Ok (None, r)) h = absurd (cc h)
read_none past id (Ok (Some k, r)) h =
    let n = awaited_none k id r (awaited_at past k) h in
    subst (λ (j : ℕ). awaited_at past j ≡ None) n.1 n.0

pub unawaited : (id : ℕ) (past : List Entry) (bytes : List ℕ)
    → IsWrongFrame (error.InvalidResponseId id) past bytes → awaited_at past id ≡ None
unawaited id past bytes w = read_none past id (reply_at w.body) (ap id_in w.first ∙ same_id w.error id w.is)
