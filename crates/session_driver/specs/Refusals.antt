-- believed, except NotesRefusal
-- The first thing that is wrong with a reply, by the journal of the session that received it.
use Rattle.std.specs.Prelude.{◌≡◌, ◌⊎◌, ℕ, List, ◌∷◌, Option, Some, None, Result, Ok, Err, nat_lt, if◌then◌else◌}
use Rattle.sftp_model.specs.declared.answers.Expected.{Expected}
use Rattle.sftp_model.specs.declared.answers.Expected.TheVariants as expected
use Rattle.sftp_model.specs.declared.frame_error.FrameError.{FrameError}
use Rattle.sftp_model.specs.declared.error.Fault.{Fault}
use Rattle.sftp_model.specs.declared.reply.Reply.{Reply}
use Rattle.sftp_model.specs.Answers.{expected_of, may_answer}
use Rattle.session_model.specs.declared.entry.Entry.{Entry}
use Rattle.session_model.specs.declared.entry.Entry.TheVariants as entry
use Rattle.session_model.specs.Readings.{AskedRequest, asked_at, place_awaiting, count_sent}
use Rattle.sftp_core.specs.declared.errors.TakeError.{TakeError}
use Rattle.sftp_core.specs.declared.errors.TakeError.TheVariants as take
use Rattle.sftp_core.specs.Take.{fault_of, unread, wrong_version, wrong_limits}

-- ---- VERSION

-- The error unless the answer to the hello is VERSION 3.
abbrev pub refuses_hello : Result (Option ℕ × Reply) FrameError → Option TakeError
refuses_hello (Err e) = Some (unread e)
refuses_hello (Ok (None, r)) = wrong_version r
refuses_hello (Ok (Some id, r)) = Some (take.InvalidResponse (Some id))

-- ---- Replies to requests

-- The error unless an allowed reply to the query for limits brings four numbers.
abbrev pub refuses_limits : Expected → Reply → Option TakeError
refuses_limits expected.Limits r = wrong_limits r
refuses_limits other r = None

-- The error unless the reply may answer the request under its id.
abbrev pub refuses_reply : ℕ → Reply → Option AskedRequest → Option TakeError
refuses_reply id r None = Some (take.InvalidResponseId id)
refuses_reply id r (Some a) = if may_answer a.request r then refuses_limits (expected_of a.request) r else
    Some (take.InvalidResponse (Some id))

-- The request at this place, if it was sent.
abbrev pub sent_at : List Entry → Option ℕ → Option AskedRequest
sent_at past None = None
sent_at past (Some place) = if nat_lt place (count_sent past) then asked_at past place else None

-- The sent, unanswered request that has the id.
abbrev pub awaited_at : List Entry → ℕ → Option AskedRequest
awaited_at past id = sent_at past (place_awaiting past id)

abbrev pub refuses : List Entry → Result (Option ℕ × Reply) FrameError → Option TakeError
refuses past (Err e) = Some (unread e)
refuses past (Ok (None, r)) = Some (take.InvalidResponse None)
refuses past (Ok (Some id, r)) = refuses_reply id r (awaited_at past id)

-- ---- Records of a refusal

-- After a refused frame the journal is as before, or it has another entry, the fault that the refusal leaves.
abbrev pub NotesRefusal : TakeError → List Entry → List Entry → Type 0
NotesRefusal e before now =
    (now ≡ before) ⊎ ((fault : Fault) × ((fault_of e ≡ Some fault) × (now ≡ entry.Kept fault ∷ before)))
