-- believed
-- Entries that may come next in a session's journal, and journals that are runs so far.
use Rattle.std.specs.Prelude.{
  ◌≡◌,
  ◌≢◌,
  ◌<◌,
  ℕ,
  ◌^◌,
  Bool,
  true,
  false,
  ◌||◌,
  List,
  [],
  ◌∷◌,
  length,
  Option,
  Some,
  None,
  Result,
  Ok,
  Err,
  is_some,
  MatchOption,
}
use Rattle.sftp_model.specs.declared.answers.Expected.{Expected}
use Rattle.sftp_model.specs.declared.answers.Expected.TheVariants as expected
use Rattle.sftp_model.specs.declared.config.Limits.{Limits}
use Rattle.sftp_model.specs.declared.frame_error.FrameError.{FrameError}
use Rattle.sftp_model.specs.declared.outcome.Outcome.TheVariants as outcome
use Rattle.sftp_model.specs.declared.request.Request.TheVariants as request
use Rattle.sftp_model.specs.declared.reply.Reply.{Reply}
use Rattle.sftp_model.specs.declared.reply.Reply.TheVariants as reply
use Rattle.sftp_model.specs.Answers.{expected_of, may_answer}
use Rattle.sftp_model.specs.declared.slot.Move.TheVariants.{Ask, Done}
use Rattle.plan_model.specs.Moves.{Own, handle_of}
use Rattle.sftp_model.specs.ReplyReadings.{limits_at}
use Rattle.session_model.specs.declared.event.Owner.TheVariants as owner
use Rattle.session_model.specs.declared.event.Event.TheVariants.{Submit, Send, Take, Cancel, End}
use Rattle.session_model.specs.declared.entry.Entry.{Entry}
use Rattle.session_model.specs.declared.entry.Entry.TheVariants as entry
use Rattle.plan_model.specs.Lanes.{is_within}
use Rattle.session_model.specs.Readings.{
  AskedRequest,
  count_submitted,
  asked_at,
  answer,
  bearer,
  count_sent,
  place_awaiting,
  own,
  count_ended,
  last_cancel,
  was_let_go,
  was_kept,
  count_unanswered,
}
use Rattle.session_model.specs.Calls.{Setting, current, move_of, has_waited}
use Rattle.session_model.specs.Grants.{next_due}

-- ---- Replies

-- A sent, unanswered request has the id, and is at this place.
abbrev pub IsAwaited : List Entry → ℕ → ℕ → Type 0
IsAwaited past id place = (bearer past id ≡ Some place) × (place < count_sent past) × (answer past place ≡ None)

-- True if the limits could be read.
abbrev pub is_read : Result Limits FrameError → Bool
is_read (Ok limits) = true
is_read (Err e) = false

-- True if the reply brings four numbers (OpenSSH's PROTOCOL, section 4.8).
abbrev pub brings_limits : Reply → Bool
brings_limits (reply.Extended content) = is_read (limits_at content)
brings_limits other = false

-- True if the session continues with the reply. After the query for limits it does so only with four numbers: a refusal
-- ends the session.
abbrev pub goes_on : Expected → Reply → Bool
goes_on expected.Limits r = brings_limits r
goes_on other r = true

-- The reply may answer the request, and the session continues with it.
abbrev pub MayReply : Option AskedRequest → Reply → Type 0
MayReply None r = ⊥
MayReply (Some a) r = (may_answer a.request r ≡ true) × (goes_on (expected_of a.request) r ≡ true)

-- The reply answers the sent, unanswered request that has the id.
abbrev pub MayTake : List Entry → ℕ → Reply → Type 0
MayTake past id r = (place : ℕ) × (IsAwaited past id place × MayReply (asked_at past place) r)

-- ---- Ids

-- No unanswered request has the id.
abbrev pub IsFree : List Entry → ℕ → Type 0
IsFree past id = (id < 2 ^ 32) × (place_awaiting past id ≡ None)

-- ---- CLOSEs that the session submits

-- The CLOSE of a grant.
abbrev pub close_of : List Entry → ℕ → ℕ → Entry
close_of past grant id = entry.Event (Submit owner.Close id (request.Close (handle_of (answer past grant))))

-- The entry is the CLOSE of the grant, under a free id.
abbrev pub MustClose : List Entry → ℕ → Entry → Type 0
MustClose past grant e = (id : ℕ) × (IsFree past id × (e ≡ close_of past grant id))

-- ---- Limits

-- True if the query for limits was answered, or there is none.
abbrev pub is_opened : Bool → Option Reply → Bool
is_opened false r = true
is_opened true r = is_some r

-- True if the first request asked for the limits and was answered, in case the server offers them. Nothing happens to a
-- lane before that.
abbrev pub is_session_open : Setting → List Entry → Bool
is_session_open s past = is_opened s.limits (answer past 0)

-- ---- Cancels

-- True if there is a request.
abbrev pub is_some_asked : Own → Bool
is_some_asked [] = false
is_some_asked (asked ∷ later) = true

-- True if the lane's call has submitted a request, or waits for one of an earlier call here, or did so since it became
-- the lane's call.
abbrev pub may_cancel : Setting → List Entry → ℕ → Bool
may_cancel s past lane = is_some_asked (own past lane (count_ended past lane)) || has_waited s past lane

-- ---- Entries that may come next

-- The entry may come next, if no CLOSE is due.
abbrev pub MayCome : Setting → List Entry → Entry → Type 0
MayCome s past (entry.Event (Submit (owner.Call lane call) id r)) =
    (call ≡ count_ended past lane) × (move_of s past lane ≡ Some (Ask r)) × IsFree past id
    × (is_session_open s past ≡ true)
    × (was_kept past ≡ false)
MayCome s past (entry.Event (Submit owner.Setup id r)) = (s.limits ≡ true) × (count_submitted past ≡ 0)
    × (r ≡ request.LimitsQuery) × IsFree past id
MayCome s past (entry.Event (Submit owner.Close id r)) = ⊥
MayCome s past (entry.Event Send) = count_sent past < count_submitted past
MayCome s past (entry.Event (Take id r)) = MayTake past id r × (was_kept past ≡ false)
MayCome s past (entry.Event (Cancel lane)) = (current s past lane ≢ None) × (may_cancel s past lane ≡ true)
    × (is_session_open s past ≡ true)
MayCome s past (entry.Event (End lane call o)) =
    (call ≡ count_ended past lane) × ((site : _) × (move_of s past lane ≡ Some (Done o site)))
    × (is_session_open s past ≡ true)
MayCome s past (entry.Added lane c) = (lane < length s.lanes) × (was_let_go past lane ≡ false) × (is_within c ≡ true)
MayCome s past (entry.LetGo lane) = (lane < length s.lanes) × (current s past lane ≡ None)
    × (was_let_go past lane ≡ false)
MayCome s past (entry.Kept fault) = was_kept past ≡ false

-- The end of a call that was cancelled.
abbrev pub cancelled_end : List Entry → ℕ → Entry
cancelled_end past lane = entry.Event (End lane (count_ended past lane) outcome.Cancelled)

-- The entry may come next: after a Cancel its End, otherwise the CLOSE of the grant that is to be closed, and without
-- such a grant any entry that may come.
abbrev pub IsNext : Setting → List Entry → Entry → Type 0
IsNext s past e =
    MatchOption (last_cancel past)
    (MatchOption (next_due s past) (MayCome s past e) (λ grant. MustClose past grant e))
    (λ lane. e ≡ cancelled_end past lane)

-- The journal is a run so far: each entry may come after those before it.
abbrev pub IsJournal : Setting → List Entry → Type 0
IsJournal s [] = Unit {0}
IsJournal s (e ∷ past) = IsNext s past e × IsJournal s past

-- The session is over: each lane was released, nothing is to be closed, and nothing is unanswered.
abbrev pub IsOver : Setting → List Entry → Type 0
IsOver s past = ((lane : ℕ) → lane < length s.lanes → was_let_go past lane ≡ true) × (next_due s past ≡ None)
    × (count_unanswered past ≡ 0)
