-- believed, except request_with_handles, waits, idle, RunsByPlan, AnswersWhileWaiting, BeginsByPlan, by_seek,
--   refusal_of, failure_of
-- The steps of a runner, by the plan of its call.
use Rattle.std.specs.Prelude.{
  ℕ,
  ◌≡◌,
  ◌-◌,
  ◌==◌,
  List,
  [],
  ◌∷◌,
  ◌++◌,
  drop,
  length,
  Option,
  Some,
  None,
  Result,
  Ok,
  Err,
  if◌then◌else◌,
}
use Rattle.sftp_model.specs.declared.request.Request.{Request}
use Rattle.sftp_model.specs.declared.request.Request.TheVariants as request
use Rattle.sftp_model.specs.declared.reply.Reply.{Reply}
use Rattle.sftp_model.specs.declared.reply.Reply.TheVariants as reply
use Rattle.sftp_model.specs.declared.outcome.Outcome.{Outcome}
use Rattle.sftp_model.specs.declared.outcome.Outcome.TheVariants as outcome
use Rattle.sftp_model.specs.declared.error.Error.TheVariants as error
use Rattle.sftp_model.specs.declared.error.IoKind.{IoKind}
use Rattle.sftp_model.specs.declared.error.IoKind.TheVariants as kind
use Rattle.sftp_model.specs.declared.slot.Facts.{Facts}
use Rattle.sftp_model.specs.declared.slot.FileAt.{FileAt}
use Rattle.sftp_model.specs.declared.slot.Slot.TheVariants.{File}
use Rattle.sftp_model.specs.Slots.{slot_at, with_slot}
use Rattle.sftp_model.specs.declared.slot.Site.{Site}
use Rattle.sftp_model.specs.declared.slot.Move.{Move}
use Rattle.sftp_model.specs.declared.slot.Move.TheVariants.{Ask, Wait, Done}
use Rattle.sftp_model.specs.Numbers.{SSH_FX_OK}
use Rattle.plan_model.specs.Moves.{
  Answers,
  Own,
  Plan,
  once_answered,
  handle_of,
  done_by,
  told_by,
  on_buffered,
  on_content,
  on_handle,
  on_status,
  further,
  refuse_locally,
}
use Rattle.plan_model.specs.PathPlans.{named_by}
use Rattle.plan_model.specs.FilePlans.{opened_move, opened_file, site_after_copy}
use Rattle.plan_model.specs.TransferPlans.{
  FileKeeper,
  in_slot,
  joined_parts,
  missing_next,
  part_len,
  rest_next,
  was_read,
  was_written,
}
use Rattle.plan_model.specs.WholePlans.{entries_next, nowhere, on_names, to_replace}
use Rattle.plan_model.specs.declared.call.Call.TheVariants as call
use Rattle.plan_model.specs.declared.call.Call.{Call}
use Rattle.plan_model.specs.CallPlans.{next}
use Rattle.plan_model.specs.BufferPlans.{buf_write_all_next, was_filled}
use Rattle.plan_model.specs.WindowPlans.{answered_prefix, outside, window_next}
use Rattle.plan_window.specs.declared.window.ReadAt.{ReadAt}
use Rattle.plan_window.specs.Windows.{Window, answered_more, first_of, reads_of, replies_of, under_way, window_plan}
use Rattle.plan_runner.specs.Buffers.{flushed_after, oldest_in, reading_in, room_made, sent_next}
use Rattle.plan_runner.specs.declared.next.Asked.{Asked}
use Rattle.plan_runner.specs.declared.next.Asked.TheVariants as asked
use Rattle.plan_runner.specs.declared.next.EndsBy.{EndsBy}
use Rattle.plan_runner.specs.declared.next.EndsBy.TheVariants as by
use Rattle.plan_runner.specs.declared.next.Running.{Running}
use Rattle.plan_runner.specs.declared.next.Running.TheVariants as running
use Rattle.plan_runner.specs.declared.next.Next.{Next}
use Rattle.plan_runner.specs.declared.next.Next.TheVariants as step

-- ---- Requests

-- The request, with the handles that its grants brought.
abbrev pub request_with_handles : Asked → Answers → Request
request_with_handles (asked.Plain r) answers = r
request_with_handles (asked.Close grant) answers = request.Close (handle_of (answers grant))
request_with_handles (asked.Read grant offset len) answers = request.Read (handle_of (answers grant)) offset len
request_with_handles (asked.Write grant offset content) answers =
    request.Write (handle_of (answers grant)) offset content
request_with_handles (asked.Fstat grant) answers = request.Fstat (handle_of (answers grant))
request_with_handles (asked.Fsetstat grant attrs) answers = request.Fsetstat (handle_of (answers grant)) attrs
request_with_handles (asked.Readdir grant) answers = request.Readdir (handle_of (answers grant))
request_with_handles (asked.Fsync grant) answers = request.Fsync (handle_of (answers grant))
request_with_handles (asked.CopyData from from_offset len to to_offset) answers =
    request.CopyData (handle_of (answers from)) from_offset len (handle_of (answers to)) to_offset

-- ---- The rest of a plan

-- The place of a READ, if there is one.
abbrev pub place_in : Option ReadAt → Option ℕ
place_in None = None
place_in (Some r) = Some r.place

-- The place of the request whose reply a call awaits.
abbrev pub awaited_place : Running → Site → Option ℕ
awaited_place (running.Ending place ends) site = Some place
awaited_place (running.Opening place slot flags) site = Some place
awaited_place (running.Reading place slot file len) site = Some place
awaited_place (running.Gathering place slot file got left len) site = Some place
awaited_place (running.Sending place slot file len) site = Some place
awaited_place (running.Writing place slot file done) site = Some place
awaited_place (running.OpeningToWrite place) site = Some place
awaited_place (running.OpeningToRead place bound) site = Some place
awaited_place (running.ReadingWhole grant bound window) site = place_in (first_of window.waiting)
awaited_place (running.OpeningDirectory place bound) site = Some place
awaited_place (running.Listing place grant got bound) site = Some place
awaited_place (running.Flushing slot) site = oldest_in (slot_at site slot)
awaited_place (running.AwaitingRoom slot start) site = oldest_in (slot_at site slot)
awaited_place (running.Deferred slot count) site = None
awaited_place (running.DeferringRest slot done) site = None
awaited_place (running.FillingBuffer slot n offset own) site = reading_in (slot_at site slot)
awaited_place (running.Copying place from to source target len) site = Some place

-- The move of a call that a reply ends.
abbrev pub ended_by : EndsBy → Site → Reply → Move
ended_by by.Status site = done_by site
ended_by by.Attributes site = told_by site
ended_by by.FirstName site = named_by site

-- A call that awaits a reply and has none.
abbrev pub with_reply : Site → Option Reply → (Reply → Move) → Move
with_reply site None go = Done outcome.NoFile site
with_reply site (Some r) go = go r

-- The site after a file was moved: its slot has the file, or no slot has it.
abbrev pub keep_in : Option ℕ → FileKeeper
keep_in None = nowhere
keep_in (Some slot) = in_slot slot

-- The plan after a part of these bytes was written.
abbrev pub part_after : FileKeeper → FileAt → List ℕ → ℕ → Site → Facts → Plan
part_after keep file bytes len site facts = rest_next keep (further file len) (drop len bytes)
    (keep (further file len) site) facts

-- The plan after a DATA came to a read of all bytes.
abbrev pub content_after : ℕ → FileAt → List ℕ → ℕ → List ℕ → Site → Facts → Plan
content_after slot file got left bytes site facts =
    missing_next slot (further file (length bytes)) (got ++ bytes) (left - length bytes)
    (with_slot site slot (File (further file (length bytes)))) facts

-- A window after the reply to its first READ in flight, if it came.
abbrev pub answered_by : Window → Option Reply → Window
answered_by window None = window
answered_by window (Some y) = answered_more window y

-- The plan of a call after the reply that it awaited, if it awaited one; `bytes` are those that the call carries.
abbrev pub after : Running → List ℕ → Site → Facts → Option Reply → Plan
after (running.Ending place ends) bytes site facts r later answers = with_reply site r (ended_by ends site)
after (running.Opening place slot flags) bytes site facts r later answers =
    with_reply site r (opened_move slot flags site place)
after (running.Reading place slot file len) bytes site facts r later answers =
    with_reply site r (was_read slot file site)
after (running.Gathering place slot file got left len) bytes site facts r later answers =
    with_reply site r (λ y. on_content y site (refuse_locally kind.UnexpectedEof site)
    (λ content. content_after slot file got left content site facts later answers))
after (running.Sending place slot file len) bytes site facts r later answers =
    with_reply site r (was_written slot file len site)
after (running.Writing place slot file done) bytes site facts r later answers =
    with_reply site r (λ y. on_status y site (part_after (keep_in slot) file (drop done bytes)
    (part_len facts (drop done bytes)) site facts later answers))
after (running.OpeningToWrite place) bytes site facts r later answers =
    with_reply site r (λ y. on_handle y site (λ handle. rest_next nowhere (opened_file to_replace place) bytes site
    facts later answers))
after (running.OpeningToRead place bound) bytes site facts r later answers =
    with_reply site r (λ y. on_handle y site (λ handle. window_next (handle_of (answers place)) (Some bound) later
    (answered_prefix later answers) (outside later answers) site facts))
after (running.ReadingWhole grant bound window) bytes site facts r later answers =
    window_plan (handle_of (answers grant)) (Some bound) (answered_by window r) site facts later answers
after (running.OpeningDirectory place bound) bytes site facts r later answers =
    with_reply site r (λ y. on_handle y site (λ handle. entries_next (handle_of (answers place)) [] bound site later
    answers))
after (running.Listing place grant got bound) bytes site facts r later answers =
    with_reply site r (λ y. on_names y site (Done (outcome.Names got) site)
    (λ entries. entries_next (handle_of (answers grant)) (got ++ entries) (bound - 1) site later answers))
after (running.Flushing slot) bytes site facts r later answers =
    on_buffered (slot_at site slot) site (λ file buffer. with_reply site r
    (λ y. flushed_after slot file buffer site buffer.deferred y answers))
after (running.AwaitingRoom slot start) bytes site facts r later answers =
    on_buffered (slot_at site slot) site (λ file buffer. with_reply site r
    (λ y. room_made slot file buffer site buffer.deferred y (sent_next slot start file bytes facts later answers)))
after (running.Deferred slot count) bytes site facts r later answers = Done (outcome.Count count) site
after (running.DeferringRest slot done) bytes site facts r later answers =
    buf_write_all_next slot (drop done bytes) site facts later answers
after (running.FillingBuffer slot n offset own) bytes site facts r later answers =
    on_buffered (slot_at site slot) site (λ file buffer. with_reply site r (was_filled slot n file buffer site))
after (running.Copying place from to source target len) bytes site facts r later answers =
    with_reply site r (λ y. on_status y site (Done outcome.Done (site_after_copy from to source target len site)))

-- The move if a reply is awaited and missing.
abbrev pub waits : Option ℕ → Site → Move
waits None site = Done outcome.NoFile site
waits (Some place) site = Wait place

-- The plan of a call while the reply that it awaits is missing: a whole read may ask for more.
abbrev pub idle : Running → List ℕ → Site → Facts → Plan
idle (running.ReadingWhole grant bound window) bytes site facts later answers =
    window_next (handle_of (answers grant)) (Some bound) (reads_of (handle_of (answers grant)) window ++ later)
    (replies_of window) (under_way (handle_of (answers grant)) window ++ later) site facts
idle running bytes site facts later answers = waits (awaited_place running site) site

-- The move by the reply that is awaited, if one is.
abbrev pub once : Option ℕ → Answers → (Option Reply → Move) → Move
once None answers go = go None
once (Some place) answers go = once_answered place (answers place) (λ r. go (Some r))

-- The rest of the plan of a started call.
abbrev pub residual : Running → List ℕ → Site → Facts → Plan
residual (running.ReadingWhole grant bound window) bytes site facts later answers =
    window_plan (handle_of (answers grant)) (Some bound) window site facts later answers
residual running bytes site facts later answers = once (awaited_place running site) answers
    (λ r. after running bytes site facts r later answers)

-- ---- The steps of a runner

-- The step of a runner follows a plan: the request that it asks has this place.
abbrev pub RunsByPlan : Plan → ℕ → List ℕ → Site → Facts → Next → Type 0
RunsByPlan plan place bytes site facts (step.Ask a r) =
    (answers : Answers) → (plan [] answers ≡ Ask (request_with_handles a answers))
    × ((later : Own) → plan ((place, request_with_handles a answers) ∷ later) answers
    ≡ residual r bytes site facts later answers)
RunsByPlan plan place bytes site facts (step.Wait r) = (answers : Answers) → (later : Own) → plan later answers
    ≡ residual r bytes site facts later answers
RunsByPlan plan place bytes site facts (step.Done o) = (answers : Answers) → plan [] answers ≡ Done o site

-- The step of a runner while the reply that it awaits is missing: the request that it asks has this place, or the plan
-- waits.
abbrev pub AnswersWhileWaiting : Running → ℕ → List ℕ → Site → Facts → Next → Type 0
AnswersWhileWaiting running place bytes site facts (step.Ask a r) =
    (answers : Answers) → (idle running bytes site facts [] answers ≡ Ask (request_with_handles a answers))
    × ((later : Own) → residual running bytes site facts ((place, request_with_handles a answers) ∷ later) answers
    ≡ residual r bytes site facts later answers)
AnswersWhileWaiting running place bytes site facts (step.Wait r) = (r ≡ running)
    × ((answers : Answers) → idle running bytes site facts [] answers ≡ waits (awaited_place running site) site)
AnswersWhileWaiting running place bytes site facts (step.Done o) = (answers : Answers)
    → idle running bytes site facts [] answers
    ≡ Done o site

-- The bytes that a call carries.
abbrev pub bytes_of : Call → List ℕ
bytes_of (call.Write slot bytes) = bytes
bytes_of (call.WriteAll slot bytes) = bytes
bytes_of (call.WriteParts slot parts) = joined_parts parts
bytes_of (call.BufWrite slot bytes) = bytes
bytes_of (call.BufWriteAll slot bytes) = bytes
bytes_of (call.FsWrite path bytes) = bytes
bytes_of other = []

-- The start of a call follows its plan. The site was the first one, and is the second.
abbrev pub BeginsByPlan : Call → ℕ → Site → Site → Facts → Next → Type 0
BeginsByPlan c place old new facts n = RunsByPlan (next c old facts) place (bytes_of c) new facts n

-- ---- Seeks

-- A seek that leads to an offset, or is refused.
abbrev pub by_seek : Result ℕ IoKind → Site → (ℕ → Move) → Move
by_seek (Ok offset) site go = go offset
by_seek (Err why) site go = refuse_locally why site

-- ---- Refusals

-- The outcome of a reply that refuses.
abbrev pub refusal_of : Reply → Outcome
refusal_of (reply.Status code message language) = outcome.Refused (error.SftpError code message language)
refusal_of other = outcome.Refused (error.InvalidResponse None)

-- None if the call continues after a STATUS 0; otherwise the outcome of the refusal.
abbrev pub failure_of : Reply → Option Outcome
failure_of (reply.Status code message language) = if code == SSH_FX_OK then None else
    Some (outcome.Refused (error.SftpError code message language))
failure_of other = Some (outcome.Refused (error.InvalidResponse None))
