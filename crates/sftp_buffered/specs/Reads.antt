-- Reads through the buffer.
use Rattle.std.specs.Prelude.{
  ◌≡◌,
  ◌⊎◌,
  ◌≤◌,
  ◌<◌,
  ◌+◌,
  ◌^◌,
  ◌==◌,
  ◌&&◌,
  ℕ,
  not,
  true,
  List,
  [],
  ◌∷◌,
  ◌++◌,
  length,
  take,
  drop,
  min,
  max,
  Option,
  Some,
  None,
  Result,
  Ok,
  Err,
  if◌then◌else◌,
}
use Rattle.sftp_model.specs.Answers.{allows_reply}
use Rattle.sftp_model.specs.Numbers.{SSH_FX_EOF}
use Rattle.sftp_model.specs.Slots.{slot_at, with_slot}
use Rattle.sftp_model.specs.declared.answers.Expected.TheVariants as expected
use Rattle.sftp_model.specs.declared.error.Error.{Error}
use Rattle.sftp_model.specs.declared.error.Error.TheVariants as error
use Rattle.sftp_model.specs.declared.error.IoKind.TheVariants as kind
use Rattle.sftp_model.specs.declared.outcome.Outcome.{Outcome}
use Rattle.sftp_model.specs.declared.outcome.Outcome.TheVariants as outcome
use Rattle.sftp_model.specs.declared.reply.Reply.{Reply}
use Rattle.sftp_model.specs.declared.reply.Reply.TheVariants as reply
use Rattle.sftp_model.specs.declared.request.Request.{Request}
use Rattle.sftp_model.specs.declared.request.Request.TheVariants as request
use Rattle.sftp_model.specs.declared.slot.Buffer.{Buffer}
use Rattle.sftp_model.specs.declared.slot.Facts.{Facts}
use Rattle.sftp_model.specs.declared.slot.FileAt.{FileAt}
use Rattle.sftp_model.specs.declared.slot.Move.{Move}
use Rattle.sftp_model.specs.declared.slot.Move.TheVariants.{Ask, Done}
use Rattle.sftp_model.specs.declared.slot.Site.{Site}
use Rattle.sftp_model.specs.declared.slot.Slot.{Slot}
use Rattle.sftp_model.specs.declared.slot.Slot.TheVariants.{Buffered}
use Rattle.plan_model.specs.BufferPlans.{buf_read_next, cancelled_buf_read, without_reading}
use Rattle.plan_model.specs.Moves.{
  Answers,
  Plan,
  ask_read,
  by_reply,
  further,
  on_buffered,
  on_content,
  once_answered,
  refuse_locally,
}
use Rattle.sftp_core.specs.Core.{Core, after_poll, record_at, reply_in}
use Rattle.plan_state.specs.Asked.{SubmitsAsking}
use Rattle.plan_state.specs.Calls.{IfOutOfMemory}
use Rattle.plan_state.specs.declared.submission.Asking.TheVariants.{Whole}
use Rattle.plan_state.specs.declared.poll.Poll.{Poll}
use Rattle.plan_state.specs.declared.poll.Poll.TheVariants as poll
use Rattle.sftp_file.specs.Files.{facts_of}
use Rattle.sftp_buffered.specs.declared.file.ReadUnderWay.{ReadUnderWay}
use Rattle.sftp_buffered.specs.Buffered.{CompatValue, DefersWrites, IsSound, LeavesOthers, lane_of}
use Rattle.sftp_buffered.specs.Polls.{AnyCut, PollsPlan, PlanWaits}
use Rattle.sftp_buffered.specs.Steps.{IsLeft, read_reply}

-- ---- The plan of a read into the buffer

-- The buffer with these bytes at its end, and no READ under way.
abbrev pub filled_slot : FileAt → Buffer → List ℕ → Slot
filled_slot file buffer bytes = Buffered file (record buffer { bytes = buffer.bytes ++ bytes; reading = None })

abbrev pub was_appended : ℕ → FileAt → Buffer → Site → Reply → Move
was_appended slot file buffer site r =
    on_content r (without_reading slot file buffer site) (Done outcome.Done (without_reading slot file buffer site))
    (λ bytes. Done outcome.Done (with_slot site slot (filled_slot file buffer bytes)))

-- The plan continues the READ under way, or asks for one after the buffer if none is under way.
abbrev pub append_next : ℕ → ℕ → FileAt → Buffer → Site → Facts → Option ℕ → Plan
append_next slot len file buffer site facts (Some place) own answers =
    once_answered place (answers place) (was_appended slot file buffer site)
append_next slot len file buffer site facts None own answers = by_reply
    (ask_read (further file (length buffer.bytes)) (min len facts.read_len) site answers)
    (was_appended slot file buffer site) own answers

-- The plan of a read into the buffer that asks for this many bytes.
abbrev pub buf_fill_next : ℕ → ℕ → Site → Facts → Plan
buf_fill_next slot len site facts own answers = on_buffered (slot_at site slot) site
    (λ file buffer. if not file.readable then refuse_locally kind.NotReadable site else
    append_next slot len file buffer site facts buffer.reading own answers)

-- The same plan if the buffer is empty, and nothing otherwise.
abbrev pub ready_next : ℕ → Site → Facts → List ℕ → Buffer → Plan
ready_next slot site facts [] buffer own answers = buf_fill_next slot buffer.len site facts own answers
ready_next slot site facts (b ∷ bytes) buffer own answers = Done outcome.Done site

abbrev pub buf_ready_next : ℕ → Site → Facts → Plan
buf_ready_next slot site facts own answers = on_buffered (slot_at site slot) site
    (λ file buffer. ready_next slot site facts buffer.bytes buffer own answers)

-- ---- Steps

-- A READ of this many bytes is under way, as the file's next request.
abbrev pub with_read : CompatValue → ℕ → ℕ → CompatValue
with_read c len ticket =
    record c { reading = Some (record { place = c.place; len = len; ticket = ticket }); place = c.place + 1 }

abbrev pub without_read : CompatValue → CompatValue
without_read c = record c { reading = None }

-- The offset at which the buffer ends.
abbrev pub end_of : CompatValue → ℕ
end_of c = c.file.offset + length c.buffered

-- A READ of this many bytes after the buffer.
abbrev pub read_behind : CompatValue → ℕ → Request
read_behind c len = request.Read c.file.grant.handle (end_of c) len

-- That reply is one that the READ allows.
abbrev pub IsAllowedRead : Core → Option ReadUnderWay → Type 0
IsAllowedRead core None = Unit {0}
IsAllowedRead core (Some r) = (reply : Reply) → reply_in (record_at core r.ticket) ≡ Some reply
    → allows_reply (expected.Content r.len) reply ≡ true

-- The bytes that the reply brings are at the end of the buffer.
abbrev pub with_bytes_appended : Reply → CompatValue → CompatValue
with_bytes_appended (reply.Content bytes) c =
    record c { buffered = c.buffered ++ bytes; capacity = max c.capacity (length (c.buffered ++ bytes)) }
with_bytes_appended other c = c

-- The value of a reply to a READ.
abbrev pub fill_value : Reply → Result (Unit {0}) Error
fill_value (reply.Content bytes) = Ok tt
fill_value (reply.Status code message language) = if code == SSH_FX_EOF then Ok tt else
    Err (error.SftpError code message language)
fill_value other = Err (error.InvalidResponse None)

-- The READ was submitted, or nothing changed: out of memory, a recorded fault, or past the greatest offset.
abbrev pub BeginsRead : ℕ → Core → Core → CompatValue → CompatValue → Poll (Result (Unit {0}) Error) → Type 0
BeginsRead len old new p q poll.Pending = (end_of p + len < 2 ^ 64) × (ticket : ℕ)
    × SubmitsAsking old (Whole (read_behind p len)) ticket new × (q ≡ with_read p len ticket)
BeginsRead len old new p q (poll.Ready (Ok u)) = ⊥
BeginsRead len old new p q (poll.Ready (Err error.OutOfMemory)) = IsLeft old new p q
BeginsRead len old new p q (poll.Ready (Err (error.BackgroundTaskFailure fault))) = (end_of p + len < 2 ^ 64)
    × (old.fault ≡ Some fault) × IsLeft old new p q
BeginsRead len old new p q (poll.Ready (Err (error.IOError kind.OffsetOverflow))) = (2 ^ 64 ≤ end_of p + len)
    × IsLeft old new p q
BeginsRead len old new p q (poll.Ready (Err other)) = ⊥

-- This reply brought bytes.
abbrev pub BringsBytes : Option Reply → Type 0
BringsBytes (Some (reply.Content bytes)) = Unit {0}
BringsBytes other = ⊥

-- The relation of a look at the reply to the READ: its bytes are copied to the end of the buffer, for which an
-- allocation may fail.
abbrev pub LooksAtRead : Core → CompatValue → CompatValue → Poll (Result (Unit {0}) Error) → Type 0
LooksAtRead core p q poll.Pending = (read_reply core p.reading ≡ None) × (core.fault ≡ None) × (q ≡ p)
LooksAtRead core p q (poll.Ready (Ok u)) = (r : Reply) × (read_reply core p.reading ≡ Some r)
    × (q ≡ with_bytes_appended r p)
LooksAtRead core p q (poll.Ready (Err error.OutOfMemory)) = BringsBytes (read_reply core p.reading) × (q ≡ p)
LooksAtRead core p q (poll.Ready (Err (error.BackgroundTaskFailure fault))) = (read_reply core p.reading ≡ None)
    × (core.fault ≡ Some fault) × (q ≡ p)
LooksAtRead core p q (poll.Ready (Err other)) = ⊥

-- The reply to the READ was taken.
pub record TookRead (old new : Core) (p q : CompatValue) (value : Result (Unit {0}) Error) : Type 0 where
  pub read : ReadUnderWay
  pub under_way : p.reading ≡ Some read
  pub reply : Reply
  pub came : reply_in (record_at old read.ticket) ≡ Some reply
  pub allowed : allows_reply (expected.Content read.len) reply ≡ true
  pub says : value ≡ fill_value reply
  pub left : q ≡ without_read (with_bytes_appended reply p)
  pub core : new ≡ after_poll old read.ticket

-- If no READ is under way, one is asked.
pub record BeginsFill (len : ℕ) (old new : Core) (p q : CompatValue) (result : Poll (Result (Unit {0}) Error)) : Type 0
  where
    pub none : p.reading ≡ None
    pub begins : BeginsRead len old new p q result

-- If a READ is under way, its reply is looked at, and taken.
abbrev pub AwaitsFill : Core → Core → CompatValue → CompatValue → Poll (Result (Unit {0}) Error) → Type 0
AwaitsFill old new p q poll.Pending = (read_reply old p.reading ≡ None) × (old.fault ≡ None) × IsLeft old new p q
AwaitsFill old new p q (poll.Ready (Err error.OutOfMemory)) = BringsBytes (read_reply old p.reading)
    × IsLeft old new p q
AwaitsFill old new p q (poll.Ready (Err (error.BackgroundTaskFailure fault))) = (read_reply old p.reading ≡ None)
    × (old.fault ≡ Some fault) × IsLeft old new p q
AwaitsFill old new p q (poll.Ready value) = TookRead old new p q value

pub record EndsFill (old new : Core) (p q : CompatValue) (result : Poll (Result (Unit {0}) Error)) : Type 0 where
  pub read : ReadUnderWay
  pub under_way : p.reading ≡ Some read
  pub awaits : AwaitsFill old new p q result

abbrev pub FillsBuffer : ℕ → Core → Core → CompatValue → CompatValue → Poll (Result (Unit {0}) Error) → Type 0
FillsBuffer len old new p q result = BeginsFill len old new p q result ⊎ EndsFill old new p q result

-- ---- Polls

-- The plan asks for a READ, which was submitted and is under way, as after a read that is cancelled then.
pub record BeganRead (plan : Plan) (answers : Answers) (old new : Core) (p q : CompatValue) : Type 0 where
  pub len : ℕ
  pub ticket : ℕ
  pub asks : plan [] answers ≡ Ask (read_behind p len)
  pub submitted : SubmitsAsking old (Whole (read_behind p len)) ticket new
  pub left : q ≡ with_read p len ticket
  pub lane : lane_of q ≡ cancelled_buf_read 0 (lane_of p) (facts_of old) ((p.place, read_behind p len) ∷ []) answers

-- No READ is under way, or its reply came and brought bytes.
abbrev pub CanReadOn : Core → Option ReadUnderWay → Type 0
CanReadOn core read = (read ≡ None) ⊎ BringsBytes (read_reply core read)

-- The poll made the next move of this plan, for any replies to come. The file may be polled further, and others find
-- the core as it was. `Pending` comes if the plan waits and nothing changed, and if its READ was submitted. Running out
-- of memory and a recorded fault leave core and file as they were. Neither a missing reply nor a status is ever
-- reported as out of memory.
pub record ReadsTo {V : Type 0} (plan : Plan) (o : V → Outcome) (old new : Core) (p q : CompatValue)
    (result : Poll (Result V Error)) : Type 0 where
  pub polled : (answers : Answers) → DefersWrites old p answers
      → PollsPlan (PlanWaits plan answers old (IsLeft old new p q) ⊎ BeganRead plan answers old new p q)
      (IsLeft old new p q) AnyCut
      plan o answers old new p q result
  pub sound : IsSound new q
  pub others : LeavesOthers old new p
  pub memory : IfOutOfMemory result (CanReadOn old p.reading)

-- The plan of a read into the buffer.
abbrev pub fill_plan : ℕ → Core → CompatValue → Plan
fill_plan len core c = buf_fill_next 0 len (lane_of c) (facts_of core)

-- The plan of a read into an empty buffer.
abbrev pub ready_plan : Core → CompatValue → Plan
ready_plan core c = buf_ready_next 0 (lane_of c) (facts_of core)

-- The plan of a read of at most `n` bytes.
abbrev pub read_plan : ℕ → Core → CompatValue → Plan
read_plan n core c = buf_read_next 0 n (lane_of c) (facts_of core)

-- The file is after the first n buffered bytes.
abbrev pub after_consuming : CompatValue → ℕ → CompatValue
after_consuming c n = record c { file = record c.file { offset = c.file.offset + n }; buffered = drop n c.buffered }

-- The outcome of a read that put n bytes into a room of this length. No bytes in a room that isn't empty are the end of
-- the file.
abbrev pub room_outcome : ℕ → List ℕ → ℕ → Outcome
room_outcome len room n = if n == 0 && not (len == 0) then outcome.End else outcome.Bytes (take n room)

-- The bytes come first in the room, and the rest of it is as before. Without an answer all of it is as before.
abbrev pub IsGiven : List ℕ → List ℕ → Poll (Result ℕ Error) → Type 0
IsGiven old new (poll.Ready (Ok n)) = (n ≤ length old) × (new ≡ take n new ++ drop n old)
IsGiven old new other = new ≡ old
