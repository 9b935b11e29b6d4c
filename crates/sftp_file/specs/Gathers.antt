-- Reads of `n` bytes of a file, one READ after another.
use Rattle.std.specs.Prelude.{
  ◌≡◌,
  ◌+◌,
  ◌-◌,
  ◌++◌,
  ◌==◌,
  ℕ,
  false,
  true,
  List,
  [],
  length,
  min,
  Option,
  Some,
  None,
  Result,
  Ok,
  Err,
  refl,
  if◌then◌else◌,
}
use Rattle.bytes.specs.Filled.{Filled}
use Rattle.sftp_model.specs.Numbers.{SSH_FX_EOF}
use Rattle.sftp_model.specs.declared.answers.Expected.TheVariants as expected
use Rattle.sftp_model.specs.declared.error.Error.{Error}
use Rattle.sftp_model.specs.declared.error.Error.TheVariants as error
use Rattle.sftp_model.specs.declared.error.IoKind.{IoKind}
use Rattle.sftp_model.specs.declared.error.IoKind.TheVariants as kind
use Rattle.sftp_model.specs.declared.outcome.Outcome.{Outcome}
use Rattle.sftp_model.specs.declared.outcome.Outcome.TheVariants as outcome
use Rattle.sftp_model.specs.declared.request.Request.TheVariants as request
use Rattle.sftp_model.specs.declared.slot.Facts.{Facts}
use Rattle.sftp_model.specs.declared.slot.FileAt.{FileAt}
use Rattle.sftp_model.specs.declared.slot.Move.{Move}
use Rattle.sftp_model.specs.declared.slot.Move.TheVariants.{Ask, Done, Wait}
use Rattle.plan_model.specs.Moves.{Answers, Own, Plan, further, handle_of, on_content, once_answered, refuse_locally}
use Rattle.plan_model.specs.TransferPlans.{missing_next, read_all_next}
use Rattle.sftp_model.specs.Frames.{is_too_long}
use Rattle.sftp_core.specs.Core.{Core}
use Rattle.plan_state.specs.Asked.{request_of}
use Rattle.plan_state.specs.Calls.{CallValue, MayPoll, StepsByPlan, is_ended}
use Rattle.plan_state.specs.Runners.{Meaning}
use Rattle.plan_state.specs.declared.submission.Asking.{Asking}
use Rattle.plan_state.specs.declared.submission.Asking.TheVariants.{Whole}
use Rattle.plan_state.specs.declared.poll.Poll.{Poll}
use Rattle.plan_state.specs.declared.poll.Poll.TheVariants as poll
use Rattle.sftp_file.specs.Files.{FileValue, IsMoved, StartsOnFile, file_at, one_slot}
use Rattle.sftp_file.specs.declared.whole_reads.ReadAllError.{ReadAllError}

-- The READ of the missing bytes: the file's handle, the file at the READ's offset, the session's facts, the place of
-- the READ, the bytes that were passed in, those that came, how many are missing, and how many the READ asks for.
pub record ReadAllValue : Type 0 where
  pub handle : List ℕ
  pub file : FileAt
  pub facts : Facts
  pub place : ℕ
  pub before : List ℕ
  pub got : List ℕ
  pub missing : ℕ
  pub len : ℕ

-- The state with which a read of `n` bytes starts, if no bytes were passed in.
abbrev pub first_read : FileValue → Facts → ℕ → ReadAllValue
first_read f facts n =
    record {
      handle = f.grant.handle;
      file = file_at f;
      facts = facts;
      place = 1;
      before = [];
      got = [];
      missing = n;
      len = 0;
    }

-- ---- Plans

-- The plan that reads the missing bytes.
abbrev pub missing_from : FileAt → List ℕ → ℕ → Facts → Plan
missing_from file got n facts = missing_next 0 file got n (one_slot file) facts

-- The state after bytes came: the file is after them, and fewer bytes are missing.
abbrev pub after_data : ReadAllValue → List ℕ → ReadAllValue
after_data m bytes =
    record m {
      file = further m.file (length bytes);
      place = m.place + 1;
      got = m.got ++ bytes;
      missing = m.missing - length bytes;
      len = 0;
    }

-- The plan that is left after the READ: to read the bytes that are missing after those it brought.
abbrev pub read_all_left : ReadAllValue → Plan
read_all_left m later answers =
    once_answered m.place (answers m.place) (λ r. on_content r (one_slot m.file)
    (refuse_locally kind.UnexpectedEof (one_slot m.file))
    (λ bytes. missing_from (further m.file (length bytes)) (m.got ++ bytes) (m.missing - length bytes) m.facts later
    answers))

-- The outcome of the call: all bytes that came, or the error.
abbrev pub gathered_outcome : ReadAllValue → Result (Unit {0}) Error → Outcome
gathered_outcome m (Ok u) = outcome.Bytes m.got
gathered_outcome m (Err e) = outcome.Refused e

-- The error of a STATUS that comes in place of missing bytes.
abbrev pub missing_error : ℕ → List ℕ → List ℕ → Error
missing_error code message language = if code == SSH_FX_EOF then error.IOError kind.UnexpectedEof else
    error.SftpError code message language

abbrev pub reading_all : Meaning (Unit {0}) ReadAllValue (Unit {0})
reading_all =
    record {
      left = λ w. read_all_left;
      place = λ m. m.place;
      expected = λ m. expected.Content m.len;
      cut = λ m asking. Unit {0};
      ended = λ w m value. Done (gathered_outcome m value) (one_slot m.file);
      known = λ m answers. handle_of (answers m.file.grant) ≡ m.handle;
      stays = λ m next. (next.file ≡ record m.file { offset = next.file.offset }) × (next.before ≡ m.before);
      ready = λ m. Unit {0};
      first = λ w m. Done (outcome.Bytes m.got) (one_slot m.file);
      again = true;
      grant = λ value. None;
    }

pub gathers_wait : (w : Unit {0}) (m : ReadAllValue) (later : Own) (answers : Answers) → answers m.place ≡ None
    → read_all_left m later answers ≡ Wait m.place
gathers_wait w m later answers none = rw none refl

-- ---- The next READ

-- The number of missing bytes that one READ asks for.
abbrev pub next_len : ReadAllValue → ℕ
next_len m = min m.missing m.facts.read_len

-- The result of asking for the next READ: nothing is missing; or a READ is asked, which fits a frame; or it is refused
-- before it is asked.
abbrev pub IsNextRead : ReadAllValue → ReadAllValue → Result (Option Asking) IoKind → Type 0
IsNextRead m next (Ok None) = (m.missing ≡ 0) × (next ≡ m)
IsNextRead m next (Ok (Some asking)) = (next ≡ record m { len = next_len m })
    × (asking ≡ Whole (request.Read m.handle m.file.offset (next_len m)))
    × (is_too_long (request_of asking) ≡ false)
IsNextRead m next (Err why) = next ≡ m

-- That result as the move of the plan.
abbrev pub next_read : ReadAllValue → Result (Option Asking) IoKind → Move
next_read m (Ok None) = Done (outcome.Bytes m.got) (one_slot m.file)
next_read m (Ok (Some asking)) = Ask (request_of asking)
next_read m (Err why) = refuse_locally why (one_slot m.file)

-- ---- Bytes

-- The call with these bytes passed in, and none that came.
abbrev pub with_buffer : ReadAllValue → List ℕ → ReadAllValue
with_buffer m bytes = record m { before = bytes; got = [] }

-- The bytes that a call returns. A call that has ended returns the bytes that were passed in, followed by those that
-- came; any other keeps them.
abbrev pub bytes_out : CallValue ReadAllValue → List ℕ
bytes_out call = if is_ended call.stage then call.runner.before ++ call.runner.got else []

abbrev pub without_bytes : CallValue ReadAllValue → CallValue ReadAllValue
without_bytes call = if is_ended call.stage then record call { runner = with_buffer call.runner [] } else call

-- The relation between an answer and the result with its bytes.
abbrev pub GivesBytes : List ℕ → Result (Unit {0}) Error → Result Filled ReadAllError → Type 0
GivesBytes bytes (Ok u) (Ok out) = out.items ≡ bytes
GivesBytes bytes (Err e) (Err failed) = (failed.error ≡ e) × (failed.got.items ≡ bytes)
GivesBytes bytes answer other = ⊥

-- ---- Starts

-- The result of a start without its bytes.
abbrev pub plain_start : Result (CallValue ReadAllValue) ReadAllError → Result (CallValue ReadAllValue) Error
plain_start (Ok call) = Ok call
plain_start (Err failed) = Err failed.error

-- The call holds the bytes that were passed in; after an error they are handed back.
abbrev pub KeepsBytes : List ℕ → FileValue → Result (CallValue ReadAllValue) ReadAllError → Type 0
KeepsBytes buffer f (Ok call) = (call.runner.file ≡ file_at f) × (call.runner.before ≡ buffer)
    × (call.runner.got ≡ [])
KeepsBytes buffer f (Err failed) = failed.got.items ≡ buffer

pub record StartsReadAll (n : ℕ) (buffer : List ℕ) (f : FileValue) (old new : Core)
    (result : Result (CallValue ReadAllValue) ReadAllError) : Type 0 where
  pub starts : StartsOnFile reading_all tt (read_all_next 0 n) f old new (plain_start result)
  pub bytes : KeepsBytes buffer f result

-- ---- Polls

-- A call may be polled on the file that it works on.
pub record MayReadAll (core : Core) (call : CallValue ReadAllValue) (file : FileValue) : Type 0 where
  pub poll : MayPoll reading_all core call
  pub stands : call.runner.file ≡ file_at file

abbrev pub GivesPolled : List ℕ → Poll (Result (Unit {0}) Error) → Poll (Result Filled ReadAllError) → Type 0
GivesPolled bytes poll.Pending poll.Pending = Unit {0}
GivesPolled bytes (poll.Ready answer) (poll.Ready result) = GivesBytes bytes answer result
GivesPolled bytes answer other = ⊥

-- A poll made the next move of each plan that the call is what is left of. It returns what that move gave, with the
-- bytes if the call has ended. The file is at the offset that the call has reached.
pub record ReadsAll (old new : Core) (p q : CallValue ReadAllValue) (before after : FileValue)
    (result : Poll (Result Filled ReadAllError)) : Type 0 where
  pub last : CallValue ReadAllValue
  pub answer : Poll (Result (Unit {0}) Error)
  pub stepped : StepsByPlan reading_all old new p last answer
  pub gives : GivesPolled (bytes_out last) answer result
  pub left : q ≡ without_bytes last
  pub moved : IsMoved before after last.runner.file
