-- Writes of a file.
use Rattle.std.specs.Prelude.{◌≡◌, ◌+◌, ◌<◌, ◌^◌, ℕ, List, [], false, true, drop, Result, Ok, None, refl, IfOk}
use Rattle.sftp_model.specs.Answers.{expected_of}
use Rattle.sftp_model.specs.Pieces.{joined_pieces}
use Rattle.sftp_model.specs.declared.answers.Expected.TheVariants as expected
use Rattle.sftp_model.specs.declared.error.Error.{Error}
use Rattle.sftp_model.specs.declared.outcome.Outcome.TheVariants as outcome
use Rattle.sftp_model.specs.declared.slot.Facts.{Facts}
use Rattle.sftp_model.specs.declared.slot.FileAt.{FileAt}
use Rattle.sftp_model.specs.declared.slot.Move.{Move}
use Rattle.sftp_model.specs.declared.slot.Move.TheVariants.{Ask, Done, Wait}
use Rattle.sftp_model.specs.declared.slot.Site.{Site}
use Rattle.plan_model.specs.Moves.{Answers, Own, Plan, further, handle_of, on_status, once_answered}
use Rattle.plan_model.specs.TransferPlans.{in_slot, next_part, part_len, rest_next, was_written, write_next}
use Rattle.sftp_model.specs.Frames.{is_too_long}
use Rattle.sftp_core.specs.Core.{Core, is_call, queued_parts}
use Rattle.plan_state.specs.Asked.{request_of}
use Rattle.plan_state.specs.Calls.{CallValue}
use Rattle.plan_state.specs.Runners.{IsOwn, Meaning}
use Rattle.plan_state.specs.declared.submission.Asking.{Asking}
use Rattle.plan_state.specs.declared.submission.Asking.TheVariants.{Parts}
use Rattle.plan_state.specs.declared.stage.Stage.TheVariants.{Asked}
use Rattle.sftp_file.specs.declared.whole_writes.Part.{Part}
use Rattle.sftp_file.specs.declared.whole_writes.Part.TheVariants as part
use Rattle.sftp_file.specs.Files.{FileValue, StartsOnFile, facts_of, file_at, one_slot}
use Rattle.sftp_file.specs.Outcomes.{count_outcome, done_outcome}
use Rattle.sftp_file.specs.Parts.{cut_at}

-- ---- `write`: the first bytes

-- A WRITE of a file: the file at its offset, and how many bytes the WRITE carries.
pub record WriteValue : Type 0 where
  pub file : FileAt
  pub len : ℕ

-- The plan that is left of a write: its status moves the file past the bytes.
abbrev pub write_left : WriteValue → Plan
write_left m later answers = once_answered 1 (answers 1) (was_written 0 m.file m.len (one_slot m.file))

abbrev pub write_meaning : Meaning (Unit {0}) WriteValue ℕ
write_meaning =
    record {
      left = λ w. write_left;
      place = λ m. 1;
      expected = λ m. expected.Status;
      cut = λ m asking. Unit {0};
      ended = λ w m value. Done (count_outcome value) (one_slot m.file);
      known = λ m answers. Unit {0};
      stays = λ m next. next.file ≡ record m.file { offset = next.file.offset };
      ready = λ m. Unit {0};
      first = λ w m. Done (outcome.Count 0) (one_slot m.file);
      again = false;
      grant = λ value. None;
    }

pub write_waits : (w : Unit {0}) (m : WriteValue) (later : Own) (answers : Answers) → answers 1 ≡ None
    → write_left m later answers ≡ Wait 1
write_waits w m later answers none = rw none refl

-- One WRITE of these parts was asked. It is the first move of the write of any bytes whose first WRITE carries exactly
-- these parts, joined. The parts are queued unchanged.
pub record WritesParts (f : FileValue) (parts : List (List ℕ)) (old new : Core)
    (result : Result (CallValue WriteValue) Error) :
    Type 0 where
  pub starts : (bytes : List ℕ) → joined_pieces parts ≡ next_part (facts_of old) bytes
      → StartsOnFile write_meaning tt (write_next 0 bytes) f old new result
  pub shared : IfOk result (λ call. (ticket : ℕ) → call.stage ≡ Asked ticket
      → new ≡ queued_parts old ticket f.grant.handle f.offset parts)
  pub file : IfOk result (λ call. call.runner.file ≡ file_at f)

-- ---- `write_all`: part by part

-- The WRITE of a part under way: the file's handle, the file at the part's offset, the session's facts, the place of
-- the WRITE, the pieces as they were passed in, and how many of their bytes come before the part.
pub record WriteAllValue : Type 0 where
  pub handle : List ℕ
  pub file : FileAt
  pub facts : Facts
  pub place : ℕ
  pub pieces : List (List ℕ)
  pub done : ℕ

-- The state with which a whole write of a file starts.
abbrev pub first_part : FileValue → Facts → List (List ℕ) → WriteAllValue
first_part f facts pieces =
    record { handle = f.grant.handle; file = file_at f; facts = facts; place = 1; pieces = pieces; done = 0 }

-- The bytes from the part on.
abbrev pub from_part : WriteAllValue → List ℕ
from_part m = drop m.done (joined_pieces m.pieces)

abbrev pub this_part : WriteAllValue → ℕ
this_part m = part_len m.facts (from_part m)

-- The plan that writes the bytes after a part.
abbrev pub rest_of : FileAt → List ℕ → Facts → Plan
rest_of file bytes facts later answers = rest_next (in_slot 0) file bytes (one_slot file) facts later answers

-- The file after this part.
abbrev pub behind_part : WriteAllValue → FileAt
behind_part m = further m.file (this_part m)

abbrev pub rest_behind : WriteAllValue → List ℕ
rest_behind m = drop (this_part m) (from_part m)

-- The plan that is left of a whole write: the parts after this one, if its status is OK.
abbrev pub write_all_left : WriteAllValue → Plan
write_all_left m later answers =
    once_answered m.place (answers m.place) (λ r. on_status r (one_slot m.file)
    (rest_of (behind_part m) (rest_behind m) m.facts later answers))

-- True if a part is cut out of the pieces as they were passed in.
abbrev pub IsCutOut : Facts → List (List ℕ) → ℕ → Asking → Type 0
IsCutOut facts pieces done (Parts handle offset parts) = parts ≡ cut_at done facts.write_len pieces
IsCutOut facts pieces done other = ⊥

abbrev pub writing_all : Meaning (Unit {0}) WriteAllValue (Unit {0})
writing_all =
    record {
      left = λ w. write_all_left;
      place = λ m. m.place;
      expected = λ m. expected.Status;
      cut = λ m. IsCutOut m.facts m.pieces m.done;
      ended = λ w m value. Done (done_outcome value) (one_slot m.file);
      known = λ m answers. handle_of (answers m.file.grant) ≡ m.handle;
      stays = λ m next. next.file ≡ record m.file { offset = next.file.offset };
      ready = λ m. Unit {0};
      first = λ w m. Done outcome.Done (one_slot m.file);
      again = true;
      grant = λ value. None;
    }

pub writes_wait : (w : Unit {0}) (m : WriteAllValue) (later : Own) (answers : Answers) → answers m.place ≡ None
    → write_all_left m later answers ≡ Wait m.place
writes_wait w m later answers none = rw none refl

-- ---- The next part

-- The relation between the next part and the plan's move.
abbrev pub IsPart : Site → Move → Part → Type 0
IsPart site move (part.Over value) = move ≡ Done (done_outcome value) site
IsPart site move (part.Ask asking len) = move ≡ Ask (request_of asking)

-- True if it is a WRITE that fits a frame, cut out of the pieces.
abbrev pub IsWrite : Facts → List (List ℕ) → ℕ → Asking → Type 0
IsWrite facts pieces done asking = (expected_of (request_of asking) ≡ expected.Status)
    × (is_call (request_of asking) ≡ true)
    × (is_too_long (request_of asking) ≡ false)
    × IsCutOut facts pieces done asking

-- The next part ends within the greatest offset. If there is no next part, nothing is left or the call has a value of
-- its own.
abbrev pub IsNext : FileAt → Facts → List (List ℕ) → ℕ → Part → Type 0
IsNext file facts pieces done (part.Over (Ok u)) = drop done (joined_pieces pieces) ≡ []
IsNext file facts pieces done (part.Over value) = IsOwn value
IsNext file facts pieces done (part.Ask asking len) = IsWrite facts pieces done asking
    × (len ≡ part_len facts (drop done (joined_pieces pieces)))
    × (file.offset + len < 2 ^ 64)

-- The runner after this part.
abbrev pub after_this_part : WriteAllValue → WriteAllValue
after_this_part m = record m { file = behind_part m; place = m.place + 1; done = m.done + this_part m }

-- The relation between a runner, its next state, and the part that it asks for or the value that it ends with.
abbrev pub IsBehind : WriteAllValue → WriteAllValue → Part → Type 0
IsBehind m next (part.Over value) = (next.file ≡ behind_part m) × IsOwn value
IsBehind m next (part.Ask asking len) = (next ≡ after_this_part m) × IsWrite next.facts next.pieces next.done asking
