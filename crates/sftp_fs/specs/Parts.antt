-- The content of a whole write of a path, part by part.
use Rattle.std.specs.Prelude.{◌≡◌, ◌+◌, ◌<◌, ◌^◌, ℕ, true, false, List, [], ◌∷◌, length, drop, Option, Some, None, refl}
use Rattle.sftp_model.specs.declared.answers.Expected.TheVariants as expected
use Rattle.sftp_model.specs.declared.slot.Facts.{Facts}
use Rattle.sftp_model.specs.declared.slot.FileAt.{FileAt}
use Rattle.sftp_model.specs.declared.slot.Move.TheVariants.{Done, Wait}
use Rattle.sftp_model.specs.declared.slot.Site.{Site}
use Rattle.plan_model.specs.FilePlans.{opened_file}
use Rattle.plan_model.specs.Moves.{Answers, Own, Plan, handle_of, on_status, once_answered}
use Rattle.plan_model.specs.TransferPlans.{next_part, part_len, rest_next}
use Rattle.plan_model.specs.WholePlans.{nowhere, to_replace}
use Rattle.sftp_model.specs.Frames.{is_too_long}
use Rattle.plan_state.specs.Asked.{request_of}
use Rattle.plan_state.specs.Runners.{Meaning}
use Rattle.plan_state.specs.declared.submission.Asking.{Asking}
use Rattle.plan_state.specs.declared.submission.Asking.TheVariants.{Parts}
use Rattle.sftp_file.specs.Outcomes.{done_outcome}

-- The WRITE of a part under way: the file's handle, the session's facts, the place of the WRITE, how many bytes were
-- written before the part, and the bytes from it on.
pub record PartValue : Type 0 where
  pub handle : List ℕ
  pub facts : Facts
  pub place : ℕ
  pub done : ℕ
  pub rest : List ℕ

-- The file of the OPEN, which is the call's first request, with this many bytes written.
abbrev pub file_after_writes : ℕ → FileAt
file_after_writes done = record (opened_file to_replace 1) { offset = done }

-- The plan that writes the bytes that are left.
abbrev pub rest_from : ℕ → List ℕ → Site → Facts → Plan
rest_from done rest site facts = rest_next nowhere (file_after_writes done) rest site facts

-- The WRITE of the part.
abbrev pub asked_part : PartValue → Asking
asked_part m = Parts m.handle m.done (next_part m.facts m.rest ∷ [])

-- The state at the next part.
abbrev pub after_part : PartValue → PartValue
after_part m =
    record m {
      place = m.place + 1;
      done = m.done + part_len m.facts m.rest;
      rest = drop (part_len m.facts m.rest) m.rest;
    }

-- The plan that is left: the parts after this one, if its status is OK.
abbrev pub parts_left : Site → PartValue → Plan
parts_left site m later answers =
    once_answered m.place (answers m.place) (λ r. on_status r site
    (rest_from (m.done + part_len m.facts m.rest) (drop (part_len m.facts m.rest) m.rest) site m.facts later answers))

abbrev pub writing_parts : Meaning Site PartValue (Unit {0})
writing_parts =
    record {
      left = parts_left;
      place = λ m. m.place;
      expected = λ m. expected.Status;
      cut = λ m asking. asking ≡ asked_part m;
      ended = λ site m value. Done (done_outcome value) site;
      known = λ m answers. handle_of (answers 1) ≡ m.handle;
      stays = λ m next. next.handle ≡ m.handle;
      ready = λ m. ⊥;
      first = λ site m. Wait m.place;
      again = true;
      grant = λ value. None;
    }

pub parts_wait : (site : Site) (m : PartValue) (later : Own) (answers : Answers) → answers m.place ≡ None
    → parts_left site m later answers ≡ Wait m.place
parts_wait site m later answers none = rw none refl

-- ---- The next part

-- A part may be asked for: it isn't empty, ends within the greatest offset, and its WRITE fits a frame.
pub record IsPart (m : PartValue) (asking : Asking) : Type 0 where
  pub asks : asking ≡ asked_part m
  pub some : 0 < length m.rest
  pub room : m.done + part_len m.facts m.rest < 2 ^ 64
  pub short : is_too_long (request_of asking) ≡ false

-- The next part is this one, or nothing is left.
abbrev pub IsNextPart : PartValue → Option (Asking × ℕ) → Type 0
IsNextPart m None = m.rest ≡ []
IsNextPart m (Some next) = IsPart m next.0 × (next.1 ≡ part_len m.facts m.rest)

-- The runner is at the next part, or nothing is left.
abbrev pub IsBehind : PartValue → PartValue → Option Asking → Type 0
IsBehind m next None = (next ≡ m) × ((after_part m).rest ≡ [])
IsBehind m next (Some asking) = (next ≡ after_part m) × IsPart next asking

-- The first part of a content, written after an OPEN; None if the content is empty.
abbrev pub first_part : List ℕ → Facts → List ℕ → PartValue
first_part handle facts content = record { handle = handle; facts = facts; place = 2; done = 0; rest = content }

abbrev pub IsFirst : List ℕ → Facts → List ℕ → Option (Asking × PartValue) → Type 0
IsFirst handle facts content None = content ≡ []
IsFirst handle facts content (Some first) = (first.1 ≡ first_part handle facts content) × IsPart first.1 first.0
