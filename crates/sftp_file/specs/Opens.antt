-- Opens of files.
use Rattle.std.specs.Prelude.{◌≡◌, ℕ, Bool, false, List, Some, None, Result, Ok, Err, refl, IfOk}
use Rattle.sftp_model.specs.declared.answers.Expected.TheVariants as expected
use Rattle.sftp_model.specs.declared.error.Error.{Error}
use Rattle.sftp_model.specs.declared.flags.OpenFlags.{OpenFlags}
use Rattle.sftp_model.specs.declared.outcome.Outcome.TheVariants as outcome
use Rattle.sftp_model.specs.declared.slot.Facts.{Facts}
use Rattle.sftp_model.specs.declared.slot.FileAt.{FileAt}
use Rattle.sftp_model.specs.declared.slot.Move.{Move}
use Rattle.sftp_model.specs.declared.slot.Move.TheVariants.{Done, Wait}
use Rattle.sftp_model.specs.declared.slot.Site.{Site}
use Rattle.sftp_model.specs.declared.slot.Slot.TheVariants as slots
use Rattle.sftp_model.specs.Numbers.{SSH_FXF_READ, SSH_FXF_WRITE}
use Rattle.sftp_model.specs.Readings.{has_bit}
use Rattle.sftp_model.specs.Slots.{with_slot}
use Rattle.plan_model.specs.FilePlans.{open_next}
use Rattle.plan_model.specs.Moves.{Answers, Own, Plan, on_handle, once_answered}
use Rattle.sftp_core.specs.Core.{Core}
use Rattle.plan_state.specs.Calls.{CallValue, IsUnderWay, StartsByPlan}
use Rattle.plan_state.specs.Keeping.{KeepsHeld}
use Rattle.plan_state.specs.Runners.{Meaning}
use Rattle.sftp_file.specs.declared.opens.Opening.{Opening}
use Rattle.sftp_file.specs.Files.{FileValue}

-- A file that was opened with these rights by the OPEN at this place.
abbrev pub opened_at : ℕ → Bool → Bool → FileAt
opened_at place readable writable = record { grant = place; readable = readable; writable = writable; offset = 0 }

-- The file in a plan, if its OPEN is the call's first request.
abbrev pub given_at : FileValue → FileAt
given_at f = record { grant = 1; readable = f.readable; writable = f.writable; offset = f.offset }

-- The plan that is left of an open into a slot of a lane.
abbrev pub open_left : ℕ × Site → Opening → Plan
open_left lane m later answers =
    once_answered 1 (answers 1) (λ r. on_handle r lane.1 (λ handle. Done outcome.Opened
    (with_slot lane.1 lane.0 (slots.File (opened_at 1 m.readable m.writable)))))

-- The move that ends an open: the slot holds the file that was opened, or the call is refused.
abbrev pub open_ended : ℕ × Site → Result FileValue Error → Move
open_ended lane (Ok f) = Done outcome.Opened (with_slot lane.1 lane.0 (slots.File (given_at f)))
open_ended lane (Err e) = Done (outcome.Refused e) lane.1

-- The meaning of an open, in any lane and into any slot. The grant that came is the file's.
abbrev pub open_meaning : Meaning (ℕ × Site) Opening FileValue
open_meaning =
    record {
      left = open_left;
      place = λ m. 1;
      expected = λ m. expected.Handle;
      cut = λ m asking. Unit {0};
      ended = λ lane m. open_ended lane;
      known = λ m answers. Unit {0};
      stays = λ m next. next ≡ m;
      ready = λ m. ⊥;
      first = λ lane m. Wait 1;
      again = false;
      grant = λ f. Some f.grant;
    }

pub open_waits : (lane : ℕ × Site) (m : Opening) (later : Own) (answers : Answers) → answers 1 ≡ None
    → open_left lane m later answers ≡ Wait 1
open_waits lane m later answers none = rw none refl

-- The rights of an open are those of its flags.
pub record HasRights (flags : OpenFlags) (m : Opening) : Type 0 where
  pub reads : m.readable ≡ has_bit flags.0 SSH_FXF_READ
  pub writes : m.writable ≡ has_bit flags.0 SSH_FXF_WRITE

-- A start made the first move of the plan of an open, in any lane and into any slot, for any replies to come.
pub record OpenStarts (flags : OpenFlags) (path : List ℕ) (old new : Core) (result : Result (CallValue Opening) Error) :
    Type 0 where
  pub starts : (slot : ℕ) (site : Site) (facts : Facts) (answers : Answers)
      → StartsByPlan open_meaning (slot, site) (λ e. Done (outcome.Refused e) site)
      (open_next slot flags path site facts) answers
      old new result
  pub under_way : IfOk result (IsUnderWay open_meaning new)
  pub rights : IfOk result (λ call. HasRights flags call.runner)
  pub keeps : KeepsHeld old new
