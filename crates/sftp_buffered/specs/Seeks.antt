-- Seeks of a buffered file.
use Rattle.std.specs.Prelude.{◌≡◌, ◌⊎◌, ◌-◌, ℕ, [], drop, nat_lt, None, Result, Ok, Err, if◌then◌else◌}
use Rattle.std.specs.declared.io.traits.SeekFrom.{SeekFrom}
use Rattle.sftp_model.specs.declared.error.Error.{Error}
use Rattle.sftp_model.specs.declared.outcome.Outcome.TheVariants as outcome
use Rattle.sftp_model.specs.declared.slot.Facts.{Facts}
use Rattle.sftp_model.specs.declared.slot.Move.{Move}
use Rattle.sftp_model.specs.declared.slot.Move.TheVariants.{Done}
use Rattle.plan_model.specs.BufferPlans.{buf_seek_next}
use Rattle.plan_model.specs.Moves.{Answers}
use Rattle.sftp_core.specs.Core.{Core}
use Rattle.sftp_buffered.specs.Buffered.{CompatValue, IsSound, LeavesOthers, lane_of}
use Rattle.sftp_buffered.specs.Steps.{IsLeft, read_dropped}

-- The file at another offset: a move forward keeps the bytes from there on, and the READ is given up.
abbrev pub stood : CompatValue → ℕ → CompatValue
stood c to =
    record c {
      file = record c.file { offset = to };
      buffered = if nat_lt c.file.offset to then drop (to - c.file.offset) c.buffered else [];
      reading = None;
    }

-- The offset was set, and the READ under way was abandoned.
pub record StandsElsewhere (old new : Core) (p q : CompatValue) : Type 0 where
  pub left : q ≡ stood p q.file.offset
  pub core : new ≡ read_dropped old p.reading

-- The move that ends a seek: with the new offset, or refused.
abbrev pub seek_ended : Result (Unit {0}) Error → CompatValue → Move
seek_ended (Ok u) c = Done (outcome.Count c.file.offset) (lane_of c)
seek_ended (Err e) c = Done (outcome.Refused e) (lane_of c)

-- After an error nothing changed.
abbrev pub IsLeftByErr : Core → Core → CompatValue → CompatValue → Result (Unit {0}) Error → Type 0
IsLeftByErr old new p q (Ok u) = Unit {0}
IsLeftByErr old new p q (Err e) = IsLeft old new p q

-- The seek did what its plan says. The file may be polled further, and others find the core as it was.
pub record SeeksTo (position : SeekFrom) (old new : Core) (p q : CompatValue) (result : Result (Unit {0}) Error) : Type
    0
  where
    pub seeks : (facts : Facts) (answers : Answers)
        → buf_seek_next 0 position (lane_of p) facts [] answers ≡ seek_ended result q
    pub moves : IsLeft old new p q ⊎ StandsElsewhere old new p q
    pub err : IsLeftByErr old new p q result
    pub sound : IsSound new q
    pub others : LeavesOthers old new p
