-- The effect of one call on the bytes that were read ahead, or on those that are held back.
use Rattle.std.specs.Prelude.{◌≡◌, ◌≤◌, ◌<◌, ℕ, List, [], ◌∷◌, ◌++◌, length, min, take, Result, Ok, Err, OnOk, IfOk}
use Rattle.std.proofs.Common.{refl}
use Rattle.sftp_link.specs.Causes.{CountsDeviceFault}
use Rattle.sftp_link.specs.Told.{LogsNothing, IfLogged}
use Rattle.sftp_link.specs.declared.device_error.DeviceError.{DeviceError}
use Rattle.link_duplex.specs.WireSteps.{LogsSteps, Got}
use Rattle.link_duplex.specs.Wires.{LogsStep, WireView}
use Rattle.link_duplex.specs.declared.read_ahead.GetOutcome.{GetOutcome}
use Rattle.link_duplex.specs.declared.read_ahead.GetOutcome.TheVariants as outcome

-- The bytes that came fill the start of a room, and some of them were returned.
pub record IsWithin (given came : ℕ) (room : List ℕ) : Type 0 where
  pub returned : given ≤ came
  pub room_for : came ≤ length room

-- The first bytes were returned: all of them, or as many of them as fit in the room.
abbrev pub GivesPrefix : List ℕ → List ℕ → List ℕ → ℕ → Type 0
GivesPrefix old new room n = (n ≡ min (length room) (length old)) × (old ≡ take n room ++ new)

-- The bytes ahead after a get: some came and were appended; or none had come, or the end was found, or the limit was
-- reached and the wire was not called, or it failed.
abbrev pub LogsReadAhead : ℕ → List ℕ → List ℕ → WireView → WireView → Result GetOutcome DeviceError → Type 0
LogsReadAhead limit old new before now (Ok outcome.Came) =
    (came : List ℕ) × (new ≡ old ++ came) × (0 < length came) × IfLogged (LogsStep (Got came)) before.log now.log
LogsReadAhead limit old new before now (Ok outcome.Nothing) = (new ≡ old) × IfLogged LogsNothing before.log now.log
LogsReadAhead limit old new before now (Ok outcome.End) = (new ≡ old) × IfLogged (LogsStep (Got [])) before.log now.log
LogsReadAhead limit old new before now (Ok outcome.Full) = (new ≡ old) × (limit ≤ length old) × (now ≡ before)
LogsReadAhead limit old new before now (Err e) = (new ≡ old) × IfLogged LogsNothing before.log now.log

-- A get that reads ahead.
pub record ReadsAhead (limit : ℕ) (old new : List ℕ) (before now : WireView) (result : Result GetOutcome DeviceError) :
    Type 0 where
  pub takes : LogsReadAhead limit old new before now result
  pub cause : CountsDeviceFault before.faults now.faults result

-- Bytes were put, and those that were got meanwhile were appended to those ahead. The waits are as `LogsSteps` says,
-- for any number of bytes owed: so none was to read alone.
pub record PutsMeanwhile (limit : ℕ) (put old new : List ℕ) (before now : WireView) : Type 0 where
  pub got : List ℕ
  pub ahead : new ≡ old ++ got
  pub log : (owed : ℕ) → IfLogged (LogsSteps limit (length old) owed put got) before.log now.log

-- The bytes that a put of some took: the first n, or none after an error.
abbrev pub prefix_put : List ℕ → Result ℕ DeviceError → List ℕ
prefix_put bytes (Ok n) = take n bytes
prefix_put bytes (Err e) = []

-- Some of the first bytes were put, at least one; or it failed, and none was.
pub record PutsSome (limit : ℕ) (bytes old new : List ℕ) (before now : WireView) (result : Result ℕ DeviceError) :
    Type 0 where
  pub within : IfOk result (λ n. (0 < n) × (n ≤ length bytes))
  pub did : PutsMeanwhile limit (prefix_put bytes result) old new before now
  pub cause : CountsDeviceFault before.faults now.faults result

-- All bytes held back were put, and those that came meanwhile are ahead; or it failed, and the rest is held back.
pub record PutsAll (limit : ℕ) (old new ahead now_ahead : List ℕ) (before now : WireView)
    (result : Result (Unit {0}) DeviceError) : Type 0 where
  pub put : List ℕ
  pub order : old ≡ put ++ new
  pub did : PutsMeanwhile limit put ahead now_ahead before now
  pub all : OnOk result (new ≡ [])
  pub cause : CountsDeviceFault before.faults now.faults result

-- The first of the bytes held back were put, the rest is held back, and nothing was waited for.
pub record PutsAtOnce (old new : List ℕ) (before now : WireView) (result : Result (Unit {0}) DeviceError) : Type 0 where
  pub put : List ℕ
  pub order : old ≡ put ++ new
  pub log : (limit ahead owed : ℕ) → IfLogged (LogsSteps limit ahead owed put []) before.log now.log
  pub cause : CountsDeviceFault before.faults now.faults result

-- Bytes were read ahead, or the wire was waited for; or that failed.
pub record MakesWay (limit : ℕ) (old new : List ℕ) (before now : WireView) (result : Result (Unit {0}) DeviceError) :
    Type 0 where
  pub did : PutsMeanwhile limit [] old new before now
  pub cause : CountsDeviceFault before.faults now.faults result

-- ---- Worked rows: two bytes were read ahead; a room for one receives the first, and a room for three receives both

pub first_is_given : GivesPrefix (7 ∷ 8 ∷ []) (8 ∷ []) (7 ∷ []) 1
first_is_given = (refl, refl)

pub both_are_given : GivesPrefix (7 ∷ 8 ∷ []) [] (7 ∷ 8 ∷ 0 ∷ []) 2
both_are_given = (refl, refl)
