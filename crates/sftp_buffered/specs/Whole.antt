-- Changes of a whole buffered file: its capacity, and the file below it.
use Rattle.std.specs.Prelude.{◌≡◌, ◌<◌, ◌^◌, ℕ, List, [], ◌∷◌, None, Result, Ok, Err, nat_le, if◌then◌else◌}
use Rattle.sftp_core.specs.Core.{Core, core_after_abandon}
use Rattle.sftp_file.specs.Files.{FileValue}
use Rattle.sftp_buffered.specs.declared.file.DeferredWrite.{DeferredWrite}
use Rattle.sftp_buffered.specs.Buffered.{CompatValue, IsSound, LeavesOthers}
use Rattle.sftp_buffered.specs.Steps.{IsLeft, read_dropped}

-- The file with nothing buffered, and the READ given up.
abbrev pub with_empty_buffer : CompatValue → CompatValue
with_empty_buffer c = record c { buffered = []; reading = None }

-- The file with its capacity lowered to `cap`. If the capacity was over `cap`, the buffer is emptied and has that
-- capacity.
abbrev pub with_capacity_at_most : CompatValue → ℕ → CompatValue
with_capacity_at_most c cap = if nat_le c.capacity cap then c else record (with_empty_buffer c) { capacity = cap }

abbrev pub shrunk_core : Core → CompatValue → ℕ → Core
shrunk_core core c cap = if nat_le c.capacity cap then core else read_dropped core c.reading

-- The call succeeded, or nothing changed.
abbrev pub ShrinksTo : {E : Type 0} → ℕ → Core → Core → CompatValue → CompatValue → Result (Unit {0}) E → Type 0
ShrinksTo cap old new p q (Ok u) = (q ≡ with_capacity_at_most p cap) × (new ≡ shrunk_core old p cap)
ShrinksTo cap old new p q (Err e) = IsLeft old new p q

-- The capacity was lowered. The file may be polled further, and others find the core as it was.
pub record ShrinksCapacity {E : Type 0} (cap : ℕ) (old new : Core) (p q : CompatValue) (result : Result (Unit {0}) E) :
    Type 0
  where
    pub shrinks : ShrinksTo cap old new p q result
    pub sound : IsSound new q
    pub others : LeavesOthers old new p

-- The READ was given up, and others find the core as it was. The emptied file may be polled further, no matter how the
-- file below is left.
pub record EmptiesBuffer (old new : Core) (c : CompatValue) : Type 0 where
  pub core : new ≡ read_dropped old c.reading
  pub sound : (file : FileValue) → file.offset < 2 ^ 64 → IsSound new (record (with_empty_buffer c) { file = file })
  pub others : LeavesOthers old new c

-- The core after all these writes were abandoned, the oldest first.
abbrev pub all_dropped : Core → List DeferredWrite → Core
all_dropped core [] = core
all_dropped core (d ∷ ds) = all_dropped (core_after_abandon core d.ticket) ds

-- The READ and the deferred writes were abandoned, and others find the core as it was.
pub record AbandonsRequests (old new : Core) (c : CompatValue) : Type 0 where
  pub core : new ≡ all_dropped (read_dropped old c.reading) c.deferred
  pub others : LeavesOthers old new c
