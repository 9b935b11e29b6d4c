-- A source and a sink in memory, and the results of their calls.
use Rattle.std.specs.Prelude.{◌≡◌, ℕ, List, ◌++◌, take, drop, length, min, true, false, Result, Ok, Err}
use Rattle.sftp_link.specs.declared.device_error.DeviceError.{DeviceError}
use Rattle.sftp_link.specs.declared.device_error.DeviceError.TheVariants.{OutOfMemory, Failed}
use Rattle.sftp_link.specs.Calls.{Counted, fails_next, after_call}

-- A source: the bytes that are left, and its calls.
pub record Supply : Type 0 where
  pub left : List ℕ
  pub calls : Counted

-- The state after a read of n bytes.
abbrev pub after_read : Supply → ℕ → Supply
after_read source n = record { left = drop n source.left; calls = after_call source.calls }

-- A read fails exactly if its number is listed. Otherwise it returns the bytes that are left, up to the size of the
-- room.
unfoldable pub ReadsNext : Supply → Supply → List ℕ → Result ℕ DeviceError → Type 0
ReadsNext before now room (Ok n) =
    (fails_next before.calls ≡ false) × (n ≡ min (length room) (length before.left))
    × (take n room ≡ take n before.left) × (now ≡ after_read before n)
ReadsNext before now room (Err e) = (e ≡ Failed) × (fails_next before.calls ≡ true) × (now ≡ after_read before 0)

-- A sink: the bytes that were written, and its calls.
pub record Store : Type 0 where
  pub written : List ℕ
  pub calls : Counted

-- The state after a write that took these bytes.
abbrev pub after_write : Store → List ℕ → Store
after_write sink bytes = record { written = sink.written ++ bytes; calls = after_call sink.calls }

-- The state after a write that took no bytes.
abbrev pub after_refusal : Store → Store
after_refusal sink = record { written = sink.written; calls = after_call sink.calls }

-- A write fails exactly if its number is listed. Otherwise it takes all the bytes, or an allocation failed.
unfoldable pub WritesNext : Store → Store → List ℕ → Result ℕ DeviceError → Type 0
WritesNext before now bytes (Ok n) =
    (fails_next before.calls ≡ false) × (n ≡ length bytes) × (now ≡ after_write before bytes)
WritesNext before now bytes (Err Failed) = (fails_next before.calls ≡ true) × (now ≡ after_refusal before)
WritesNext before now bytes (Err OutOfMemory) = (fails_next before.calls ≡ false) × (now ≡ after_refusal before)
