-- The condition under which a call of the environment may return that it failed.
use Rattle.std.specs.Prelude.{◌≡◌, ◌<◌, ℕ, Result, Ok, Err}
use Rattle.sftp_link.specs.declared.device_error.DeviceError.{DeviceError}
use Rattle.sftp_link.specs.declared.device_error.DeviceError.TheVariants.{OutOfMemory, Failed}

-- `Failed` is returned only if the count of faults rose. With any other result the count is unchanged.
abbrev pub CountsDeviceFault : {T : Type 0} → ℕ → ℕ → Result T DeviceError → Type 0
CountsDeviceFault before now (Ok x) = now ≡ before
CountsDeviceFault before now (Err OutOfMemory) = now ≡ before
CountsDeviceFault before now (Err Failed) = before < now
